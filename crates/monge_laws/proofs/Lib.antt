-- Laws of the inequality that a block is checked for.
--   Inequality   what it says of four entries, and of two rows with labels
--   Neighbours   the check by neighbours, linear in the table, is the check of all pairs
--   QuickCheck   a quicker check that numbers pass, and whatever passes it is Monge
--   ReversedColumns   the check by neighbours where columns are reversed
pub mod Inequality
pub mod Neighbours
pub mod QuickCheck
pub mod ReversedColumns
