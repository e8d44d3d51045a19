-- What the laws of the inequality that a block is checked for speak of. The laws are in proofs/.
--   Inequality   what the inequality says of four entries
--   Neighbours   the check by neighbours, linear in the table
--   QuickCheck   a quicker check
--   ReversedColumns   the check by neighbours where columns are reversed
pub mod Inequality
pub mod Neighbours
pub mod QuickCheck
pub mod ReversedColumns
