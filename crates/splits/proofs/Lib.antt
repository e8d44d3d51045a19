-- The laws of the halving.
pub mod Halving
pub mod Sizes
pub mod Windows
pub mod SplitTheorems
