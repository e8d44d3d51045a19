-- What the list of splits holds, and what the laws of the halving speak of. The laws are in proofs/.
pub mod Table
pub mod Halving
pub mod Sizes
pub mod Windows
