-- What the laws of the heap model of a Monge rectangle speak of. The laws are in proofs/.
pub mod Lesser
pub mod Parents
pub mod Won
pub mod ModelCalls
pub mod Sound
pub mod Sides
pub mod Edits
pub mod Gaps
pub mod Activate
pub mod Bests
pub mod TraceCounts
pub mod ColumnParents
