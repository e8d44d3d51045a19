-- What the labelling prepares, and the laws of block numbers.
pub mod Prepared
pub mod Numbers
pub mod Placements
pub mod Numbering
pub mod PlaceTable
pub mod Parts
pub mod Tables
pub mod Stretches
pub mod BlockRows
pub mod BlockIndex
pub mod BlocksApart
pub mod FilledBlocks
pub mod PreparationTheorems
