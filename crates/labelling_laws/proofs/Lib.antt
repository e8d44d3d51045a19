-- The labelling: its laws, and the theorems about every accepted network.
pub mod VertexPlaces
pub mod Labels
pub mod Activated
pub mod OneBlock
pub mod Walks
pub mod BlockSteps
pub mod Ends
pub mod Exact
pub mod Acceptance
pub mod Arcs
pub mod LoopLaws
pub mod BlockTraces
pub mod Routes
pub mod PieceBlocks
pub mod LentNetworks
pub mod ListedNumbers
pub mod LabellingTheorems
