-- Laws that the proofs of the functions share.
pub mod OneAfterAnother
pub mod VertexTests
