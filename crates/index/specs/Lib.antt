-- The index of a row: what it holds in an array of rows, the laws of its halves, and that as built it gives the lowest column of least length.
pub mod HeldRows
pub mod PutPlaces
pub mod StretchHalves
pub mod Questions
pub mod RowQuestions
pub mod HeldLaws
pub mod FilledRows
pub mod IndexRows
pub mod IndexEntries
pub mod IndexTheorems
