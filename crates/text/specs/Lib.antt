-- The text reader's parts: what each promises, and the laws of reading line by line.
pub mod Outcomes
pub mod ReadSteps
pub mod Padding
pub mod Returns
pub mod RowReading
pub mod PieceReading
pub mod Back
pub mod QuestionReading
pub mod Plans
pub mod Accepted
