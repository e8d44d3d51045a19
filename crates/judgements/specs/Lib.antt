-- What the judgements of lent places answer, and their laws.
pub mod LentPieces
pub mod PieceJudgement
