-- A lent rectangle: its rows, and its judgement.
pub mod RectangleRows
pub mod RectangleJudgement
