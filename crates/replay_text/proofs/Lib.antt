mod Behind
mod Rows
pub mod Runs
