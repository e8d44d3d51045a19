-- What the listing's writer leaves, and the laws of its parts.
pub mod Output
pub mod Lines
pub mod Refusals
pub mod Lent
pub mod Listed
pub mod Front
