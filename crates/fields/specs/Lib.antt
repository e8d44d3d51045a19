-- Laws of the fields: those that are read, and those that are written.
pub mod SixColumns
pub mod NineColumns
