pub mod TextNumbers
