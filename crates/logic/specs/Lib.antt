-- Laws of tests and numbers, below every definition of the product.
pub mod Tests
