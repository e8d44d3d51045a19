-- What the laws of a field's value speak of. The laws themselves stand in the folder `Laws` of proofs/.
--   FieldBound                what has room in six columns
pub mod FieldBound
