-- The proofs of the laws in the files Blocks, Model, Index, Text and Entries: what the definitions that are made for computing come to. Nothing here has to be
-- believed.
--   MongeLaws                                 of `passes` in the file Blocks
--   LeastLaws                                 of `least_left` in the file Model
--   RunProofs RunLaws                         of `intervals` in the file Model
--   OrderLaws                                 of the order of intervals, in the files Model and Entries
--   FieldProofs LineProofs FieldBack LineBack of `read_text` in the file Text: from a text to its plan, and back; for one field, for all lines
--   FieldKinds                                plain fields and length fields: each is read as it is written, and back
--   TextLaws                                  the same, of the whole text
--   NeverRefused Diagonal                     what a text is refused for: of `refused_by_6_exactly` in the file Text
--   FieldBound                                the bound on a field's value; its steps, a digit more, serve the code's reader too
--   Members CauseLaws ReadLaws                parts of these: members of lists, causes that are 0, what was read taken apart
pub mod Members
pub mod CauseLaws
pub mod MongeLaws
pub mod LeastLaws
pub mod RunProofs
pub mod RunLaws
pub mod OrderLaws
pub mod ReadLaws
pub mod FieldProofs
pub mod FieldBound
pub mod FieldBack
pub mod FieldKinds
pub mod LineProofs
pub mod LineBack
pub mod TextLaws
pub mod NeverRefused
pub mod Diagonal
