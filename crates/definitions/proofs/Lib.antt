-- The laws that say in one line what the definitions of specs/ come to, each in the file of the same name as the definitions that it is of, and their proofs.
--   Blocks                                  the check is the inequality
--   Model                                   the intervals, what an extraction finds, the best of an interval
--   Index                                   what is found in a stretch
--   Text                                    what an accepted text is, and what 6 is left for
--   Causes                                  no two judgements have one number
--   Entries                                 what fixes the interval buffer of a session
--   Laws                                    the proofs
pub mod Causes
pub mod Laws
pub mod Blocks
pub mod Model
pub mod Index
pub mod Text
pub mod Entries
