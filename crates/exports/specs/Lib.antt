-- What the exported field reader leaves, and the exported question to an index: their laws.
pub mod FieldEntryLaws
pub mod AskEntryLaws
