pub mod EntryLemmas
pub mod OutputLemmas
pub mod BehindLemmas
pub mod LogLemmas
