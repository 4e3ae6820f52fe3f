pub mod KnownLemmas
pub mod TreeLemmas
pub mod TextLemmas
pub mod KeyedLemmas
pub mod NameLemmas
pub mod BuiltinLemmas
