mod AgainLemmas
mod CauseLemmas
mod KnownTexts
mod CompleteLemmas
mod LogLemmas
pub mod PairLemmas
pub mod NameLemmas
