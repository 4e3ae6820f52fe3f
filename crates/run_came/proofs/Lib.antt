pub mod InputLemmas
pub mod SinkLemmas
pub mod OutputLemmas
pub mod HandedLemmas
pub mod RunLemmas
pub mod ToldLemmas
