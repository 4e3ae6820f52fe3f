pub mod FieldLemmas
pub mod ViewLemmas
