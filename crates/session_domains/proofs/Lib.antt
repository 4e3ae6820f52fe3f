pub mod DomainLemmas
pub mod SessionLemmas
