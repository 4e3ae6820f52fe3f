pub mod OpenLemmas
pub mod CallLemmas
pub mod WordLemmas
