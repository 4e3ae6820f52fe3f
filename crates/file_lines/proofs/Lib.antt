pub mod TextLemmas
pub mod SessionLemmas
pub mod OpenLemmas
pub mod WorkLemmas
pub mod ClosingLemmas
pub mod RunLemmas
