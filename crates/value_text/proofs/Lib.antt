pub mod DottedLemmas
pub mod RowLemmas
pub mod ListLemmas
pub mod DigitLemmas
pub mod HexLemmas
pub mod RunLemmas
