pub mod KnownTexts
pub mod DifferentLemmas
pub mod LineLemmas
pub mod StringLemmas
