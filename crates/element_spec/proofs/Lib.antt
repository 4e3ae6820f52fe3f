pub mod KnownTables
pub mod ApartLemmas
