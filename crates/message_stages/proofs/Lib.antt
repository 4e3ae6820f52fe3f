pub mod ItemLemmas
pub mod MessageLemmas
pub mod RoomLemmas
pub mod SetLemmas
pub mod SuitLemmas
