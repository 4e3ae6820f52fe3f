pub mod KeyLemmas
pub mod CountLemmas
pub mod RoomLemmas
pub mod ArrivalLemmas
pub mod SessionLemmas
