pub mod RowLemmas
pub mod ConnLemmas
pub mod PeerLemmas
