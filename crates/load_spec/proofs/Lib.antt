pub mod CountLemmas
pub mod DrawLemmas
pub mod LastLemmas
pub mod SaidLemmas
pub mod StreamLemmas
