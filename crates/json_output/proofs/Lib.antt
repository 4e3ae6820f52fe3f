pub mod ChainLemmas
pub mod ElementLemmas
pub mod RecordsLemmas
