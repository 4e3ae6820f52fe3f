mod OutLemmas
mod OpenLemmas
mod PlaceLemmas
mod SinkLemmas
mod AllLemmas
