pub mod SayLemmas
mod WalkLemmas
