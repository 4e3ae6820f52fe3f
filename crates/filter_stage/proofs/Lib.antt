mod MatchLemmas
mod PreparedLemmas
