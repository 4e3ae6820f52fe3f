mod SetLemmas
mod TextLemmas
