mod UncoveredLemmas
mod SearchedLemmas
mod LineLemmas
