mod BeginningLemmas
mod LineLemmas
mod ComingLemmas
mod RunLemmas
mod ShownLemmas
