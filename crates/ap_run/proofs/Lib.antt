pub mod PutLemmas
mod RunLemmas
mod Wrote
