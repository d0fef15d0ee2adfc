pub mod ClearsLemmas
