pub mod SpineLemmas
