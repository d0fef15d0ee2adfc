pub mod StackLemmas
pub mod RepeatLemmas
pub mod NumberLemmas
pub mod LoopLemmas
pub mod CitedLemmas
pub mod FindLemmas
