pub mod TrailLemmas
pub mod BindLemmas
pub mod BelowLemmas
pub mod AscendingLemmas
pub mod SoundLemmas
pub mod TableLemmas
pub mod StoredLemmas
pub mod MarkLemmas
pub mod LikeLemmas
pub mod HeldLemmas
mod JoinedLemmas
pub mod StoreLemmas
pub mod FollowLemmas
mod HeadLemmas
pub mod ReachLemmas
pub mod OccurrenceLemmas
mod OwnLemmas
mod MentionLemmas
mod WaitingLemmas
pub mod PassedLemmas
mod NarrowLemmas
pub mod WalkLemmas
