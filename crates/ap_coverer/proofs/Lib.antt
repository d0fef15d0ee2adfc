mod CovererLemmas
mod FillLemmas
mod FollowLemmas
mod MatchLemmas
