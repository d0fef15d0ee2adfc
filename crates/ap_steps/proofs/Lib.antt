pub mod BodyLemmas
pub mod WaitLemmas
pub mod NameLemmas
pub mod GivenLemmas
pub mod TellingLemmas
pub mod DepthLemmas
pub mod HtmlLemmas
