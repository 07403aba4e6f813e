pub mod TagLemmas
pub mod LengthLemmas
pub mod SpellingLemmas
pub mod Answer
mod ReadLemmas
