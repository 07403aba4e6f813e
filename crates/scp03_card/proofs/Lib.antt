pub mod GivesLemmas
pub mod Lengths
pub mod ListLemmas
pub mod OfferLemmas
pub mod SessionLemmas
