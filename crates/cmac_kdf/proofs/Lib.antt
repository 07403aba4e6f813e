pub mod BlockLemmas
pub mod PaddingLemmas
pub mod CmacLemmas
pub mod CbcLemmas
pub mod DerivationLemmas
