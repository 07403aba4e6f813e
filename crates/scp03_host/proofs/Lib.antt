pub mod AgreementLemmas
pub mod ReplyLemmas
pub mod SentLemmas
