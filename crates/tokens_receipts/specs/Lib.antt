pub mod Token
pub mod Receipt
