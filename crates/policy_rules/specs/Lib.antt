pub mod Found
pub mod GetStatusRequests
pub mod Requests
pub mod SetStatusRequests
pub mod Prelude
