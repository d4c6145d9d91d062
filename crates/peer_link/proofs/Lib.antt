pub mod Requests
pub mod Exchanges
pub mod Outcome
pub mod Serving
pub mod Meetings
pub mod Linked
pub mod Asking
