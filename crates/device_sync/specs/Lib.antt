pub mod Replies
pub mod Judged
pub mod Requests
pub mod Talk
pub mod Honest
pub mod Served
pub mod Laws
pub mod Sync
