pub mod Numbers
pub mod Words
pub mod Lines
pub mod Replies
pub mod Session
pub mod Laws
