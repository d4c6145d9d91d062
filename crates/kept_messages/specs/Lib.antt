pub mod Records
pub mod News
pub mod Pairs
pub mod Groups
pub mod Holding
