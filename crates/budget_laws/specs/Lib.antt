pub mod Wanting
pub mod Noting
pub mod Giving
pub mod Judging
