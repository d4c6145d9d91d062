pub mod Scores
pub mod Days
pub mod Reading
pub mod Conditions
pub mod Running
pub mod Edits
pub mod Laws
