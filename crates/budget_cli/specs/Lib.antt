pub mod Pace
pub mod Reading
