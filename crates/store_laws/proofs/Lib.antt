pub mod MoveLaws
pub mod TakeLaws
