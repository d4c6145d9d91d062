pub mod Sheets
pub mod Ranges
