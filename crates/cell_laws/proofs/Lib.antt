pub mod OnSheets
pub mod RowMonths
pub mod Least
