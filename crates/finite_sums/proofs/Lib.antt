pub mod Maps
pub mod Texts
pub mod Totals
pub mod MapSums
pub mod Classes
pub mod Sorted
