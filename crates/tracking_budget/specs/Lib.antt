pub mod Tracked
pub mod CellOf
pub mod SheetOf
pub mod Names
pub mod Parts
pub mod Laws
pub mod Told
