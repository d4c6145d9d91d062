pub mod Kept
pub mod Judged
pub mod Imports
pub mod Meant
pub mod Near
pub mod Columns
pub mod Changing
pub mod Cutting
