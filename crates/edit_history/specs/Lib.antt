pub mod Undo
pub mod History
pub mod Laws
