pub mod Basics
pub mod Rows
pub mod Listing
pub mod UndoLaw
pub mod Told
pub mod Growing
pub mod Valid
