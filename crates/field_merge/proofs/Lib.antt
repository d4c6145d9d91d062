pub mod EscapeLemmas
mod BadEscapes
pub mod LineLemmas
pub mod RawLines
mod Packing
mod ShortLemmas
pub mod StampLemmas
pub mod Orders
pub mod Members
pub mod Hashing
mod Noting
mod Links
pub mod Ordered
pub mod Placing
pub mod Joining
pub mod Latest
pub mod Fields
pub mod Entering
pub mod Stored
pub mod Listed
pub mod LastOnes
pub mod Few
pub mod Coming
pub mod Tidying
pub mod LineFaults
pub mod Taking
