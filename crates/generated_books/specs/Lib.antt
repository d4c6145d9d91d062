pub mod Draws
pub mod Generated
pub mod Numbers
pub mod Clocks
pub mod Summary
