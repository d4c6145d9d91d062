pub mod Tables
pub mod Contents
pub mod Keeping
pub mod Adopting
pub mod Adopted
pub mod Queries
pub mod Making
pub mod Taking
