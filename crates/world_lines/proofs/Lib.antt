pub mod Digits
pub mod WordAt
pub mod Weights
pub mod Behind
pub mod Naming
pub mod Sets
pub mod Playing
