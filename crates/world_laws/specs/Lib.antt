pub mod Begun
pub mod Equal
pub mod Said
pub mod Told
pub mod Generated
