pub mod Place
pub mod Peer
pub mod Serving
pub mod Meeting
pub mod Asked
pub mod Laws
