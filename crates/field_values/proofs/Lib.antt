pub mod Numbers
pub mod Values
pub mod NameLemmas
pub mod HeadLemmas
pub mod FaultLemmas
pub mod FieldOrder
pub mod Folded
