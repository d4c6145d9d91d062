pub mod Answers
mod Decided
mod Elsewhere
mod Faults
mod Fronts
mod Judged
mod Lengths
mod Requests
mod Routing
mod Sets
mod Tens
mod Texts
mod Verdicts
mod Visits
mod Pieces
