pub mod Candidates
pub mod Cases
pub mod Finding
pub mod Holding
pub mod Measuring
pub mod Terms
pub mod Whole
pub mod Writing
