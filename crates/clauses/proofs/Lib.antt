pub mod InsertLaws
pub mod Kept
pub mod Naming
pub mod Ranking
pub mod ReadBack
pub mod Registers
