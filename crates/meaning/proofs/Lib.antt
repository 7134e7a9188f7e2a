pub mod Lists
pub mod Frames
pub mod Records
pub mod Clauses
pub mod Reading
