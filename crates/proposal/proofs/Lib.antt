pub mod Steps
pub mod Kept
pub mod Walking
pub mod Weighing
pub mod Telling
pub mod Answers
