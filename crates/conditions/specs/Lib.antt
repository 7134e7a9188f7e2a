pub mod Disjunct
pub mod Dnf
pub mod Rewrite
pub mod Steps
pub mod Tree
pub mod Truth
pub mod Ways
