pub mod Condition
pub mod Disjunction
pub mod Loaded
pub mod Union
pub mod VersionSet
