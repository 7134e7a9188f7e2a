pub mod Names
pub mod Record
pub mod Register
