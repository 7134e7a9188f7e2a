pub mod Copy
pub mod Load
pub mod Part
pub mod Tables
