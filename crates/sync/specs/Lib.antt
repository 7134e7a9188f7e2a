pub mod Sweep
pub mod Sync
pub mod Table
