pub mod Six
pub mod Regions
pub mod Totals
pub mod Leaving
pub mod History
pub mod Scripts
pub mod Trying
pub mod Outputs
