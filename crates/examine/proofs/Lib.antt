pub mod Cells
pub mod Scans
pub mod Literals
pub mod CacheLaws
pub mod Small
pub mod Stand
pub mod Examining
