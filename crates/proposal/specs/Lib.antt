pub mod Turn
pub mod Propose
