pub mod Reports
pub mod Paired
pub mod Lines
