pub mod Evidence
pub mod Judged
pub mod Laws
pub mod Sheets
pub mod Worked
