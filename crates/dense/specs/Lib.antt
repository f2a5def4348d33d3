pub mod Dense
pub mod Answers
