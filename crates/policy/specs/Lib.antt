pub mod Answers
pub mod Choice
