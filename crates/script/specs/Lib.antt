pub mod Numbers
pub mod States
pub mod Answers
pub mod Words
