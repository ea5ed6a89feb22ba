-- What the questions tell by number.
pub mod Answers
