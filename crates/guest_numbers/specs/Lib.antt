-- What the guest's calls tell by number.
pub mod Answers
