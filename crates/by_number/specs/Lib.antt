-- The definitions that the contracts of `by_number` cite.
pub mod Answers
