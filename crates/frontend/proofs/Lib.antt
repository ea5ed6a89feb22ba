-- The laws behind the promises of `frontend`, and the theorems over its definitions.
pub mod Goodness
pub mod Starts
pub mod Ways
pub mod GuestAnswers
pub mod GuestRules
pub mod GuestPages
