-- The laws of `backend` that other crates cite.
pub mod Branches
pub mod Goodness
pub mod Answers
pub mod Pages
pub mod Arrivals
pub mod Falls
pub mod Stages
pub mod Cuts
pub mod Theorems
