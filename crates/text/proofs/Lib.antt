-- The laws that belong to no one function.
pub mod Growth
pub mod Places
