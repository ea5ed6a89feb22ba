-- What a call finds, and how a guest is stored.
pub mod Stored
pub mod Finds
