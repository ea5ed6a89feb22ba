-- The laws behind the promises of `guest_messages`, and the theorems over its definitions and the host's.
pub mod Accepts
pub mod Buffers
pub mod Fields
pub mod Judged
pub mod Encodings
pub mod Answers
pub mod Leaves
pub mod Theorems
