-- The definitions that the contracts and theorems of `backend` cite, in the order of document 01.
pub mod Streams
pub mod Rules
