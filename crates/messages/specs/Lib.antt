-- The definitions that the contracts of `messages` cite, in the order of document 01.
pub mod Wire
pub mod Settings
pub mod Requests
pub mod Inner
