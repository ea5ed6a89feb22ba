-- The definitions that the contracts of `guest_messages` cite, in the order of document 01.
pub mod Refusals
pub mod Reader
pub mod Writer
