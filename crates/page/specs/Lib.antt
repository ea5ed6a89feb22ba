-- The definitions that the contracts of `page` cite, in the order of document 01.
pub mod Refusals
pub mod Page
