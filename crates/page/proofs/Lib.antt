-- The laws of the page that more than one crate cites.
pub mod Places
pub mod CountLaws
pub mod Untouched
pub mod Tests
