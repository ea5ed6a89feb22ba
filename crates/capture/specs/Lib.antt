-- The definitions that the contracts of `capture` cite.
pub mod Header
pub mod Records
pub mod Packets
pub mod Reading
