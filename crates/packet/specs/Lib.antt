-- The definitions that the contract of `packet` cites.
pub mod Packets
