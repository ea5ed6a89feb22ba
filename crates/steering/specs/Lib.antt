-- The definitions that the contracts of `steering` cite.
pub mod Steering
pub mod Inner
