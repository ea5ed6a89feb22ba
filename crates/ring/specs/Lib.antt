-- The definitions that the contracts of `ring` cite.
pub mod Reading
pub mod Writing
pub mod Streams
pub mod Inner
