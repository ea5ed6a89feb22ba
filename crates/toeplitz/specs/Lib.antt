-- The definitions that the contracts of `toeplitz` cite, in the order of document 01.
pub mod Refusals
pub mod Hash
pub mod Step
pub mod Xor
pub mod TwoWay
pub mod Inner
