-- The laws of `cases`.
pub mod Parts
