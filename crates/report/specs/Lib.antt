-- The definitions that the contracts of `report` cite.
pub mod Counting
pub mod Reports
pub mod Inner
