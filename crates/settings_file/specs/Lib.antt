-- The definitions that the contracts of `settings_file` cite.
pub mod Loading
pub mod Inner
