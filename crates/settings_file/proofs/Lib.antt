-- The laws of `settings_file`.
pub mod Loads
pub mod Firsts
