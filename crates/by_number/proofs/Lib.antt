-- What the writer tells by number.
pub mod Told
