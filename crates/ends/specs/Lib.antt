-- What the theorems on the two ends speak of.
pub mod Ends
