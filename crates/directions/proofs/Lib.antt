-- What the search over addresses and then ports has found.
pub mod Searches
