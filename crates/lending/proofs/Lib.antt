-- The law of exported functions that lend the parts of a struct to one call.
pub mod Walks
pub mod Forward
pub mod Spelt
pub mod Lending
pub mod Looking
pub mod Exports
pub mod Structs
