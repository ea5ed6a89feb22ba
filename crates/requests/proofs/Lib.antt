-- What a request that is carried out leaves, and how it is stored.
pub mod Carrying
