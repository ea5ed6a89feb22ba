-- The octets of an ack.
pub mod Sights
