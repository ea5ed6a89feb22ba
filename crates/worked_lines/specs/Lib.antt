-- The worked lines, in document 01's order.
pub mod Lines
