-- The state of an interface, and one event, in the order of document 01.
pub mod States
pub mod Events
