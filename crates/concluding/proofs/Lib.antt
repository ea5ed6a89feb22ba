-- The ways of an event, each as its definition has it.
pub mod Steps
