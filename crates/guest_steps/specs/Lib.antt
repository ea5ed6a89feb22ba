-- The state of a guest and its calls, in the order of the rules on the guest's end.
pub mod Refusals
pub mod Guest
pub mod Calls
pub mod Inner
