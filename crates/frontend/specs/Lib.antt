-- The definitions that the contracts of `frontend` cite, in the order of the rules on the guest's end.
pub mod Starts
pub mod Rules
