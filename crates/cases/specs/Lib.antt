-- What a run over the cases of a file promises.
pub mod Taking
