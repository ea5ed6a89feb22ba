-- What holds of the queues that are chosen under good settings.
pub mod Queues
