-- The laws of `answer_lines`.
pub mod Keys
