-- What the search for a difference promises; the definitions of the two-way question are in `toeplitz`.
pub mod Inner
