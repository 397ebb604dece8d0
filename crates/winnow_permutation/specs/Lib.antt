pub mod Tried
pub mod AnyOrder
pub mod Permutation
pub mod PermutationErrors
