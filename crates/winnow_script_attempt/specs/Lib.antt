pub mod Settled
pub mod Looks
pub mod Missing
pub mod Fitting
