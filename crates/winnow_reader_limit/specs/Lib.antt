pub mod Within
pub mod WithinLaws
pub mod Bound
pub mod Limit
pub mod Why
pub mod LimitTelling
pub mod Scanned
