pub mod FirstLemmas
pub mod DeterminedLemmas
pub mod BoundLemmas
pub mod ScanLemmas
