pub mod PrintingLemmas
pub mod RawLemmas
