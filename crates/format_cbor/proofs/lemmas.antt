pub mod EntryReading
pub mod FloatLemmas
pub mod HeadReading
pub mod ItemReading
pub mod ItemWriting
pub mod ScalarReading
