pub mod PushLemmas
pub mod RecordLemmas
