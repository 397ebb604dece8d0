pub mod AppendLemmas
pub mod RecordLemmas
pub mod ReplyLemmas
pub mod TextCallLemmas
pub mod TextLemmas
