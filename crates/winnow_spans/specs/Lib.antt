pub mod TokenSpan
