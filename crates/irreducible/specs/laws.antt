pub mod SpanLaws
pub mod AdditiveLaws
