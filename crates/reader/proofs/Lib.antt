pub mod KindLaws
pub mod MarkLaws
pub mod PassLaws
pub mod ReaderExamples
pub mod ScanLaws
pub mod ShortLaws
pub mod SpanLaws
