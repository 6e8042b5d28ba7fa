pub mod AddressLaws
pub mod LineLaws
pub mod MemoLaws
pub mod PrintLaws
pub mod ReadLaws
pub mod Readable
pub mod RoundTrip
mod Rows
pub mod TraceTurns
