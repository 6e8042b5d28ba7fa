pub mod Counts
pub mod Entries
pub mod SinkAnswers
pub mod SinkCalls
pub mod StoreAnswers
pub mod StoreCalls
