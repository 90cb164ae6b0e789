pub mod Common
pub mod RecordLemmas
pub mod NameLemmas
pub mod StateLemmas
pub mod HistoryLemmas
pub mod DumpLemmas
pub mod CountLemmas
