mod Common
pub mod SessionLemmas
pub mod CsvBytes
pub mod CsvRecords
pub mod Writing
pub mod BlockLemmas
pub mod WholeLines
pub mod RecordWords
pub mod LineRecords
pub mod LinesRead
