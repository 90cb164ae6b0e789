pub mod ReceiverLaws
pub mod Rows
pub mod CommandLaws
pub mod CommandRows
pub mod RunLaws
pub mod LogLaws
