mod Common
pub mod StoredLines
pub mod Parts
pub mod Passing
pub mod LoggedEvents
pub mod WholeTexts
pub mod Compacting
pub mod Fronts
pub mod Padding
pub mod Behind
pub mod NativeTexts
pub mod Crashes
pub mod Scans
pub mod Reading
