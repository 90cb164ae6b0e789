pub mod DegreesTextLemmas
pub mod DigitLemmas
pub mod StepLemmas
