mod Common
mod EndLemmas
mod LabelLemmas
mod ExtendLemmas
