pub mod CutLemmas
pub mod ProgressLemmas
pub mod StepLemmas
pub mod WordLemmas
