pub mod Going
mod PageLemmas
pub mod Places
mod RestLemmas
mod StepLemmas
