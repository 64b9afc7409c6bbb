mod CountLemmas
mod FirstLemmas
mod FrontLemmas
mod LeftLemmas
mod OrderLemmas
mod TallyLemmas
