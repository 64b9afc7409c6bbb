pub mod FrontLemmas
pub mod OpLemmas
pub mod PieceLemmas
pub mod ValueLemmas
pub mod VerbLemmas
