mod CrewLemmas
mod DeskLemmas
mod LineLemmas
mod PartLemmas
mod TextLemmas
