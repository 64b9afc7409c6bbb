pub mod ReadyQueue
