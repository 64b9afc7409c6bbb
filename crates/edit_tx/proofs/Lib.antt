pub mod Txs
pub mod Merging
