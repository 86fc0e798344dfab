pub mod Pools
pub mod Uses
