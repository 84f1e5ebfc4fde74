pub mod Holding
pub mod Gossip
pub mod Nodes
pub mod Handing
pub mod Taking
pub mod Known
pub mod Refusals
