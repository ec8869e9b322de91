pub mod Arguments
pub mod Chains
pub mod Costs
pub mod Standing
pub mod Walking
pub mod Members
pub mod Chosen
pub mod Rounds
