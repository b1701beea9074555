pub mod RoleLaws
mod ChainTrees
mod ChainTurns
mod KnotTurns
mod InnerLaws
mod ExprLaws
mod OperandLaws
mod ChainLaws
mod AssignLaws
pub mod NestedLaws
pub mod FuelLaws
pub mod PublicLaws
pub mod Writings
pub mod OrderLaws
mod Examples
