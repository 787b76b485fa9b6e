pub mod Trees
pub mod Stacks
