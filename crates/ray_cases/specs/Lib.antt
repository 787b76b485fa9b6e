pub mod UnionLess
