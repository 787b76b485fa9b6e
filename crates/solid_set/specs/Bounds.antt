-- The boxes of the kinds of solids: each stands with its kind.
pub use Rattle.prim_arb8.specs.Bounds.{box_of}
pub use Rattle.prim_half.specs.Halves.{all_of_space}
