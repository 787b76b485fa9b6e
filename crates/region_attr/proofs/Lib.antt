pub mod Cuts
pub mod ValueForm
pub mod ColourForm
pub mod Setting
