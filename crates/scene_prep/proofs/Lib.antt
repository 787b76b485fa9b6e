mod Colours
mod Coming
mod Counting
mod Expansions
mod Finishing
mod Keys
mod Numbers
mod Parts
mod PathLines
pub mod Pointing
mod SameParts
pub mod Scening
mod Settling
mod Sizing
mod Tasks
mod Together
mod United
mod Walking
mod Whole
mod Within
mod Worlds
mod Writing
