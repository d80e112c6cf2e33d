pub mod Slices
pub mod Laws
pub mod Steps
pub mod Headers
pub mod Books
pub mod Kept
pub mod Cached
pub mod Jobs
pub mod Conditions
pub mod Windows
pub mod Needs
pub mod Works
pub mod Stands
pub use Rattle.m2v_choose.specs as m2v_choose
pub use Rattle.m2v_macroblock.specs as m2v_macroblock
pub use Rattle.m2v_macroblock.specs.m2v_recon
