pub mod Coding
pub mod Groups
pub mod Calls
pub mod Display
pub mod Whole
pub mod Times
pub use Rattle.m2v_set.specs.m2v_plane
pub use Rattle.m2v_set.specs as m2v_set
