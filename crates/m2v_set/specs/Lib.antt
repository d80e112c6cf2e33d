pub mod Numbers
pub mod Rules
pub mod Bounds
pub use Rattle.m2v_plane.specs as m2v_plane
