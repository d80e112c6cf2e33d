pub mod Macro
pub mod Steps
pub use Rattle.m2v_pred.specs.m2v_plane
pub use Rattle.m2v_pred.specs as m2v_pred
