pub mod Dc
pub mod Faults
pub mod Blocks
pub mod Reading
pub mod Texts
pub mod Lengths
pub mod Marked
pub use Rattle.m2v_quant.specs as m2v_quant
pub use Rattle.m2v_vlc.specs as m2v_vlc
