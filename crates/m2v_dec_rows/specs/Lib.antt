pub mod Rows
pub mod Opened
pub mod Reads
pub mod ByRows
pub mod InFrames
pub mod Headers
pub mod Skims
pub mod OnePicture
pub mod Halves
pub use Rattle.m2v_dec_picture.specs as m2v_dec_picture
pub use Rattle.m2v_dec_unit.specs as m2v_dec_unit
pub use Rattle.m2v_pred.specs as m2v_pred
