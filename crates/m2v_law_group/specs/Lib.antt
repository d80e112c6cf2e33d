pub mod Groups
pub mod Worked
pub mod Chosen
pub mod Lifted
pub use Rattle.m2v_dec_unit.specs as m2v_dec_unit
