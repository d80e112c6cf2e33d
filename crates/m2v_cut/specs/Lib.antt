pub mod Answers
pub mod Behind
pub mod Looks
pub mod Progress
pub mod Starts
pub use Rattle.m2v_decode.specs as m2v_decode
pub use Rattle.m2v_law_group.specs as m2v_law_group
