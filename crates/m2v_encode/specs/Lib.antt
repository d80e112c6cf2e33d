pub mod Answers
pub mod Groups
pub mod Kept
pub mod Places
pub mod Ready
pub mod Rebuilt
pub mod Steps
pub use Rattle.m2v_law_shown.specs.m2v_enc_stream
pub use Rattle.m2v_law_shown.specs as m2v_law_shown
