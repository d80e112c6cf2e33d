pub mod Frames
pub mod Source
pub mod Making
pub use Rattle.m2v_check.specs as m2v_check
pub use Rattle.m2v_encode.specs.m2v_enc_stream
pub use Rattle.m2v_encode.specs as m2v_encode
pub use Rattle.m2v_encode.specs.m2v_law_shown
