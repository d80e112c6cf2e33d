pub mod Judged
pub mod Limits
pub mod StreamLimits
pub mod MadeLaws
pub mod FrameLaws
pub mod SourceLaws
pub mod CodedLaws
pub mod SettingsLaws
pub use Rattle.m2v_check.proofs as m2v_check
pub use Rattle.m2v_encode.proofs.m2v_law_shown
pub use Rattle.m2v_encode.proofs as m2v_encode
