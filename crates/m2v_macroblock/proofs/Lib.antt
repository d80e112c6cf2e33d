pub mod KindLaws
pub mod DcLaws
pub mod DualLaws
pub mod BlockTexts
pub use Rattle.m2v_block.proofs as m2v_block
pub use Rattle.m2v_macro.proofs.m2v_head
pub use Rattle.m2v_macro.proofs as m2v_macro
pub use Rattle.m2v_recon.proofs as m2v_recon
pub mod Counted
