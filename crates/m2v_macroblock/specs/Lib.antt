pub mod Macroblocks
pub mod Conditions
pub mod Texts
pub mod Modes
pub mod Predictions
pub use Rattle.m2v_block.specs as m2v_block
pub use Rattle.m2v_macro.specs.m2v_head
pub use Rattle.m2v_macro.specs as m2v_macro
pub use Rattle.m2v_recon.specs.m2v_pred
pub use Rattle.m2v_block.specs.m2v_quant
pub use Rattle.m2v_recon.specs as m2v_recon
pub use Rattle.m2v_macro.specs.m2v_vector
pub use Rattle.m2v_block.specs.m2v_vlc
