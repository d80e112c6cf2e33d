pub mod Breaking
pub mod Running
pub mod Laws
pub mod Holding
pub mod Judging
pub mod Accounts
pub mod Meaning
pub mod Answers
pub mod Progress
pub use Rattle.m2v_dec_piece.specs as m2v_dec_piece
pub use Rattle.m2v_decode.specs as m2v_decode
pub use Rattle.m2v_model.specs as m2v_model
