pub mod EndLaws
pub mod NoteLaws
pub mod Showing
pub mod FrameLaws
pub mod CourseLaws
pub mod StepLaws
pub mod ReadLaws
pub mod TakeLaws
pub mod TookLaws
pub mod OnwardLaws
pub mod Putting
pub mod Ordering
pub mod Going
pub mod Ending
pub mod LimitLaws
pub mod AnswerLaws
pub mod PassLaws
pub mod Passed
pub mod Following
pub use Rattle.m2v_dec_piece.proofs as m2v_dec_piece
pub use Rattle.m2v_dec_rows.proofs.m2v_dec_picture
pub use Rattle.m2v_dec_rows.proofs as m2v_dec_rows
