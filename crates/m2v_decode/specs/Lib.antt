pub mod Decoding
pub mod Course
pub mod Rebuilt
pub mod AtHand
pub mod Taking
pub mod Answers
pub mod Progress
pub mod Complete
pub mod Reading
pub mod Passing
pub mod FaultWords
pub use Rattle.m2v_dec_rows.specs.m2v_dec_picture
pub use Rattle.m2v_dec_rows.specs as m2v_dec_rows
pub use Rattle.m2v_dec_piece.specs as m2v_dec_piece
