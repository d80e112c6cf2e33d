pub mod Jobs
pub mod Batches
pub mod Pieces
pub mod Values
pub mod Learned
pub mod Works
pub mod Below
pub mod Examples
pub mod Painted
pub mod Filled
pub use Rattle.m2v_dec_rows.specs.m2v_dec_picture
pub use Rattle.m2v_dec_rows.specs as m2v_dec_rows
