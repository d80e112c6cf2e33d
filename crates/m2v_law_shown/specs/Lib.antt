pub mod Views
pub mod Rows
pub mod Showing
pub mod Stores
pub mod Runs
pub mod Laws
pub mod Own
pub mod Places
pub mod Telling
pub mod Told
pub mod Accounts
pub mod Texts
pub mod Headline
pub use Rattle.m2v_enc_stream.specs as m2v_enc_stream
pub use Rattle.m2v_slice.specs as m2v_slice
