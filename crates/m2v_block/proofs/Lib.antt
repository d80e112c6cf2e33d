pub mod Numbers
pub mod Ranges
pub mod BlockLaws
pub mod Written
pub mod Shortest
pub mod PairLengths
pub mod Counted
mod Marking
pub mod DcSpellings
pub mod Spellings
pub use Rattle.m2v_vlc.proofs as m2v_vlc
pub mod Looks
pub mod Escapes
mod DcLooks
