pub mod Streams
pub mod Removals
pub mod Sent
pub mod Slices
pub mod Trees
pub mod States
pub use Rattle.m2v_slice.specs as m2v_slice
