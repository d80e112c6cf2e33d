pub mod Faults
pub mod States
pub mod Plain
pub mod Vectors
pub mod Macros
pub mod Conditions
pub mod Reading
pub mod Texts
pub mod Laws
pub use Rattle.m2v_head.specs as m2v_head
pub use Rattle.m2v_vector.specs as m2v_vector
