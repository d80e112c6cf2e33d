pub mod MacroLaws
pub mod Steps
pub mod Patterns
pub mod Types
pub mod Components
pub mod Predicted
pub mod Ready
pub mod Lengths
pub mod Parts
pub mod Spellings
pub mod MacroSpellings
pub mod Decisions
pub use Rattle.m2v_head.proofs as m2v_head
pub use Rattle.m2v_vector.proofs as m2v_vector
pub mod Plain
