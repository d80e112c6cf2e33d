pub mod Decisions
pub mod Candidates
pub mod Choice
pub mod Own
pub mod Laws
pub mod Rows
pub mod Trials
pub use Rattle.m2v_search.specs as m2v_search
