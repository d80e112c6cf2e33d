pub mod Firsts
pub mod Told
pub mod Merging
pub mod Displaying
pub mod Placing
pub mod Framing
pub mod RuleLaws
pub mod AmountLaws
pub mod CourseLaws
pub mod SetupLaws
pub mod Accounting
pub mod OneMeaning
pub mod AnswerLaws
pub mod Telling
pub mod Ordered
pub mod Accounted
pub mod Listed
pub mod Concluding
pub mod Ruling
pub mod Onward
pub mod Checking
pub mod Summing
pub mod Verdicts
pub use Rattle.m2v_model.proofs as m2v_model
pub use Rattle.m2v_decode.proofs as m2v_decode
