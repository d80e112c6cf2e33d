pub mod Elements
pub mod Remarks
pub mod RuleSets
pub mod SequenceRules
pub mod GroupRules
pub mod TimeRules
pub mod PictureRules
pub mod OrderRules
pub mod ArrivalRules
pub mod ParityRules
pub mod OtherRules
pub mod DvdRules
pub mod BroadcastRules
pub mod SetRules
pub mod Worked
pub use Rattle.m2v_check.specs as m2v_check
