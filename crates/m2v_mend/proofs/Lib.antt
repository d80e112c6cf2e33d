pub mod EditLaws
pub mod UnitLaws
pub mod InfoLaws
pub mod FrontLaws
pub mod HeadLaws
pub mod Bare
pub mod SliceUnits
pub mod Stretched
pub mod PartLaws
pub mod BareLaws
pub mod FedLaws
pub mod Gathering
mod Walking
mod Walked
mod Answered
mod Lasting
mod Showing
mod Stepping
mod Beginning
mod Closing
mod Ruling
mod Breaking
pub mod Gaps
pub mod Made
pub mod Put
mod CopyLaws
mod Copied
mod PutBehind
pub mod LimitLaws
pub mod SpanLaws
pub mod FoldLaws
pub use Rattle.m2v_law_seam.proofs as m2v_law_seam
pub mod Parting
pub mod CopyEdits
pub mod Openings
pub mod Standalone
pub mod Trying
pub mod Firsts
pub mod Headed
pub mod Written
pub mod Lying
pub mod Nexts
pub mod Growing
pub mod Passing
pub mod Onward
pub mod Flushing
pub mod Coming
pub mod Ended
