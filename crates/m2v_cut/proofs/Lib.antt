mod Scans
mod Going
mod Putting
mod Shapes
mod Fulls
mod Places
mod Lefts
mod Onwards
mod Takings
mod Intras
mod Firsts
mod Joins
mod Decided
mod Written
mod Limits
mod Prefixes
mod Finals
mod Behinds
mod Outcomes
mod Parts
mod Wholes
mod Refusals
mod Seconds
mod Stops
pub use Rattle.m2v_decode.proofs as m2v_decode
pub use Rattle.m2v_law_group.proofs as m2v_law_group
