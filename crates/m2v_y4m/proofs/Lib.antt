pub mod Comings
mod ChunkLaws
mod FrameLaws
mod LineLaws
mod SizeLaws
mod Steps
pub mod Spots
pub mod Overs
mod WordLaws
mod Packs
mod Unpacks
mod UnpackTexts
mod Answering
mod Rows
