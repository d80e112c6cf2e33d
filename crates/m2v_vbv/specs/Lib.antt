pub mod Annex
pub mod Account
pub mod Buffer
pub mod BufferWorked
pub mod Deliveries
