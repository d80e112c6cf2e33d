pub mod Book
pub mod Core
pub mod Earlier
pub mod Lists
pub mod Machine
