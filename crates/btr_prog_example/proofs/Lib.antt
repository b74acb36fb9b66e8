pub mod Shows
pub mod Lists
pub mod Kepts
pub mod Samples
