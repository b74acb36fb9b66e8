mod Names
pub mod Numbers
pub mod Looking
pub mod Decidings
