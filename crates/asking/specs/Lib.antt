-- What can be asked of a network.
pub mod Asking
