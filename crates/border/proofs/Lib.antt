-- Laws that several proofs of the border cite.
pub mod Asking
pub mod HubBorder
pub mod MessageBorder
pub mod MeterBorder
pub mod NetworkBorder
pub mod Numbers
pub mod OneOutput
