-- The C border: what its functions answer, and what they leave in the bytes that are lent.
pub mod HubBytes
pub mod MessageBytes
pub mod MeterBytes
pub mod NetworkBytes
pub mod Numbers
