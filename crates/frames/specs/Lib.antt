-- The meter over a network's routes: its frames and calls, its table, and its figures from the accepted calls.
pub mod Account
pub mod Meter
pub mod MeterTable
