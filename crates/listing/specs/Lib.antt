-- What `show` prints: by the rules, and from what is asked of a unit.
pub mod Showing
pub mod Shown
