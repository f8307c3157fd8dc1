-- The table of figures, and the laws of messages and tables: what is written or laid out reads back as itself.
pub mod Applied
pub mod Differences
pub mod Figures
pub mod Fit
pub mod FitUnit
pub mod Laid
pub mod LaidNetwork
pub mod LegalDifferences
pub mod LegalMessages
pub mod Noted
pub mod QueuedMessages
pub mod Reacting
pub mod TreeEntries
pub mod Words
pub mod Written
