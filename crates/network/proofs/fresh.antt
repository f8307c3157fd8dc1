-- The laws by which a fresh network's tables are laid.
pub mod FreshTables
