-- What `page` prints.
pub mod Page
