-- What the reader and the writer answer.
pub mod Fields
pub mod Kind
pub mod Numbers
pub mod Reading
pub mod Writing
