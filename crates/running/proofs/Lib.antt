-- The law that a public function's contract leaves one output.
pub mod OneOutput
