-- The laws that the proofs of `header` share, and its theorems.
pub mod Widths
pub mod BigEndian
pub mod Vints
pub mod Data
pub mod Headers
pub mod Replies
pub mod Unique
pub mod Inside
pub mod Determined
pub mod Moves
