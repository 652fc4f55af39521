-- The laws of the list that the kind decision and the crates above use, and the theorems.
pub mod Order
pub mod Numbers
pub mod Runs
pub mod Parents
pub mod Unique
pub mod Sets
