-- Shown text, what `text_range` and `shown_text` promise of it, and the statements of the theorems.
pub mod Shown
pub mod Promise
pub mod Theorems
pub mod Cases
