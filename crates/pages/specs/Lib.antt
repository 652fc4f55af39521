-- The definitions that the contracts of `pages` cite.
pub mod Text
pub mod Page
