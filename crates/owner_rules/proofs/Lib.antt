-- Proofs about the definitions of `owner`: its laws at one header, and its theorems.
pub mod Cases
pub mod Steps
pub mod Links
pub mod Headers
pub mod Walking
pub mod Asked
pub mod Turns
pub mod Sound
pub mod Found
pub mod Unique
pub mod Alone
pub mod Refusals
pub mod Exactly
pub mod Forest
pub mod Same
pub mod Chains
pub mod Live
