-- What the contracts of `fields` say is read.
pub mod Read
