-- What is said of the children that an iterator still has to give.
pub mod Left
