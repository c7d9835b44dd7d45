pub mod LineEnds
pub mod ShownLines
pub mod Starts
