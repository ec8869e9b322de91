pub mod Choosing
pub mod Conflicts
pub mod Wides
pub mod Checking
pub mod Content
pub mod Solving
pub mod Inside
pub mod Concrete
