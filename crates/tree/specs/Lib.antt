-- What a tree is, and how deep it is: to be trusted.
pub mod Syntax
pub mod NameText
pub mod Depth
-- Which tree a value in memory stands for: what contracts say of the program's values.
pub mod View
