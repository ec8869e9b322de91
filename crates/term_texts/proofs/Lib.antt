mod Pieces
mod Trees
mod Ending
mod Weaving
mod Stacks
