mod Refuted
mod Nodes
mod Texts
mod Symbols
mod Sets
mod MadeImages
