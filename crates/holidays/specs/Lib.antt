pub mod Builtin
pub mod File
