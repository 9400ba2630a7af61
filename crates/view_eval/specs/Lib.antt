pub mod Eval
