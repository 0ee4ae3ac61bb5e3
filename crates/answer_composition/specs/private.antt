pub mod Composing
