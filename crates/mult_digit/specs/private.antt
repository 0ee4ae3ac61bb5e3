pub mod Front
pub mod Powers
pub mod ProductNets
pub mod WordSums
pub mod Words
