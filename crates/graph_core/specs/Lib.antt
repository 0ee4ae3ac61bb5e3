pub mod Walk
pub mod Graph
pub mod Rows
pub mod Cycle
pub mod Arranged
pub mod Fault
pub mod Walking
