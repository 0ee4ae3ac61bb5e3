pub mod PivotLaws
pub mod SquareLaws
pub mod InverseLaws
pub mod MatrixLaws
pub mod InverseMatrixLaws
mod Examples
pub mod KernelLemmas
