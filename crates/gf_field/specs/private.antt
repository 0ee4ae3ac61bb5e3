pub mod ShiftAndAdd
