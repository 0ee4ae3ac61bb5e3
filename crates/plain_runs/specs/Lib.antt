pub mod JobOfParts
pub mod Found
pub mod CutParts
pub mod private
