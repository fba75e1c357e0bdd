pub mod Views
pub mod Expected
pub mod FormParts
pub mod Spelled
pub mod Stated
pub mod ProgramLimits
