pub mod Layout
pub mod Soundness
pub mod Reading
pub mod Flat
pub mod Forms
