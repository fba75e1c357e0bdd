pub mod SoundClasses
pub mod Sides
pub mod Renaming
