-- Workers. Reading order: Works.
pub mod Works
