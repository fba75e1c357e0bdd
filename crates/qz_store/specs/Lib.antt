-- The shared store of shards. Reading order: Stores, Opening, Claims, Puts, Closing, HeldStore; and for the law that its table is the
-- round machine Showing, Steps, Schedules.
pub mod Claims
pub mod Closing
pub mod HeldStore
pub mod Opening
pub mod Puts
pub mod Schedules
pub mod Showing
pub mod Steps
pub mod Stores
