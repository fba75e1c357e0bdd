-- The rule of the seat table, and what each call says. Reading order: Receipts, Views, SeatRule, Steps, Answers, Parts.
pub mod Answers
pub mod Parts
pub mod Receipts
pub mod SeatRule
pub mod Steps
pub mod Views
