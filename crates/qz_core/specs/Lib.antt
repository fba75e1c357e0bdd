pub mod HeldRound
pub mod RoundMachine
