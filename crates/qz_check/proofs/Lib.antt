pub mod Plain
pub mod OneTurn
pub mod SumLemmas
pub mod PairLemmas
pub mod ColumnLemmas
pub mod TurnLemmas
