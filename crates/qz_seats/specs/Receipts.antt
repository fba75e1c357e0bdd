-- What a receipt tells.
use Rattle.std.specs.Prelude.{ℕ}

-- the number of a value, a place in its journal and the entry there
pub record ReceiptParts : Type 0 where
  pub shard : ℕ
  pub place : ℕ
  pub item : ℕ
