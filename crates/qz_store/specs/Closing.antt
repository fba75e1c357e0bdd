-- What a closed store hands back.
use Rattle.std.specs.Prelude.{◌≡◌, ◌≢◌, ℕ, ◌<◌, ◌≤◌, true, List, ◌++◌, length, slice_get, Some, Contains, All}
use Rattle.std.specs.List.{AllPairs}
use Rattle.qz_seats.specs.declared.view.View.{View}
use Rattle.qz_seats.specs.Receipts.{ReceiptParts}
use Rattle.qz_shard.specs.Shards.{ShardParts}
use Rattle.qz_store.specs.Stores.{StoreParts, list_of, old_journal, home_in, HasClaimed}

-- there is a receipt for this place of shard k
abbrev pub HasReceiptAt : View → ℕ → ℕ → Type 0
HasReceiptAt v k place = (receipt : ReceiptParts) × Contains v.receipts receipt × (receipt.shard ≡ k) × (receipt.place ≡ place)

-- shard number k is as at the opening, with more entries after those of its journal, each of which has a receipt
pub record IsGrownShard (s : StoreParts) (v : View) (k : ℕ) (shard : ShardParts) : Type 0 where
  pub after : List ℕ
  pub is : shard ≡ record { number = k; bounds = s.bounds; probe = s.probe; journal = old_journal s k ++ after }
  pub receipt_at : (place : ℕ) → length (old_journal s k) ≤ place → place < length shard.journal → HasReceiptAt v k place

-- the receipt is for a claimed rank in the shard where it belongs, and the rank stands there at its place, after the entries of the opening
pub record IsKeptReceipt (s : StoreParts) (v : View) (shards : List ShardParts) (receipt : ReceiptParts) : Type 0 where
  pub claimed : HasClaimed v receipt.item
  pub home : receipt.shard ≡ home_in s receipt.item
  pub new : length (old_journal s receipt.shard) ≤ receipt.place
  pub shard : ShardParts
  pub at : slice_get shards receipt.shard ≡ Some shard
  pub stands : slice_get shard.journal receipt.place ≡ Some receipt.item

-- The 16 shards of a closed store, of which a pass with this view had all the shares: they have grown by exactly its receipts, no
-- two of which are for one rank. Where the pass is ended, each rank of the list was claimed.
pub record IsClosedStore (s : StoreParts) (v : View) (shards : List ShardParts) : Type 0 where
  pub count : length shards ≡ 16
  pub grown : (k : ℕ) (shard : ShardParts) → slice_get shards k ≡ Some shard → IsGrownShard s v k shard
  pub receipts : All (IsKeptReceipt s v shards) v.receipts
  pub once : AllPairs (λ (x y : ReceiptParts). x.item ≢ y.item) v.receipts
  pub ended : v.ended ≡ true → (r : ℕ) → Contains (list_of s) r → HasClaimed v r
