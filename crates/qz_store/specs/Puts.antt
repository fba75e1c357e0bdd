-- What a try to put a rank gives.
use Rattle.std.specs.Prelude.{◌≡◌, ◌≢◌, ◌↔◌, ◌⊎◌, ℕ, ◌+◌, ◌≤◌, [], ◌∷◌, ◌++◌}
use Rattle.qz_seats.specs.declared.view.View.{View}
use Rattle.qz_seats.specs.Receipts.{ReceiptParts}
use Rattle.qz_seats.specs.Views.{losing}
use Rattle.qz_store.specs.declared.store.Put.{Put}
use Rattle.qz_store.specs.declared.store.Put.TheVariants.{Done, Busy, Memory}
use Rattle.qz_store.specs.Stores.{StoreParts, home_in, HasReceipt}

-- the receipt is for rank r in the shard where it belongs, and all that changes is that the pass has it, so one for this rank too
pub record HasPut (s : StoreParts) (v : View) (r : ℕ) (receipt : ReceiptParts) (w : View) : Type 0 where
  pub item : receipt.item ≡ r
  pub home : receipt.shard ≡ home_in s r
  pub becomes : w ≡ record v { receipts = v.receipts ++ receipt ∷ [] }
  pub receipts : (x : ℕ) → HasReceipt w x ↔ (HasReceipt v x ⊎ (r ≡ x))

-- The rank was put; or its shard was out, which is one loss, and never comes to a pass with all the shares; or memory ran out,
-- and nothing changed.
abbrev pub PutGives : StoreParts → View → ℕ → Put → View → Type 0
PutGives s v r (Done receipt) w = HasPut s v r receipt w
PutGives s v r Busy w = (w ≡ losing v) × (v.shares ≢ v.terms.seats)
PutGives s v r Memory w = w ≡ v

-- comparisons are counted, at most as many as the place where the rank was put; none where its shard was out
abbrev pub PutCounts : ℕ → Put → ℕ → Type 0
PutCounts old (Done receipt) new = (old ≤ new) × (new ≤ old + receipt.place)
PutCounts old Busy new = new ≡ old
PutCounts old Memory new = old ≤ new
