-- What a worker's turns do to its pass.
use Rattle.std.specs.Prelude.{◌≡◌, ℕ, true, List, ◌++◌}
use Rattle.qz_seats.specs.declared.view.View.{View}
use Rattle.qz_seats.specs.Receipts.{ReceiptParts}
use Rattle.qz_seats.specs.Parts.{PassParts}
use Rattle.qz_repgen.specs.Shards.{FingerprintsParts}
use Rattle.qz_store.specs.Stores.{StoreParts, IsFree, HasClaimed, HasReceipt, IsPending}

-- the pass has a receipt for each rank that it has claimed
abbrev pub HasPutAll : View → Type 0
HasPutAll v = (r : ℕ) → HasClaimed v r → HasReceipt v r

-- no rank is left to claim, and each claimed one was put
pub record IsDone (v : View) : Type 0 where
  pub ended : v.ended ≡ true
  pub all : HasPutAll v

-- at most one claimed rank has no receipt
abbrev pub HasOneOpen : View → Type 0
HasOneOpen v = (r t : ℕ) → IsPending v r → IsPending v t → r ≡ t

-- there are these receipts, and perhaps more after them
abbrev pub HasMore : List ReceiptParts → List ReceiptParts → Type 0
HasMore old new = (more : List ReceiptParts) × (new ≡ old ++ more)

-- the pass holds nothing, and has the shares and the receipts that it had
pub record IsKept (s : StoreParts) (old new : PassParts) : Type 0 where
  pub free : IsFree s new
  pub shares : new.view.shares ≡ old.view.shares
  pub receipts : HasMore old.view.receipts new.view.receipts

-- after tries to put a rank, receipts and losses alone may have become more
pub record IsTried (s : StoreParts) (old new : PassParts) : Type 0 where
  pub free : IsFree s new
  pub becomes : new.view ≡ record old.view { receipts = new.view.receipts; losses = new.view.losses }
  pub receipts : HasMore old.view.receipts new.view.receipts

-- what makes the fingerprints of a store
abbrev pub prints_of : StoreParts → FingerprintsParts
prints_of s = record { bounds = s.bounds; probe = s.probe }
