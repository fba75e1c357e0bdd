-- What a pass knows, how much it has of each thing, and what it knows after each kind of step.
use Rattle.std.specs.Prelude.{ℕ, ◌+◌, ◌-◌, ◌==◌, ◌&&◌, ◌||◌, nat_le, false, if◌then◌else◌, List, [], ◌∷◌, ◌++◌, Option, Some, None}
use Rattle.std.specs.List.{count_by}
use Rattle.qz_seats.specs.declared.view.Terms.{Terms}
use Rattle.qz_seats.specs.declared.view.View.{View}
use Rattle.qz_seats.specs.Receipts.{ReceiptParts}

-- how often the number x was drawn
abbrev pub draws : ℕ → View → ℕ
draws x v = count_by (λ d. d == x) v.drawn

-- how many numbers of at least the limit were drawn
abbrev pub draws_past : ℕ → View → ℕ
draws_past limit v = count_by (λ d. nat_le limit d) v.drawn

-- the shares, or 0 where the pass is ended
abbrev pub shares_unended : View → ℕ
shares_unended v = if v.ended then 0 else v.shares

-- 1 where the value held is value i, else 0
abbrev pub is_held : ℕ → Option (ℕ × List ℕ) → ℕ
is_held i None = 0
is_held i (Some h) = if h.0 == i then 1 else 0

abbrev pub holding : ℕ → View → ℕ
holding i v = is_held i v.held

-- how many receipts there are for place p of value i
abbrev pub placed : ℕ → ℕ → View → ℕ
placed i p v = count_by (λ r. (r.shard == i) && (r.place == p)) v.receipts

-- how many receipts there are for the entry x in value i
abbrev pub entered : ℕ → ℕ → View → ℕ
entered i x v = count_by (λ r. (r.shard == i) && (r.item == x)) v.receipts

-- how many receipts there are for the entry x in any value
abbrev pub with_item : ℕ → View → ℕ
with_item x v = count_by (λ r. r.item == x) v.receipts

-- the number n is drawn, and ends the pass where it is at least the limit
abbrev pub drawing : View → ℕ → View
drawing v n = record v { drawn = v.drawn ++ n ∷ []; ended = v.ended || nat_le v.terms.limit n }

-- value i is held, with the journal j
abbrev pub taking : View → ℕ → List ℕ → View
taking v i j = record v { held = Some (i, j) }

-- one loss more
abbrev pub losing : View → View
losing v = record v { losses = v.losses + 1 }

-- nothing is held
abbrev pub giving : View → View
giving v = record v { held = None }

-- nothing is held, and there is one receipt more
abbrev pub adding : View → ReceiptParts → View
adding v r = record v { held = None; receipts = v.receipts ++ r ∷ [] }

-- one share less
abbrev pub after_split : View → View
after_split v = record v { shares = v.shares - 1 }

-- the new pass of a split, with the share that was given away
abbrev pub newcomer : View → View
newcomer v = record { terms = v.terms; shares = 1; ended = v.ended; drawn = []; held = None; receipts = []; losses = 0 }

-- all that two passes have
abbrev pub joined : View → View → View
joined v w = record v {
  shares = v.shares + w.shares;
  ended = v.ended || w.ended;
  drawn = v.drawn ++ w.drawn;
  receipts = v.receipts ++ w.receipts;
  losses = v.losses + w.losses;
}

-- a pass that was spent by a join
abbrev pub nobody : View
nobody = record {
  terms = record { seats = 0; limit = 0; openings = []; names = []; marks = [] };
  shares = 0;
  ended = false;
  drawn = [];
  held = None;
  receipts = [];
  losses = 0;
}

-- the pass that an opening gives
abbrev pub first_view : Terms → View
first_view t = record { terms = t; shares = t.seats; ended = false; drawn = []; held = None; receipts = []; losses = 0 }
