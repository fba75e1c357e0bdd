-- Each kind of step, on a table that shows a round, leads to one that shows the round after the step's event.
use Rattle.std.proofs.Common.{◌≡◌, ℕ, ◌+◌, ◌==◌, min, cond, List, [], ◌∷◌, ◌++◌, set, slice_index, Option, Some, sym, ap, subst, ◌∙◌, inl, inr, ⊎_elim, arith}
use Rattle.std.specs.List.{sum_by}
use Rattle.std.proofs.lemmas.List.{get_or-set_other}
use Rattle.std.proofs.lemmas.List.Sums.{sum_by-append, sum_by_push}
use mathlib.Core.Option as slots
use mathlib.Core.Option.{some, some-injective, some-ne-none}
use lib.ListN.{get_elem?}
use Rattle.atomic_table.specs.Table.{State}
use Rattle.atomic_table.proofs.Lists.{at_set, at_snoc, set_else}
use Rattle.qz_core.specs.RoundMachine.{RoundState}
use Rattle.qz_seats.specs.declared.view.Terms.{Terms}
use Rattle.qz_seats.specs.declared.view.View.{View}
use Rattle.qz_seats.specs.Receipts.{ReceiptParts}
use Rattle.qz_seats.specs.Views.{with_item, taking, losing, giving, after_split, newcomer, joined, nobody}
use Rattle.qz_seats.specs.SeatRule.{below, IsRuled}
use Rattle.qz_seats.proofs.Sums.{sum-set}
use Rattle.qz_seats.proofs.Passes.{some_same}
use Rattle.qz_seats.proofs.Settles.{none-some}
use Rattle.qz_store.specs.Showing.{IsOfStore, IsJournal, Shows}
use Rattle.qz_store.specs.Steps.{IsStep, IsNoEvent}
use Rattle.qz_store.specs.Steps.SeatStep.{Won, Lost, SettleSame, Split, Join}
use Rattle.qz_store.proofs.Views.{waited, IsHeld, held_after}
use Rattle.qz_store.proofs.Steps.{win_keeps, loss_keeps, none_entry_keeps, split_keeps, join_keeps}

module _ {V : Type 0} (J N M : V → List ℕ) (t : Terms) (s u : State (Option V) View) (of : IsOfStore t) (ruled : IsRuled J N M t s) where
  -- what is shown stays where no number is drawn, no receipt comes, and each journal was one before
  shows_still : IsRuled J N M t u → (m : RoundState) → slice_index u.words 0 ≡ slice_index s.words 0 → ((x : ℕ) → sum_by (with_item x) u.views ≡ sum_by (with_item x) s.views)
      → ((i : ℕ) (journal : List ℕ) → IsJournal J u i journal → IsJournal J s i journal) → Shows J t s m → Shows J t u m
  shows_still after m counter receipts journals shown = record {
    ranks = shown.ranks;
    next = shown.next ∙ ap (λ n. min n t.limit) (sym counter);
    pending = λ d x name.
        (let a = shown.pending d x name in
        let b = waited J N M t s ruled of.some d x name in
        let c = waited J N M t u after of.some d x name in
        let e = receipts x in
        let f : below d (slice_index u.words 0) ≡ below d (slice_index s.words 0) = ap (below d) counter in
        omega arith);
    no_other = shown.no_other;
    count = shown.count;
    shards = λ i journal inside is. shown.shards i journal inside (journals i journal is);
  }

  win_shows : (m : RoundState) (k i : ℕ) → Shows J t s m → IsStep J N M t s (Won k i) u → IsRuled J N M t u × Shows J t u m
  win_shows m k i shown step =
      let v = step.0 in
      let value = step.5 in
      let w = taking v i (J value) in
      let after = win_keeps J N M t s u of.lawful ruled k i step in
      let is = step.7 in (
        after,
        shows_still after m
            (ap (λ (x : State (Option V) View). slice_index x.words 0) is ∙ get_or-set_other s.words (i + 1) 0 1 0 (omega arith))
            (λ x. ap (λ (y : State (Option V) View). sum_by (with_item x) y.views) is ∙ (let h = sum-set (with_item x) s.views k v w step.1.0 in omega arith))
            (λ j journal there. ⊎_elim
            (λ h. ⊎_elim
            (λ e. absurd (no_home h.0 e.1))
            (λ e. inl (h.0, e.1, h.2))
            (at_set s.homes i j slots.none (some (Some h.0)) (subst (λ (y : State (Option V) View). get_elem? y.homes j ≡ some (some (Some h.0))) is h.1)))
            (λ h. held_after (IsJournal J s j journal) s.views k j w journal
            (λ e. (let pair = some_same (i, J value) (j, journal) e in inl (value, subst (λ n. get_elem? s.homes n ≡ some (some (Some value))) (ap (λ (p : ℕ × List ℕ). p.0) pair) step.6, ap (λ (p : ℕ × List ℕ). p.1) pair)))
            (λ n y ne at e. inr (n, y, at, e))
            (subst (λ (y : State (Option V) View). IsHeld y.views j journal) is h))
            there)
            shown,
      )
    where
      no_home : (value : V) → slots.none ≡ some (Some value) → ⊥
      no_home value e = some-ne-none (Some value) (sym e)

  loss_shows : (m : RoundState) (k i : ℕ) → Shows J t s m → IsStep J N M t s (Lost k i) u → IsRuled J N M t u × Shows J t u m
  loss_shows m k i shown step =
      let v = step.0 in
      let w = losing v in
      let after = loss_keeps J N M t s u of.lawful ruled k i step in
      let is = step.5 in (
        after,
        shows_still after m
            (ap (λ (x : State (Option V) View). slice_index x.words 0) is)
            (λ x. ap (λ (y : State (Option V) View). sum_by (with_item x) y.views) is ∙ (let h = sum-set (with_item x) s.views k v w step.1.0 in omega arith))
            (λ j journal there. ⊎_elim
            (λ h. inl (h.0, subst (λ (y : State (Option V) View). get_elem? y.homes j ≡ some (some (Some h.0))) is h.1, h.2))
            (λ h. held_after (IsJournal J s j journal) s.views k j w journal
            (λ e. inr (k, v, step.1.0, e))
            (λ n y ne at e. inr (n, y, at, e))
            (subst (λ (y : State (Option V) View). IsHeld y.views j journal) is h))
            there)
            shown,
      )

  none_entry_shows : (m : RoundState) (k i : ℕ) → Shows J t s m → IsStep J N M t s (SettleSame k i) u → IsRuled J N M t u × Shows J t u m
  none_entry_shows m k i shown step =
      let v = step.0 in
      let value = step.2 in
      let w = giving v in
      let after = none_entry_keeps J N M t s u of.lawful ruled k i step in
      let is = step.5 in (
        after,
        shows_still after m
            (ap (λ (x : State (Option V) View). slice_index x.words 0) is ∙ get_or-set_other s.words (i + 1) 0 0 0 (omega arith))
            (λ x. ap (λ (y : State (Option V) View). sum_by (with_item x) y.views) is ∙ (let h = sum-set (with_item x) s.views k v w step.1.0 in omega arith))
            (λ j journal there. ⊎_elim
            (λ h. ⊎_elim
            (λ e. (let same_value : value ≡ h.0 = some_same value h.0 (some-injective (Some value) (Some h.0) e.1) in
            inr (k, v, step.1.0, step.3 ∙ (λ n. Some (sym e.0 n, (ap J same_value ∙ h.2) n)))))
            (λ e. inl (h.0, e.1, h.2))
            (at_set s.homes i j (some (Some value)) (some (Some h.0)) (subst (λ (y : State (Option V) View). get_elem? y.homes j ≡ some (some (Some h.0))) is h.1)))
            (λ h. held_after (IsJournal J s j journal) s.views k j w journal
            (λ e. absurd (none-some (j, journal) e))
            (λ n y ne at e. inr (n, y, at, e))
            (subst (λ (y : State (Option V) View). IsHeld y.views j journal) is h))
            there)
            shown,
      )

  split_shows : (m : RoundState) (k : ℕ) → Shows J t s m → IsStep J N M t s (Split k) u → IsRuled J N M t u × Shows J t u m
  split_shows m k shown step =
      let v = step.0 in
      let left = after_split v in
      let right = newcomer v in
      let after = split_keeps J N M t s u of.lawful ruled k step in
      let is = step.4 in (
        after,
        shows_still after m
            (ap (λ (x : State (Option V) View). slice_index x.words 0) is)
            (λ x. ap (λ (y : State (Option V) View). sum_by (with_item x) y.views) is ∙ (let h = sum-set (with_item x) s.views k v left step.1.0 in let a = sum_by_push (with_item x) (set s.views k left) right in omega arith))
            (λ j journal there. ⊎_elim
            (λ h. inl (h.0, subst (λ (y : State (Option V) View). get_elem? y.homes j ≡ some (some (Some h.0))) is h.1, h.2))
            (λ h. (let now : IsHeld (set s.views k left ++ right ∷ []) j journal = subst (λ (y : State (Option V) View). IsHeld y.views j journal) is h in
            ⊎_elim
            (λ at. held_after (IsJournal J s j journal) s.views k j left journal
            (λ e. inr (k, v, step.1.0, e))
            (λ n y ne old e. inr (n, y, old, e))
            (now.0, now.1, at, now.3))
            (λ e. absurd (none-some (j, journal) (ap (λ (y : View). y.held) e ∙ now.3)))
            (at_snoc (set s.views k left) right now.1 now.0 now.2)))
            there)
            shown,
      )

  join_shows : (m : RoundState) (k other : ℕ) → Shows J t s m → IsStep J N M t s (Join k other) u → IsRuled J N M t u × Shows J t u m
  join_shows m k other shown step =
      let v = step.0 in
      let w = step.1 in
      let both = joined v w in
      let after = join_keeps J N M t s u of.lawful ruled k other step in
      let is = step.7 in
      let there_too : get_elem? (set s.views k both) other ≡ some w = set_else s.views k other both step.4 ∙ step.3.0 in (
        after,
        shows_still after m
            (ap (λ (x : State (Option V) View). slice_index x.words 0) is)
            (λ x. ap (λ (y : State (Option V) View). sum_by (with_item x) y.views) is
            ∙ (let a = sum-set (with_item x) s.views k v both step.2.0 in
            let b = sum-set (with_item x) (set s.views k both) other w nobody there_too in
            let c = sum_by-append (λ (r : ReceiptParts). cond (r.item == x) 1 0) v.receipts w.receipts in
            omega arith))
            (λ j journal there. ⊎_elim
            (λ h. inl (h.0, subst (λ (y : State (Option V) View). get_elem? y.homes j ≡ some (some (Some h.0))) is h.1, h.2))
            (λ h. held_after (IsJournal J s j journal) (set s.views k both) other j nobody journal
            (λ e. absurd (none-some (j, journal) e))
            (λ n y ne at e. held_after (IsJournal J s j journal) s.views k j both journal
            (λ f. inr (k, v, step.2.0, f))
            (λ n y ne at e. inr (n, y, at, e))
            (n, y, at, e))
            (subst (λ (y : State (Option V) View). IsHeld y.views j journal) is h))
            there)
            shown,
      )

module _ {V : Type 0} (J N M : V → List ℕ) where
  pub win_is_none : (k i : ℕ) → IsNoEvent J N M (Won k i)
  win_is_none k i t s u m of ruled shown _ step = win_shows J N M t s u of ruled m k i shown step

  pub loss_is_none : (k i : ℕ) → IsNoEvent J N M (Lost k i)
  loss_is_none k i t s u m of ruled shown _ step = loss_shows J N M t s u of ruled m k i shown step

  pub none_entry_is_none : (k i : ℕ) → IsNoEvent J N M (SettleSame k i)
  none_entry_is_none k i t s u m of ruled shown _ step = none_entry_shows J N M t s u of ruled m k i shown step

  pub split_is_none : (k : ℕ) → IsNoEvent J N M (Split k)
  split_is_none k t s u m of ruled shown _ step = split_shows J N M t s u of ruled m k shown step

  pub join_is_none : (k other : ℕ) → IsNoEvent J N M (Join k other)
  join_is_none k other t s u m of ruled shown _ step = join_shows J N M t s u of ruled m k other shown step
