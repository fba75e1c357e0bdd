-- Each kind of step keeps the rule of the seat table.
use Rattle.std.proofs.Common.{◌≡◌, ℕ, ◌+◌, ◌<◌, List, [], set, length, slice_index, Option, Some, sym, refl, subst, ◌∙◌, arith}
use Rattle.std.proofs.lemmas.List.{set-get_or}
use mathlib.Core.Option as slots
use mathlib.Core.Option.{some, some-injective}
use Rattle.atomic_table.specs.Table.{State}
use Rattle.atomic_table.proofs.Lists.{set_else}
use Rattle.qz_seats.specs.declared.view.Terms.{Terms}
use Rattle.qz_seats.specs.declared.view.View.{View}
use Rattle.qz_seats.specs.Views.{taking, losing, adding, joined}
use Rattle.qz_seats.specs.SeatRule.{count_of, IsLawful, IsRuled}
use Rattle.qz_seats.proofs.Draws.{draws_keep}
use Rattle.qz_seats.proofs.Joins.{splits_keep, joins_keep}
use Rattle.qz_seats.proofs.Lifts.{lift_won, lift_lost}
use Rattle.qz_seats.proofs.Settles.{same_keeps, one_keeps}
use Rattle.qz_seats.proofs.Passes.{some_same}
use Rattle.qz_store.specs.Steps.{moved, IsStep}
use Rattle.qz_store.specs.Steps.SeatStep.{Draw, Won, Lost, SettleOne, SettleSame, Split, Join}

module _ {V : Type 0} (J N M : V → List ℕ) (t : Terms) (s u : State (Option V) View) (lawful : IsLawful t) (r : IsRuled J N M t s) where
  -- the counter is far from the end of a word
  pub counter_small : slice_index s.words 0 + 1 < 18446744073709551616
  counter_small =
      let a = r.counter in
      let b = r.past in
      let c = lawful.given in
      let d = lawful.few_seats in
      omega arith

  lock_small : (i : ℕ) → i < count_of t → slice_index s.words (i + 1) < 18446744073709551616
  lock_small i inside = let b = (r.values i inside).bit in omega arith

  pub draw_keeps : (k : ℕ) → IsStep J N M t s (Draw k) u → IsRuled J N M t u
  unfolding draws_keep
  draw_keeps k step =
      subst (IsRuled J N M t) (sym step.3)
      ((draws_keep J N M t (length s.homes) k (step.0, []) lawful step.1.1 step.2 s r refl step.1.0 (let h = counter_small in omega arith)).3)

  pub win_keeps : (k i : ℕ) → IsStep J N M t s (Won k i) u → IsRuled J N M t u
  unfolding lift_won
  win_keeps k i step =
      let home = (r.values i step.3).home step.4 in
      let is : home.0 ≡ step.5 = some_same home.0 step.5 (some-injective (Some home.0) (Some step.5) (some-injective (some (Some home.0)) (some (Some step.5)) (sym home.1 ∙ step.6))) in
      subst (IsRuled J N M t) (sym step.7)
      (subst (λ value. IsRuled J N M t (moved s i 1 slots.none k (taking step.0 i (J value)))) is
      ((lift_won J N M t k i (step.0, []) step.1.1 step.2 step.3 s r step.1.0 step.4).3))

  pub loss_keeps : (k i : ℕ) → IsStep J N M t s (Lost k i) u → IsRuled J N M t u
  unfolding lift_lost
  loss_keeps k i step =
      subst (IsRuled J N M t) (sym step.5)
      (subst (λ words. IsRuled J N M t (record { words = words; homes = s.homes; views = set s.views k (losing step.0) })) (set-get_or s.words (i + 1) 0)
      ((lift_lost J N M t k i (step.0, []) step.1.1 step.2 step.3 s r step.1.0 step.4).3))

  pub one_entry_keeps : (k i x : ℕ) → IsStep J N M t s (SettleOne k i x) u → IsRuled J N M t u
  unfolding one_keeps
  one_entry_keeps k i x step =
      let v = step.0 in
      let value = step.2 in
      let more = step.3 in
      let inside = ((r.fits k v step.1.0).holds (i, more.lifted) more.held).0 in
      subst (IsRuled J N M t) (sym step.5)
      (subst (λ y. IsRuled J N M t (moved s i 0 (some (Some value)) k (adding v (record { shard = i; place = length more.lifted; item = y })))) step.4
      ((one_keeps J N M t (length s.homes) k i v value more.lifted more.entry lawful.apart step.1.1 more.held more.at more.named s r refl step.1.0 (lock_small i inside)).3))

  pub none_entry_keeps : (k i : ℕ) → IsStep J N M t s (SettleSame k i) u → IsRuled J N M t u
  unfolding same_keeps
  none_entry_keeps k i step =
      let inside = ((r.fits k step.0 step.1.0).holds (i, J step.2) step.3).0 in
      subst (IsRuled J N M t) (sym step.5)
      ((same_keeps J N M t (length s.homes) k i step.0 step.2 step.1.1 step.3 step.4 s r refl step.1.0 (lock_small i inside)).3)

  pub split_keeps : (k : ℕ) → IsStep J N M t s (Split k) u → IsRuled J N M t u
  split_keeps k step = subst (IsRuled J N M t) (sym step.4) (splits_keep J N M t k step.0 step.2 step.3 s r step.1.0)

  pub join_keeps : (k other : ℕ) → IsStep J N M t s (Join k other) u → IsRuled J N M t u
  join_keeps k other step =
      subst (IsRuled J N M t) (sym step.7)
      (joins_keep J N M t k other step.0 step.1 step.2.1 step.5 step.6 s r step.2.0 step.4
      (set_else s.views k other (joined step.0 step.1) step.4 ∙ step.3.0))
