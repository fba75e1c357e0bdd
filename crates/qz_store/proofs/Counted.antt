-- Receipts that are counted are there.
use Rattle.std.proofs.Common.{◌≡◌, ◌≢◌, ℕ, ◌<◌, ◌≤◌, ◌==◌, ◌&&◌, cond, Bool, true, false, List, [], ◌∷◌, length, get_or, sym, refl, ap, ◌∙◌, eq-eqb, arith}
use Rattle.std.specs.Prelude.{Contains}
use Rattle.std.specs.List.{count_by, AllPairs}
use Rattle.std.proofs.lemmas.Bool.{eqb-true, and_parts}
use Rattle.std.proofs.lemmas.Bool.Decides.{nat_tests}
use Rattle.std.proofs.lemmas.List.Sums.{sum_by-cons}
use Rattle.qz_circ.proofs.ClassLaws.{contains_first, contains_rest}
use Rattle.qz_seats.specs.declared.view.View.{View}
use Rattle.qz_seats.specs.Receipts.{ReceiptParts}
use Rattle.qz_seats.specs.Views.{placed}
use Rattle.qz_seats.specs.SeatRule.{between}
use Rattle.qz_seats.proofs.Moves.{at_get_or}
use Rattle.qz_seats.proofs.Sums.{one_le, two_le, counted_there}
use Rattle.qz_store.specs.Closing.{HasReceiptAt}

between_one : (p a b : ℕ) → a ≤ p → p < b → between p a b ≡ 1
between_one p a b from to = grind (arith, nat_tests)

-- a place that is counted once has a receipt
pub receipt_there : (v : View) (k p a b : ℕ) → placed k p v ≡ between p a b → a ≤ p → p < b → HasReceiptAt v k p
receipt_there v k p a b count from to =
    let there = counted_there (λ (r : ReceiptParts). (r.shard == k) && (r.place == p)) v.receipts (omega (arith, count, between_one p a b from to)) in
    let both = and_parts (there.0.shard == k) (there.0.place == p) there.2 in
    (there.0, there.1, eqb-true there.0.shard k both.0, eqb-true there.0.place p both.1)

-- where each item is counted at most once, no two receipts are for one
pub items_differ : (xs : List ReceiptParts) → ((r : ℕ) → count_by (λ (x : ReceiptParts). x.item == r) xs < 2) → AllPairs (λ (x y : ReceiptParts). x.item ≢ y.item) xs
items_differ xs few i j d before inside same =
    let x = get_or xs i d in
    let y = get_or xs j d in
    let f : ReceiptParts → ℕ = λ z. cond (z.item == x.item) 1 0 in
    let two = two_le f xs i j x y (λ e. absurd (omega arith)) (at_get_or xs i d (omega arith)) (at_get_or xs j d inside) in
    let one : f x ≡ 1 = ap (λ b. cond {A = ℕ} b 1 0) (eq-eqb x.item x.item refl) in
    let other : f y ≡ 1 = ap (λ b. cond {A = ℕ} b 1 0) (eq-eqb y.item x.item (sym same)) in
    omega (arith, two, few x.item)

not_before : (p a b : ℕ) → 0 < between p a b → a ≤ p
not_before p a b some = grind (arith, nat_tests)

-- where the places with receipts are counted, each receipt has one of them
pub receipt_after : (v : View) (i : ℕ) (d : ReceiptParts) → i < length v.receipts → (a b : ℕ)
    → ((p : ℕ) → placed (get_or v.receipts i d).shard p v ≡ between p a b) → a ≤ (get_or v.receipts i d).place
receipt_after v i d inside a b count =
    let x = get_or v.receipts i d in
    let least = one_le (λ (r : ReceiptParts). cond {A = ℕ} ((r.shard == x.shard) && (r.place == x.place)) 1 0) v.receipts i x (at_get_or v.receipts i d inside) in
    let one : cond {A = ℕ} ((x.shard == x.shard) && (x.place == x.place)) 1 0 ≡ 1 =
    ap (λ c. cond {A = ℕ} (c && (x.place == x.place)) 1 0) (eq-eqb x.shard x.shard refl) ∙ ap (λ c. cond {A = ℕ} c 1 0) (eq-eqb x.place x.place refl) in
    not_before x.place a b (omega (arith, count x.place, least, one))
