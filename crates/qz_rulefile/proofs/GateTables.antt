-- What the texts of gates are, and that none of them begins with another.
use Rattle.std.proofs.Common.{◌≡◌, ℕ, zero, suc, ◌+◌, ◌≤◌, ◌<◌, Bool, true, false, eqb, cond, List, [], ◌∷◌, ◌++◌, length, map, take, slice_get, Ok, Option, Some, None, get_or, refl, sym, ap, ◌∙◌, inl, inr, arith}
use Rattle.std.specs.Prelude.{option_map}
use Rattle.std.proofs.lemmas.Bool.{ne_eqb, eq-eqb}
use Rattle.std.proofs.lemmas.List.{take_all, take_more, map-append}
use Rattle.std.proofs.lemmas.Bool.Decides.{eqb_tells}
use Rattle.std.proofs.lemmas.Option.{slice_get-map, slice_get_within, get_or_from_slice_get, none-some, same_Some}
use Rattle.std.specs.Fmt.{digits}
use Rattle.qz_circ.specs.declared.circuit.Op.{Op}
use Rattle.qz_circ.specs.declared.circuit.Op.TheVariants.{H}
use Rattle.qz_circ.specs.Circuit.{Limits, gates_of, angles}
use Rattle.qz_circ.specs.Bounds.{IsLawful, is_grain, gate_count}
use Rattle.qz_circ.specs.RuleText.{gate_text, expression_text}
use Rattle.qz_circ.proofs.BoundsLemmas.{in_range, for_grains}
use Rattle.qz_rulefile.specs.Reading.{are_apart, common, gate_texts, first_texts, next_texts, one_of_at}
use Rattle.qz_rulefile.proofs.OneOf.{one_of_exact}

-- none of the texts that may stand in front of a member begins with another, nor of those behind a gate
abbrev Apart : ℕ → ℕ → ℕ → ℕ → Type 0
Apart n q m grain = (are_apart ((45 ∷ 10 ∷ []) ∷ gate_texts (record { n = n; q = q; m = m; grain = grain })) ≡ true) × (are_apart ((10 ∷ []) ∷ map (λ (text : List ℕ). 59 ∷ text) (gate_texts (record { n = n; q = q; m = m; grain = grain }))) ≡ true)

-- computed for each number of qubits and parameters, and each grain
apart_by_range : (n q m grain : ℕ) → 0 < q → q ≤ 3 → m ≤ 3 → is_grain grain ≡ true → Apart n q m grain
unfolding gate_texts gates_of angles gate_text expression_text common digits
apart_by_range n (suc zero) zero grain p h k l = for_grains (Apart n 1 0) grain l (refl, refl) (refl, refl) (refl, refl)
apart_by_range n (suc zero) (suc zero) grain p h k l = for_grains (Apart n 1 1) grain l (refl, refl) (refl, refl) (refl, refl)
apart_by_range n (suc zero) (suc (suc zero)) grain p h k l = for_grains (Apart n 1 2) grain l (refl, refl) (refl, refl) (refl, refl)
apart_by_range n (suc zero) (suc (suc (suc zero))) grain p h k l = for_grains (Apart n 1 3) grain l (refl, refl) (refl, refl) (refl, refl)
apart_by_range n (suc (suc zero)) zero grain p h k l = for_grains (Apart n 2 0) grain l (refl, refl) (refl, refl) (refl, refl)
apart_by_range n (suc (suc zero)) (suc zero) grain p h k l = for_grains (Apart n 2 1) grain l (refl, refl) (refl, refl) (refl, refl)
apart_by_range n (suc (suc zero)) (suc (suc zero)) grain p h k l = for_grains (Apart n 2 2) grain l (refl, refl) (refl, refl) (refl, refl)
apart_by_range n (suc (suc zero)) (suc (suc (suc zero))) grain p h k l = for_grains (Apart n 2 3) grain l (refl, refl) (refl, refl) (refl, refl)
apart_by_range n (suc (suc (suc zero))) zero grain p h k l = for_grains (Apart n 3 0) grain l (refl, refl) (refl, refl) (refl, refl)
apart_by_range n (suc (suc (suc zero))) (suc zero) grain p h k l = for_grains (Apart n 3 1) grain l (refl, refl) (refl, refl) (refl, refl)
apart_by_range n (suc (suc (suc zero))) (suc (suc zero)) grain p h k l = for_grains (Apart n 3 2) grain l (refl, refl) (refl, refl) (refl, refl)
apart_by_range n (suc (suc (suc zero))) (suc (suc (suc zero))) grain p h k l = for_grains (Apart n 3 3) grain l (refl, refl) (refl, refl) (refl, refl)
apart_by_range n zero m grain p h k l = absurd (omega arith)
apart_by_range n (suc (suc (suc (suc q)))) m grain p h k l = absurd (omega arith)
apart_by_range n q (suc (suc (suc (suc m)))) grain p h k l = absurd (omega arith)

pub next_apart : (b : Limits) → IsLawful b → are_apart (next_texts b) ≡ true
unfolding next_texts
next_apart b h =
    let range = in_range b h in
    (apart_by_range b.n b.q b.m b.grain range.some_qubit range.qubits range.params range.grain).1

pub first_apart : (b : Limits) → IsLawful b → are_apart (first_texts b) ≡ true
unfolding first_texts
first_apart b h = by_length (eqb b.n 0)
  where
    by_length : (none : Bool) → are_apart ((45 ∷ 10 ∷ []) ∷ cond none [] (gate_texts b)) ≡ true
    by_length true = refl
    by_length false = let range = in_range b h in (apart_by_range b.n b.q b.m b.grain range.some_qubit range.qubits range.params range.grain).0

-- ---- what the tables list

-- gates and their texts have the same places
gate_text_at : (b : Limits) (k : ℕ) → slice_get (gate_texts b) k ≡ option_map (gate_text b.grain) (slice_get (gates_of b) k)
unfolding gate_texts
gate_text_at b k = slice_get-map (gate_text b.grain) (gates_of b) k

-- the gate with this number has the text
pub record Listed (b : Limits) (k : ℕ) (text : List ℕ) : Type 0 where
  pub gate : Op
  pub here : slice_get (gates_of b) k ≡ Some gate
  pub text_is : text ≡ gate_text b.grain gate
  pub number : k < gate_count b
  pub at : get_or (gates_of b) k (H 0) ≡ gate

listed_of : (b : Limits) (k : ℕ) (text : List ℕ) (o : Option Op) → slice_get (gates_of b) k ≡ o → option_map (gate_text b.grain) o ≡ Some text → Listed b k text
unfolding gate_count
listed_of b k text None e h = absurd (none-some text h)
listed_of b k text (Some g) e h = record {
  gate = g;
  here = e;
  text_is = sym (same_Some (gate_text b.grain g) text h);
  number = slice_get_within (gates_of b) k g e;
  at = get_or_from_slice_get (gates_of b) k g (H 0) e;
}

listed_gate : (b : Limits) (k : ℕ) (text : List ℕ) → slice_get (gate_texts b) k ≡ Some text → Listed b k text
listed_gate b k text e = listed_of b k text (slice_get (gates_of b) k) refl (sym (gate_text_at b k) ∙ e)

-- a gate has its text at its place
text_of_listed : (b : Limits) (k : ℕ) (g : Op) → slice_get (gates_of b) k ≡ Some g → slice_get (gate_texts b) k ≡ Some (gate_text b.grain g)
text_of_listed b k g e = gate_text_at b k ∙ ap (option_map (gate_text b.grain)) e

-- behind a gate
pub next_listed : (b : Limits) (k : ℕ) (text : List ℕ) → slice_get (next_texts b) (suc k) ≡ Some text → (gate : List ℕ) × (text ≡ 59 ∷ gate) × Listed b k gate
unfolding next_texts
next_listed b k text e = with_sign (slice_get (gate_texts b) k) refl (sym (slice_get-map (λ (t : List ℕ). 59 ∷ t) (gate_texts b) k) ∙ e)
  where
    with_sign : (o : Option (List ℕ)) → slice_get (gate_texts b) k ≡ o → option_map (λ (t : List ℕ). 59 ∷ t) o ≡ Some text → (gate : List ℕ) × (text ≡ 59 ∷ gate) × Listed b k gate
    with_sign None here there = absurd (none-some text there)
    with_sign (Some t) here there = (t, sym (same_Some (59 ∷ t) text there), listed_gate b k t here)

pub next_of_gate : (b : Limits) (k : ℕ) (g : Op) → slice_get (gates_of b) k ≡ Some g → slice_get (next_texts b) (suc k) ≡ Some (59 ∷ gate_text b.grain g)
unfolding next_texts
next_of_gate b k g e = slice_get-map (λ (t : List ℕ). 59 ∷ t) (gate_texts b) k ∙ ap (option_map (λ (t : List ℕ). 59 ∷ t)) (text_of_listed b k g e)

pub next_end : (b : Limits) (text : List ℕ) → slice_get (next_texts b) 0 ≡ Some text → text ≡ 10 ∷ []
unfolding next_texts
next_end b text e = sym (same_Some (10 ∷ []) text e)

pub end_listed : (b : Limits) → slice_get (next_texts b) 0 ≡ Some (10 ∷ [])
unfolding next_texts
end_listed b = refl

pub only_end : (b : Limits) → take 1 (next_texts b) ≡ (10 ∷ []) ∷ []
unfolding next_texts
only_end b = refl

pub next_some : (b : Limits) → 0 < length (next_texts b)
unfolding next_texts
next_some b = omega arith

-- at the front of a member
pub first_some : (b : Limits) → 0 < length (first_texts b)
unfolding first_texts
first_some b = omega arith

pub first_empty : (b : Limits) (text : List ℕ) → slice_get (first_texts b) 0 ≡ Some text → text ≡ 45 ∷ 10 ∷ []
unfolding first_texts
first_empty b text e = sym (same_Some (45 ∷ 10 ∷ []) text e)

pub empty_listed : (b : Limits) → slice_get (first_texts b) 0 ≡ Some (45 ∷ 10 ∷ [])
unfolding first_texts
empty_listed b = refl

-- a gate, where the limits allow some
pub first_listed : (b : Limits) (k : ℕ) (text : List ℕ) → slice_get (first_texts b) (suc k) ≡ Some text → (0 < b.n) × Listed b k text
unfolding first_texts
first_listed b k text e =
    elim (eqb_tells b.n 0) [
      | inl s ↦ absurd (none-some text (rw s.0 at e))
      | inr s ↦ (positive b.n s.1, listed_gate b k text (rw s.0 at e))
    ]
  where
    positive : (n : ℕ) → (n ≡ 0 → ⊥) → 0 < n
    positive zero h = absurd (h refl)
    positive (suc n) h = omega arith

pub first_of_gate : (b : Limits) (k : ℕ) (g : Op) → 0 < b.n → slice_get (gates_of b) k ≡ Some g → slice_get (first_texts b) (suc k) ≡ Some (gate_text b.grain g)
unfolding first_texts
first_of_gate b k g some e =
    let not_none : eqb b.n 0 ≡ false = ne_eqb b.n 0 (λ none. omega arith) in
    rw not_none (text_of_listed b k g e)

-- ---- the tables as they are made

pub next_made : (b : Limits) (count : ℕ) (texts : List (List ℕ)) → count ≡ gate_count b → texts ≡ (10 ∷ []) ∷ map (λ g. (59 ∷ []) ++ gate_text b.grain g) (take count (gates_of b)) → texts ≡ next_texts b
unfolding next_texts gate_texts gate_count
next_made b count texts e t =
    t ∙ ap (λ (gs : List Op). (10 ∷ []) ∷ map (λ g. 59 ∷ gate_text b.grain g) gs) (ap (λ k. take k (gates_of b)) e ∙ take_all (length (gates_of b)) (gates_of b) (omega arith)) ∙ ap (λ (ts : List (List ℕ)). (10 ∷ []) ∷ ts) (sym (map-map (gates_of b)))
  where
    map-map : (gs : List Op) → map (λ (t : List ℕ). 59 ∷ t) (map (gate_text b.grain) gs) ≡ map (λ g. 59 ∷ gate_text b.grain g) gs
    map-map [] = refl
    map-map (g ∷ gs) = ap (λ (ts : List (List ℕ)). (59 ∷ gate_text b.grain g) ∷ ts) (map-map gs)

pub first_made_none : (b : Limits) (texts : List (List ℕ)) → b.n ≡ 0 → texts ≡ (45 ∷ 10 ∷ []) ∷ map (gate_text b.grain) (take 0 (gates_of b)) → texts ≡ first_texts b
unfolding first_texts
first_made_none b texts e t = rw (eq-eqb b.n 0 e) t

pub first_made_some : (b : Limits) (texts : List (List ℕ)) → (b.n ≡ 0 → ⊥) → texts ≡ (45 ∷ 10 ∷ []) ∷ map (gate_text b.grain) (take (gate_count b) (gates_of b)) → texts ≡ first_texts b
unfolding first_texts gate_texts gate_count
first_made_some b texts ne t =
    rw (ne_eqb b.n 0 ne) (t ∙ ap (λ (gs : List Op). (45 ∷ 10 ∷ []) ∷ map (gate_text b.grain) gs) (take_all (length (gates_of b)) (gates_of b) (omega arith)))

-- one text more
pub one_text_more : (grain : ℕ) (letters text : List ℕ) (gs : List Op) (k : ℕ) (g : Op) (before after : List (List ℕ)) (first : List ℕ) → slice_get gs k ≡ Some g → text ≡ letters ++ gate_text grain g → before ≡ first ∷ map (λ h. letters ++ gate_text grain h) (take k gs) → after ≡ before ++ text ∷ [] → after ≡ first ∷ map (λ h. letters ++ gate_text grain h) (take (k + 1) gs)
one_text_more grain letters text gs k g before after first here t b a =
    let within : k < length gs = slice_get_within gs k g here in
    let at : get_or gs k g ≡ g = get_or_from_slice_get gs k g g here in
    let more : take (k + 1) gs ≡ take k gs ++ g ∷ [] = take_more gs k g within ∙ ap (λ (h : Op). take k gs ++ h ∷ []) at in
    a ∙ ap (λ (z : List (List ℕ)). z ++ text ∷ []) b ∙ ap (λ (z : List ℕ). (first ∷ map (λ h. letters ++ gate_text grain h) (take k gs)) ++ z ∷ []) t
    ∙ ap (λ (z : List (List ℕ)). first ∷ z) (sym (ap (map (λ h. letters ++ gate_text grain h)) more ∙ map-append (λ h. letters ++ gate_text grain h) (take k gs) (g ∷ [])))

-- ---- what a place among the texts tells

pub first_number : (b : Limits) → IsLawful b → (bytes : List ℕ) (j : ℕ) (rest : List ℕ) → one_of_at (first_texts b) bytes ≡ Ok (j, rest) → 0 < j → (0 < b.n) × (j ≤ gate_count b)
first_number b h bytes zero rest e some = absurd (omega arith)
first_number b h bytes (suc k) rest e some =
    let t = (one_of_exact (first_texts b) (first_some b) (first_apart b h)).takes bytes (suc k) rest e in
    let g = first_listed b k t.0 t.1 in
    (g.0, omega (arith, g.1.number))

pub next_number : (b : Limits) → IsLawful b → (bytes : List ℕ) (j : ℕ) (rest : List ℕ) → one_of_at (next_texts b) bytes ≡ Ok (j, rest) → j ≤ gate_count b
next_number b h bytes zero rest e = omega arith
next_number b h bytes (suc k) rest e =
    let t = (one_of_exact (next_texts b) (next_some b) (next_apart b h)).takes bytes (suc k) rest e in
    let g = next_listed b k t.0 t.1 in
    omega (arith, g.2.number)
