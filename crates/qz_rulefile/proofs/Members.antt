-- Reading the line of a member is exact, with the rank of its circuit as the value.
use Rattle.std.proofs.Common.{◌≡◌, ℕ, zero, suc, ◌+◌, ◌-◌, ◌*◌, ◌≤◌, ◌<◌, Bool, true, false, cond, eqb, List, [], ◌∷◌, ◌++◌, length, take, slice_get, Some, get_or, Ok, Err, refl, sym, ap, subst, ◌∙◌, ◌⊎◌, inl, inr, append_assoc, arith, Contains}
use Rattle.std.specs.List.{AllByRecursion, flat_map}
use Rattle.std.proofs.Math.Nat.{pow-zero}
use Rattle.std.proofs.lemmas.Bool.{eqb-true}
use Rattle.std.proofs.lemmas.Option.{none-some, same_Some, slice_get_within, get_or_from_slice_get}
use Rattle.std.proofs.lemmas.List.{append-nil}
use Rattle.qz_circ.specs.declared.circuit.Op.{Op}
use Rattle.qz_circ.specs.declared.circuit.Op.TheVariants.{H}
use Rattle.qz_circ.specs.Circuit.{Circuit, Limits, Within, gates_of}
use Rattle.qz_circ.specs.Bounds.{IsLawful, gate_count}
use Rattle.qz_circ.specs.Order.{all_circuits, circuit_at, rank}
use Rattle.qz_circ.specs.FirstFault.{◌>>=◌}
use Rattle.qz_circ.specs.RuleText.{gate_text, circuit_text, member_text}
use Rattle.qz_circ.proofs.CircuitLists.{shorter, length-all_circuits}
use Rattle.qz_circ.proofs.CircuitPlaces.{circuit_at-zero, circuit_at-within, shorter-monotone}
use Rattle.qz_circ.proofs.GateNumbers.{listed_from_contains, contains_from_listed}
use Rattle.qz_circ.proofs.JoinedTexts.{joined_texts}
use Rattle.qz_circ.proofs.RankLemmas.{OneMore, one_more, rank-circuit_at}
use Rattle.qz_rulefile.specs.Reading.{Read, one_of_at, next_texts, first_texts, more_at, member_at}
use Rattle.qz_rulefile.proofs.Exact.{Language, Exact, Then, andthen, Now, now, spelling}
use Rattle.qz_rulefile.proofs.OneOf.{OneOf, one_of_exact}
use Rattle.qz_rulefile.proofs.GateTables.{Listed, next_apart, first_apart, next_listed, next_of_gate, next_end, end_listed, only_end, next_some, first_some, first_empty, empty_listed, first_listed, first_of_gate}

-- one of two readers, by a test
pub choose : {X : Type 0} (L : Language X) (t : Bool) (r s : List ℕ → Read X) → (t ≡ true → Exact L r) → (t ≡ false → Exact L s) → Exact L (λ bytes. cond t (r bytes) (s bytes))
choose L true r s on_true on_false = on_true refl
choose L false r s on_true on_false = on_false refl

-- ---- behind the gates

-- the gates that follow others, each behind a semicolon, and the end of the line
after : ℕ → Circuit → List ℕ
after grain c = flat_map (λ g. 59 ∷ gate_text grain g) c ++ 10 ∷ []

-- the circuit with rank s is that with rank r and then the gates of this text, at most so many
record IsAfter (b : Limits) (left r s : ℕ) (text : List ℕ) : Type 0 where
  gates : Circuit
  short : length gates ≤ left
  within : AllByRecursion (Contains (gates_of b)) gates
  text_is : text ≡ after b.grain gates
  circuit : circuit_at b s ≡ circuit_at b r ++ gates
  listed : s < length (all_circuits b)

-- there are so many gates in front, and so many may follow
pub record IsFront (b : Limits) (i left r : ℕ) : Type 0 where
  pub all : i + left ≡ b.n
  pub few : r < shorter (gate_count b) (suc i)
  pub listed : r < length (all_circuits b)

longer : (b : Limits) (i left r k : ℕ) → IsFront b i (suc left) r → k < gate_count b → OneMore b i r k (r * gate_count b + suc k)
longer b i left r k f lt = one_more b i r k (gate_count b) (r * gate_count b + suc k) refl (omega arith) (omega (arith, f.all)) f.few lt

pub longer_front : (b : Limits) (i left r k : ℕ) → IsFront b i (suc left) r → k < gate_count b → IsFront b (suc i) left (r * gate_count b + suc k)
longer_front b i left r k f lt = let m = longer b i left r k f lt in record { all = omega (arith, f.all); few = m.few; listed = m.listed }

-- nothing follows
no_more : (b : Limits) (i left r : ℕ) → IsFront b i left r → (s : ℕ) (text : List ℕ) → s ≡ r → text ≡ 10 ∷ [] → IsAfter b left r s text
unfolding after
no_more b i left r f s text same t = record {
  gates = [];
  short = omega arith;
  within = tt;
  text_is = t;
  circuit = ap (circuit_at b) same ∙ sym (append-nil (circuit_at b r));
  listed = rw same f.listed;
}

-- a gate follows, and then others
one_after : (b : Limits) (i left r k s : ℕ) (gate text : List ℕ) → IsFront b i (suc left) r → Listed b k gate → IsAfter b left (r * gate_count b + suc k) s text → IsAfter b (suc left) r s (59 ∷ gate ++ text)
unfolding after
one_after b i left r k s gate text f g a =
    let m = longer b i left r k f g.number in
    record {
      gates = g.gate ∷ a.gates;
      short = omega (arith, a.short);
      within = (contains_from_listed (gates_of b) k g.gate g.here, a.within);
      text_is = ap (λ (z : List ℕ). 59 ∷ z ++ text) g.text_is ∙ ap (λ (z : List ℕ). 59 ∷ gate_text b.grain g.gate ++ z) a.text_is ∙ sym (append_assoc (59 ∷ gate_text b.grain g.gate) (flat_map (λ h. 59 ∷ gate_text b.grain h) a.gates) (10 ∷ []));
      circuit = a.circuit ∙ ap (λ (z : Circuit). z ++ a.gates) m.circuit ∙ append_assoc (circuit_at b r) (get_or (gates_of b) k (H 0) ∷ []) a.gates ∙ ap (λ (z : Op). circuit_at b r ++ z ∷ a.gates) g.at;
      listed = a.listed;
    }

-- ranks of one circuit are the same
same_rank : (b : Limits) → IsLawful b → (r s : ℕ) → r < length (all_circuits b) → s < length (all_circuits b) → circuit_at b s ≡ circuit_at b r → s ≡ r
same_rank b h r s lr ls e = sym (rank-circuit_at b h s ls) ∙ ap (rank b) e ∙ rank-circuit_at b h r lr

-- how a text behind gates begins
record Goes (b : Limits) (left r s : ℕ) (text : List ℕ) : Type 0 where
  number : ℕ
  gate : Op
  rest : List ℕ
  here : slice_get (gates_of b) number ≡ Some gate
  text_is : text ≡ (59 ∷ gate_text b.grain gate) ++ rest
  behind : IsAfter b left (r * gate_count b + suc number) s rest

ends_or_goes : (b : Limits) → IsLawful b → (i left r s : ℕ) (text : List ℕ) → IsFront b i (suc left) r → IsAfter b (suc left) r s text → ((s ≡ r) × (text ≡ 10 ∷ [])) ⊎ Goes b left r s text
unfolding after gate_count
ends_or_goes b h i left r s text f a = by_gates a.gates a.short a.within a.text_is a.circuit
  where
    by_gates : (gates : Circuit) → length gates ≤ suc left → AllByRecursion (Contains (gates_of b)) gates → text ≡ flat_map (λ g. 59 ∷ gate_text b.grain g) gates ++ 10 ∷ [] → circuit_at b s ≡ circuit_at b r ++ gates → ((s ≡ r) × (text ≡ 10 ∷ [])) ⊎ Goes b left r s text
    by_gates [] short within t e = inl (same_rank b h r s f.listed a.listed (e ∙ append-nil (circuit_at b r)), t)
    by_gates (g ∷ gates) short within t e =
        let here = listed_from_contains (gates_of b) g within.0 in
        let k = within.0.0 in
        let number : k < gate_count b = slice_get_within (gates_of b) k g here in
        let m = longer b i left r k f number in
        let at : get_or (gates_of b) k (H 0) ≡ g = get_or_from_slice_get (gates_of b) k g (H 0) here in
        inr (record {
          number = k;
          gate = g;
          rest = flat_map (λ g. 59 ∷ gate_text b.grain g) gates ++ 10 ∷ [];
          here = here;
          text_is = t ∙ append_assoc (59 ∷ gate_text b.grain g) (flat_map (λ g. 59 ∷ gate_text b.grain g) gates) (10 ∷ []);
          behind = record {
            gates = gates;
            short = omega arith;
            within = within.1;
            text_is = refl;
            circuit = e ∙ sym (append_assoc (circuit_at b r) (g ∷ []) gates) ∙ ap (λ (z : Op). (circuit_at b r ++ z ∷ []) ++ gates) (sym at) ∙ ap (λ (z : Circuit). z ++ gates) (sym m.circuit);
            listed = a.listed;
          };
        })

-- ---- the reader behind gates

-- what follows the text with number j of those that may follow
NextIs : (b : Limits) (left r j : ℕ) → Language ℕ
NextIs b left r j s text = ((j ≡ 0) × Now r s text) ⊎ ((k : ℕ) × (j ≡ suc k) × IsAfter b left (r * gate_count b + j) s text)

-- what follows, where the rest is read exactly
next_exact : (b : Limits) → (i left r : ℕ) → IsFront b i (suc left) r → ((k : ℕ) → k < gate_count b → Exact (IsAfter b left (r * gate_count b + suc k)) (more_at b left (r * gate_count b + suc k))) → (j : ℕ) (a : List ℕ) → OneOf (next_texts b) j a → Exact (NextIs b left r j) (λ bytes. cond (eqb j 0) (Ok (r, bytes)) (more_at b left (r * gate_count b + j) bytes))
unfolding NextIs
next_exact b i left r f rest zero a o =
    choose (NextIs b left r 0) (eqb 0 0) (λ bytes. Ok (r, bytes)) (more_at b left (r * gate_count b + 0))
    (λ _. spelling (Now r) (NextIs b left r 0) (λ bytes. Ok (r, bytes)) (λ s text n. inl (refl, n)) (λ s text n. elim n [ inl m ↦ m.1 | inr m ↦ absurd (omega (arith, m.1)) ]) (now r))
    (λ t. absurd (cc t))
next_exact b i left r f rest (suc k) a o =
    let g = next_listed b k a o in
    choose (NextIs b left r (suc k)) (eqb (suc k) 0) (λ bytes. Ok (r, bytes)) (more_at b left (r * gate_count b + suc k))
    (λ t. absurd (omega (arith, eqb-true (suc k) 0 t)))
    (λ _. spelling (IsAfter b left (r * gate_count b + suc k)) (NextIs b left r (suc k)) (more_at b left (r * gate_count b + suc k)) (λ s text n. inr (k, refl, n)) (λ s text n. elim n [ inl m ↦ absurd (omega (arith, m.0)) | inr m ↦ m.2 ]) (rest k g.2.number))

-- the one text that may follow the last gate
only_text : (b : Limits) (j : ℕ) (a : List ℕ) → OneOf (take 1 (next_texts b)) j a → a ≡ 10 ∷ []
only_text b j a o = of_one j (rw (only_end b) at o)
  where
    of_one : (j : ℕ) → slice_get ((10 ∷ []) ∷ []) j ≡ Some a → a ≡ 10 ∷ []
    of_one zero e = sym (same_Some (10 ∷ []) a e)
    of_one (suc j) e = absurd (none-some a e)

ends : (b : Limits) → IsLawful b → (i r s : ℕ) (text : List ℕ) → IsFront b i 0 r → IsAfter b 0 r s text → (s ≡ r) × (text ≡ 10 ∷ [])
unfolding after
ends b h i r s text f a = by_gates a.gates a.short a.text_is a.circuit
  where
    by_gates : (gates : Circuit) → length gates ≤ 0 → text ≡ flat_map (λ g. 59 ∷ gate_text b.grain g) gates ++ 10 ∷ [] → circuit_at b s ≡ circuit_at b r ++ gates → (s ≡ r) × (text ≡ 10 ∷ [])
    by_gates [] short t e = (same_rank b h r s f.listed a.listed (e ∙ append-nil (circuit_at b r)), t)
    by_gates (g ∷ gates) short t e = absurd (omega arith)

next_is : (b : Limits) (i left r : ℕ) → IsFront b i (suc left) r → (s : ℕ) (text : List ℕ) → Then (OneOf (next_texts b)) (NextIs b left r) s text → IsAfter b (suc left) r s text
unfolding NextIs
next_is b i left r f s text t =
    elim t.4 [
      | inl n ↦
          let end : t.1 ≡ 10 ∷ [] = next_end b t.1 (subst (λ j. slice_get (next_texts b) j ≡ Some t.1) n.0 t.3) in
          no_more b i (suc left) r f s text n.1.0 (t.5 ∙ ap (λ (z : List ℕ). t.1 ++ z) n.1.1 ∙ append-nil t.1 ∙ end)
      | inr n ↦
          let g = next_listed b n.0 t.1 (subst (λ j. slice_get (next_texts b) j ≡ Some t.1) n.1 t.3) in
          let rest : IsAfter b left (r * gate_count b + suc n.0) s t.2 = subst (λ j. IsAfter b left (r * gate_count b + j) s t.2) n.1 n.2 in
          subst (IsAfter b (suc left) r s) (ap (λ (z : List ℕ). z ++ t.2) (sym g.1) ∙ sym t.5) (one_after b i left r n.0 s g.0 t.2 f g.2 rest)
    ]

is_next : (b : Limits) → IsLawful b → (i left r : ℕ) → IsFront b i (suc left) r → (s : ℕ) (text : List ℕ) → IsAfter b (suc left) r s text → Then (OneOf (next_texts b)) (NextIs b left r) s text
unfolding NextIs
is_next b h i left r f s text a =
    elim (ends_or_goes b h i left r s text f a) [
      | inl e ↦ (0, 10 ∷ [], [], end_listed b, inl (refl, (e.0, refl)), e.1)
      | inr g ↦ (suc g.number, 59 ∷ gate_text b.grain g.gate, g.rest, next_of_gate b g.number g.gate g.here, inr (g.number, refl, g.behind), g.text_is)
    ]

-- the rest of a member is read exactly
more_exact : (b : Limits) → IsLawful b → (left i r : ℕ) → IsFront b i left r → Exact (IsAfter b left r) (more_at b left r)
unfolding more_at
more_exact b h zero i r f =
    let last : Exact (OneOf (take 1 (next_texts b))) (one_of_at (take 1 (next_texts b))) = rw (only_end b) (one_of_exact ((10 ∷ []) ∷ []) (omega arith) refl) in
    spelling (Then (OneOf (take 1 (next_texts b))) (λ _. Now r)) (IsAfter b zero r) (λ bytes. one_of_at (take 1 (next_texts b)) bytes >>= λ x. Ok (r, x.1))
    (λ s text t. no_more b i zero r f s text t.4.0 (t.5 ∙ ap (λ (z : List ℕ). t.1 ++ z) t.4.1 ∙ append-nil t.1 ∙ only_text b t.0 t.1 t.3))
    (λ s text a.
    let e = ends b h i r s text f a in
    (0, 10 ∷ [], [], rw (only_end b) refl, (e.0, refl), e.1))
    (andthen (OneOf (take 1 (next_texts b))) (λ _. Now r) (one_of_at (take 1 (next_texts b))) (λ _ bytes. Ok (r, bytes)) last (λ x a o. now r))
more_exact b h (suc left) i r f =
    spelling (Then (OneOf (next_texts b)) (NextIs b left r)) (IsAfter b (suc left) r) (λ bytes. one_of_at (next_texts b) bytes >>= λ x. cond (eqb x.0 0) (Ok (r, x.1)) (more_at b left (r * gate_count b + x.0) x.1))
    (λ s text t. next_is b i left r f s text t)
    (λ s text a. is_next b h i left r f s text a)
    (andthen (OneOf (next_texts b)) (NextIs b left r) (one_of_at (next_texts b)) (λ j bytes. cond (eqb j 0) (Ok (r, bytes)) (more_at b left (r * gate_count b + j) bytes))
    (one_of_exact (next_texts b) (next_some b) (next_apart b h))
    (next_exact b i left r f (λ k lt. more_exact b h left (suc i) (r * gate_count b + suc k) (longer_front b i left r k f lt))))

-- ---- whole members

-- the text is the line of the circuit with this rank
pub record IsMember (b : Limits) (r : ℕ) (text : List ℕ) : Type 0 where
  pub listed : r < length (all_circuits b)
  pub text_is : text ≡ member_text b.grain (circuit_at b r)

-- the line of a circuit of some gates
some_text : (grain : ℕ) (g : Op) (c : Circuit) → member_text grain (g ∷ c) ≡ gate_text grain g ++ after grain c
unfolding member_text circuit_text after
some_text grain g c = ap (λ (z : List ℕ). z ++ 10 ∷ []) (joined_texts 59 (gate_text grain) g c) ∙ append_assoc (gate_text grain g) (flat_map (λ h. 59 ∷ gate_text grain h) c) (10 ∷ [])

empty_text : (grain : ℕ) → member_text grain [] ≡ 45 ∷ 10 ∷ []
unfolding member_text circuit_text
empty_text grain = refl

-- no gates stand in front of a member
nothing_in_front : (b : Limits) → (left : ℕ) → b.n ≡ suc left → IsFront b 0 (suc left) 0
nothing_in_front b left e =
    let all : length (all_circuits b) ≡ shorter (gate_count b) (suc b.n) = length-all_circuits b in
    record {
      all = omega (arith, e);
      few = omega (arith, pow-zero (gate_count b));
      listed = omega (arith, all, pow-zero (gate_count b), shorter-monotone (gate_count b) 1 b.n, ap (shorter (gate_count b)) (one_more_is b.n));
    }
  where
    one_more_is : (n : ℕ) → 1 + n ≡ suc n
    one_more_is n = omega arith

none_listed : (b : Limits) → 0 < length (all_circuits b)
none_listed b =
    let one_more_is : 1 + b.n ≡ suc b.n = omega arith in
    omega (arith, length-all_circuits b, pow-zero (gate_count b), shorter-monotone (gate_count b) 1 b.n, ap (shorter (gate_count b)) one_more_is)

first_gate_front : (b : Limits) (k : ℕ) → 0 < b.n → k < gate_count b → IsFront b 1 (b.n - 1) (suc k)
first_gate_front b k some lt =
    let whole : b.n ≡ suc (b.n - 1) = omega arith in
    let place : 0 * gate_count b + suc k ≡ suc k = omega arith in
    subst (IsFront b 1 (b.n - 1)) place (longer_front b 0 (b.n - 1) 0 k (nothing_in_front b (b.n - 1) whole) lt)

-- the circuit of one gate
one_gate : (b : Limits) (k : ℕ) → 0 < b.n → k < gate_count b → circuit_at b (suc k) ≡ get_or (gates_of b) k (H 0) ∷ []
one_gate b k some lt =
    let whole : b.n ≡ suc (b.n - 1) = omega arith in
    let place : 0 * gate_count b + suc k ≡ suc k = omega arith in
    let m = longer b 0 (b.n - 1) 0 k (nothing_in_front b (b.n - 1) whole) lt in
    ap (circuit_at b) (sym place) ∙ m.circuit ∙ ap (λ (z : Circuit). z ++ get_or (gates_of b) k (H 0) ∷ []) (circuit_at-zero b)

-- what follows the text with number j of those that a member may begin with
FirstIs : (b : Limits) (j : ℕ) → Language ℕ
FirstIs b j s text = ((j ≡ 0) × Now 0 s text) ⊎ ((k : ℕ) × (j ≡ suc k) × (0 < b.n) × IsAfter b (b.n - 1) j s text)

first_exact : (b : Limits) → IsLawful b → (j : ℕ) (a : List ℕ) → OneOf (first_texts b) j a → Exact (FirstIs b j) (λ bytes. cond (eqb j 0) (Ok (0, bytes)) (more_at b (b.n - 1) j bytes))
unfolding FirstIs
first_exact b h zero a o =
    choose (FirstIs b 0) (eqb 0 0) (λ bytes. Ok (0, bytes)) (more_at b (b.n - 1) 0)
    (λ _. spelling (Now 0) (FirstIs b 0) (λ bytes. Ok (0, bytes)) (λ s text n. inl (refl, n)) (λ s text n. elim n [ inl m ↦ m.1 | inr m ↦ absurd (omega (arith, m.1)) ]) (now 0))
    (λ t. absurd (cc t))
first_exact b h (suc k) a o =
    let g = first_listed b k a o in
    choose (FirstIs b (suc k)) (eqb (suc k) 0) (λ bytes. Ok (0, bytes)) (more_at b (b.n - 1) (suc k))
    (λ t. absurd (omega (arith, eqb-true (suc k) 0 t)))
    (λ _. spelling (IsAfter b (b.n - 1) (suc k)) (FirstIs b (suc k)) (more_at b (b.n - 1) (suc k)) (λ s text n. inr (k, refl, g.0, n)) (λ s text n. elim n [ inl m ↦ absurd (omega (arith, m.0)) | inr m ↦ m.3 ]) (more_exact b h (b.n - 1) 1 (suc k) (first_gate_front b k g.0 g.1.number)))

first_is : (b : Limits) (s : ℕ) (text : List ℕ) → Then (OneOf (first_texts b)) (FirstIs b) s text → IsMember b s text
unfolding FirstIs
first_is b s text t =
    elim t.4 [
      | inl n ↦
          let line : t.1 ≡ 45 ∷ 10 ∷ [] = first_empty b t.1 (subst (λ j. slice_get (first_texts b) j ≡ Some t.1) n.0 t.3) in
          record {
            listed = rw n.1.0 (none_listed b);
            text_is = t.5 ∙ ap (λ (z : List ℕ). t.1 ++ z) n.1.1 ∙ append-nil t.1 ∙ line ∙ sym (empty_text b.grain) ∙ ap (member_text b.grain) (sym (ap (circuit_at b) n.1.0 ∙ circuit_at-zero b));
          }
      | inr n ↦
          let g = first_listed b n.0 t.1 (subst (λ j. slice_get (first_texts b) j ≡ Some t.1) n.1 t.3) in
          let rest : IsAfter b (b.n - 1) (suc n.0) s t.2 = subst (λ j. IsAfter b (b.n - 1) j s t.2) n.1 n.3 in
          let whole : circuit_at b s ≡ g.1.gate ∷ rest.gates = rest.circuit ∙ ap (λ (z : Circuit). z ++ rest.gates) (one_gate b n.0 n.2 g.1.number) ∙ ap (λ (z : Op). z ∷ rest.gates) g.1.at in
          record {
            listed = rest.listed;
            text_is = t.5 ∙ ap (λ (z : List ℕ). z ++ t.2) g.1.text_is ∙ ap (λ (z : List ℕ). gate_text b.grain g.1.gate ++ z) rest.text_is ∙ sym (some_text b.grain g.1.gate rest.gates) ∙ ap (member_text b.grain) (sym whole);
          }
    ]

is_first : (b : Limits) → IsLawful b → (s : ℕ) (text : List ℕ) → IsMember b s text → Then (OneOf (first_texts b)) (FirstIs b) s text
unfolding FirstIs gate_count
is_first b h s text m = by_circuit (circuit_at b s) refl (circuit_at-within b s m.listed)
  where
    by_circuit : (c : Circuit) → circuit_at b s ≡ c → Within b (circuit_at b s) → Then (OneOf (first_texts b)) (FirstIs b) s text
    by_circuit [] e w =
        (0, 45 ∷ 10 ∷ [], [], empty_listed b, inl (refl, (same_rank b h 0 s (none_listed b) m.listed (e ∙ sym (circuit_at-zero b)), refl)), m.text_is ∙ ap (member_text b.grain) e ∙ empty_text b.grain)
    by_circuit (g ∷ c) e w =
        let within : Within b (g ∷ c) = subst (Within b) e w in
        let some : 0 < b.n = omega (arith, within.short) in
        let here = listed_from_contains (gates_of b) g within.gates.0 in
        let k = within.gates.0.0 in
        let number : k < gate_count b = slice_get_within (gates_of b) k g here in
        let at : get_or (gates_of b) k (H 0) ≡ g = get_or_from_slice_get (gates_of b) k g (H 0) here in (
          suc k,
          gate_text b.grain g,
          after b.grain c,
          first_of_gate b k g some here,
          inr (
            k,
            refl,
            some,
            record {
              gates = c;
              short = omega (arith, within.short);
              within = within.gates.1;
              text_is = refl;
              circuit = e ∙ ap (λ (z : Op). z ∷ c) (sym at) ∙ ap (λ (z : Circuit). z ++ c) (sym (one_gate b k some number));
              listed = m.listed;
            },
          ),
          m.text_is ∙ ap (member_text b.grain) e ∙ some_text b.grain g c,
        )

-- the line of a member is read exactly
pub member_exact : (b : Limits) → IsLawful b → Exact (IsMember b) (member_at b)
unfolding member_at
member_exact b h =
    spelling (Then (OneOf (first_texts b)) (FirstIs b)) (IsMember b) (λ bytes. one_of_at (first_texts b) bytes >>= λ x. cond (eqb x.0 0) (Ok (0, x.1)) (more_at b (b.n - 1) x.0 x.1))
    (first_is b) (is_first b h)
    (andthen (OneOf (first_texts b)) (FirstIs b) (one_of_at (first_texts b)) (λ j bytes. cond (eqb j 0) (Ok (0, bytes)) (more_at b (b.n - 1) j bytes))
    (one_of_exact (first_texts b) (first_some b) (first_apart b h))
    (first_exact b h))

-- ---- as a loop reads

pub next_read : (b : Limits) (left r j : ℕ) (rest behind : List ℕ) → 0 < left → one_of_at (next_texts b) rest ≡ Ok (j, behind) → more_at b left r rest ≡ cond (eqb j 0) (Ok (r, behind)) (more_at b (left - 1) (r * gate_count b + j) behind)
unfolding more_at
next_read b zero r j rest behind some e = absurd (omega arith)
next_read b (suc left) r j rest behind some e =
    let before : suc left - 1 ≡ left = omega arith in
    rw (e, before) refl

pub next_fails : (b : Limits) (left r n : ℕ) (rest : List ℕ) → 0 < left → one_of_at (next_texts b) rest ≡ Err n → more_at b left r rest ≡ Err n
unfolding more_at
next_fails b zero r n rest some e = absurd (omega arith)
next_fails b (suc left) r n rest some e = rw e refl

pub last_read : (b : Limits) (left r j : ℕ) (rest behind : List ℕ) → left ≡ 0 → one_of_at ((10 ∷ []) ∷ []) rest ≡ Ok (j, behind) → more_at b left r rest ≡ Ok (r, behind)
unfolding more_at
last_read b zero r j rest behind none e = rw (only_end b, e) refl
last_read b (suc left) r j rest behind none e = absurd (omega arith)

pub last_fails : (b : Limits) (left r n : ℕ) (rest : List ℕ) → left ≡ 0 → one_of_at ((10 ∷ []) ∷ []) rest ≡ Err n → more_at b left r rest ≡ Err n
unfolding more_at
last_fails b zero r n rest none e = rw (only_end b, e) refl
last_fails b (suc left) r n rest none e = absurd (omega arith)

-- behind the first gate
pub start_front : (b : Limits) (start left : ℕ) → 0 < b.n → 0 < start → start ≤ gate_count b → left ≡ b.n - 1 → IsFront b (b.n - left) left start
start_front b start left some first few e =
    let place : suc (start - 1) ≡ start = omega arith in
    let one : b.n - left ≡ 1 = omega arith in
    rw (one, e, ← place) (first_gate_front b (start - 1) some (omega arith))

-- with one gate more
pub next_front : (b : Limits) (left r j : ℕ) → left ≤ b.n → 0 < left → 0 < j → j ≤ gate_count b → IsFront b (b.n - left) left r → IsFront b (b.n - (left - 1)) (left - 1) (r * gate_count b + j)
next_front b zero r j within some first few f = absurd (omega arith)
next_front b (suc left) r zero within some first few f = absurd (omega arith)
next_front b (suc left) r (suc k) within some first few f =
    let before : suc left - 1 ≡ left = omega arith in
    let more : b.n - left ≡ suc (b.n - suc left) = omega arith in
    rw (before, more) (longer_front b (b.n - suc left) left r k f (omega arith))
