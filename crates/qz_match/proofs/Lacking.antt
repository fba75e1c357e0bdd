-- A left side with a gate that is of none of a program's kinds has no places in it.
use Rattle.std.proofs.Common.{◌≡◌, ℕ, zero, suc, ◌+◌, ◌/◌, ◌<◌, ◌==◌, ◌||◌, Bool, true, false, not, List, [], ◌∷◌, ◌++◌, map, length, slice_index_or, Some, refl, sym, ap, ◌∙◌, arith, ◌⊎◌, inl, inr}
use Rattle.std.specs.List.{AllByRecursion, list_any, flat_map}
use Rattle.std.proofs.lemmas.Bool.{and_parts, eqb-true}
use Rattle.std.proofs.lemmas.Bool.Decides.{nat_tests}
use Rattle.qz_circ.specs.declared.binding.Binding.{Binding}
use Rattle.qz_circ.specs.declared.circuit.Expr.{Expr}
use Rattle.qz_circ.specs.declared.circuit.Expr.TheVariants.{Const, Plus, Minus, Sum}
use Rattle.qz_circ.specs.declared.circuit.Op.{Op}
use Rattle.qz_circ.specs.declared.circuit.Op.TheVariants.{H as RuleH, X as RuleX, Cx as RuleCx, Rz as RuleRz}
use Rattle.qz_circ.specs.declared.circuit.Inst.{Inst}
use Rattle.qz_circ.specs.declared.circuit.Inst.TheVariants.{H, X, Cx, Rz}
use Rattle.qz_circ.specs.Circuit.{Circuit, IsOn, below}
use Rattle.qz_circ.specs.Exponent.{constant_turn}
use Rattle.qz_circ.specs.ProgramCircuits.{ProgramCircuit, IsProgramGate}
use Rattle.qz_circ.specs.Places.{all_places, value_of_angle}
use Rattle.qz_circ.proofs.TwoPlaces.{flat_map-below}
use Rattle.qz_match.specs.declared.kinds.Kinds.{Kinds}
use Rattle.qz_match.specs.Kinds.{is_shown, is_lacked, is_angle_lacked, AreShown, ShowsMore}
use Rattle.qz_match.specs.Neighbours.{gate_at}
use Rattle.qz_match.specs.Starts.{starting, Matches}
use Rattle.qz_match.proofs.Bindings.{IsGateOf, AreGatesOf}
use Rattle.qz_match.proofs.Matching.{match-is, gates_lawful}
use Rattle.qz_match.proofs.Starts.{all_places-starts, starting_none}

pub each_shown : (P : Inst → Type 0) (c : ProgramCircuit) → ((x : ℕ) → x < length c → P (gate_at c x)) → AllByRecursion P c
each_shown P [] h = tt
each_shown P (g ∷ c) h = (h 0 (omega arith), each_shown P c (λ x l. h (suc x) (omega arith)))

-- one more gate
pub shown_more : (c : ProgramCircuit) (old new : Kinds) (i : ℕ) → ((x : ℕ) → x < i → is_shown old (gate_at c x) ≡ true) → ShowsMore old new (gate_at c i) → (x : ℕ) → x < i + 1 → is_shown new (gate_at c x) ≡ true
shown_more c old new i h more x l = by (x == i) refl
  where
    by : (b : Bool) → (x == i) ≡ b → is_shown new (gate_at c x) ≡ true
    by true e = let here : x ≡ i = eqb-true x i e in (λ j. is_shown new (gate_at c (here j))) ∙ more.this
    by false e = let less : x < i = grind (arith, nat_tests, e, l) in more.others (gate_at c x) (h x less)

not_both : (b : Bool) → b ≡ true → not b ≡ true → ⊥
not_both true h g = cc
not_both false h g = cc

either : (a b : Bool) → (a || b) ≡ true → (a ≡ true) ⊎ (b ≡ true)
either true b h = inl refl
either false b h = inr h

-- a gate of a rule that is of none of the kinds becomes none of the gates that are
angle_lacked : (kinds : Kinds) (bind : Binding) (e : Expr) (k : ℕ) → kinds.rz ≡ true → slice_index_or kinds.eighths (k / 64) false ≡ true → value_of_angle bind.params e ≡ Some k → is_angle_lacked kinds e ≡ true → ⊥
angle_lacked kinds bind (Const t) k some shown h lacked =
    let value : constant_turn t ≡ k = cc in
    let same : k / 64 ≡ constant_turn t / 64 = ap (λ x. x / 64) (sym value) in
    not_both (slice_index_or kinds.eighths (constant_turn t / 64) false) ((λ i. slice_index_or kinds.eighths (sym same i) false) ∙ shown) lacked
angle_lacked kinds bind (Plus i) k some shown h lacked = not_both kinds.rz some lacked
angle_lacked kinds bind (Minus i) k some shown h lacked = not_both kinds.rz some lacked
angle_lacked kinds bind (Sum i j) k some shown h lacked = not_both kinds.rz some lacked

gate_lacked : (kinds : Kinds) (bind : Binding) (f : Op) (g : Inst) → IsGateOf bind f g → is_shown kinds g ≡ true → is_lacked kinds f ≡ true → ⊥
gate_lacked kinds bind (RuleH t) (H w) h shown lacked = not_both kinds.h shown lacked
gate_lacked kinds bind (RuleX t) (X w) h shown lacked = not_both kinds.x shown lacked
gate_lacked kinds bind (RuleCx a t) (Cx v w) h shown lacked = not_both kinds.cx shown lacked
gate_lacked kinds bind (RuleRz t e) (Rz w k) h shown lacked =
    let parts = and_parts kinds.rz (slice_index_or kinds.eighths (k / 64) false) shown in
    angle_lacked kinds bind e k parts.0 parts.1 h.1 lacked
gate_lacked kinds bind f g h shown lacked = absurd h

some_lacked : (kinds : Kinds) (bind : Binding) (left : Circuit) (gates : ProgramCircuit) → AreGatesOf bind left gates → AreShown gates kinds → list_any (is_lacked kinds) left ≡ true → ⊥
some_lacked kinds bind [] [] h shown lacked = cc
some_lacked kinds bind (f ∷ left) (g ∷ gates) h shown lacked =
    elim (either (is_lacked kinds f) (list_any (is_lacked kinds) left) lacked) [ inl e ↦ gate_lacked kinds bind f g h.0 shown.0 e | inr e ↦ some_lacked kinds bind left gates h.1 shown.1 e ]
some_lacked kinds bind left gates h shown lacked = absurd h

none_below : {B : Type 0} (f : ℕ → List B) (n : ℕ) → ((p : ℕ) → p < n → f p ≡ []) → [] ≡ flat_map f (below n)
none_below f zero h = refl
none_below f (suc n) h =
    (λ i. none_below f n (λ p l. h p (omega arith)) i ++ sym (h n (omega arith)) i) ∙ sym (flat_map-below f n)

pub lacked_nowhere : (left : Circuit) (c : ProgramCircuit) (kinds : Kinds) → 0 < length left → IsOn 3 3 left → AllByRecursion (IsProgramGate 64) c → AreShown c kinds → list_any (is_lacked kinds) left ≡ true → [] ≡ all_places left c
lacked_nowhere left c kinds some on lawful shown lacked =
    none_below (starting left c) (length c) (λ p l. starting_none left c p some l (λ ps m. nowhere p ps m)) ∙ sym (all_places-starts left c some)
  where
    nowhere : (p : ℕ) (ps : List ℕ) → Matches left c p ps → ⊥
    nowhere p ps m =
        let matched = match-is left c p ps on lawful m in
        some_lacked kinds m.binding left (map (gate_at c) (p ∷ ps)) matched.gates (gates_lawful (λ g. is_shown kinds g ≡ true) c shown 0 (p ∷ ps) matched.rising) lacked
