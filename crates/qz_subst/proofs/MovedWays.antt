-- Ways whose exponents are changed by a change that goes over products and keeps whole turns: through gates, and counts that differ by a phase.
use Rattle.std.proofs.Common.{◌≡◌, ℕ, zero, suc, ◌^◌, ◌==◌, Bool, true, false, List, [], ◌∷◌, ◌++◌, map, refl, sym, ap, ◌∙◌, arith}
use Rattle.std.specs.Prelude.{ℤ, pos, ◌+ℤ◌, neg_ℤ, fold, if◌then◌else◌}
use Rattle.std.specs.List.{flat_map}
use Rattle.std.proofs.lemmas.Int.{ints}
use Rattle.std.proofs.lemmas.List.{map-append}
use Rattle.qz_circ.specs.Circuit.{below}
use Rattle.qz_circ.specs.Exponent.{Exponent, IsExponent, zero_exponent, plus, with_turns, turn_of}
use Rattle.qz_circ.specs.Paths.{Path, Ways, has_bit, way_if, times, products, ways_through, ways_along, identity_ways, count, root2_once, root2}
use Rattle.qz_circ.proofs.SignedWays.{one_way, sign_of, AreProper}
use Rattle.qz_circ.proofs.Exponents.{exponent_eq}
use Rattle.qz_circ.proofs.Totals.{AreProper-append, AreProper-products, count-append, count-times_one}
use Rattle.qz_circ.proofs.GateSteps.{Kind, mix, flip, flip_where, turn, Gate}
use Rattle.qz_circ.proofs.Through.{gate_ways, leads, negates, turns_by}
use Rattle.qz_circ.proofs.Roots.{Shifted}
use Rattle.qz_paths.proofs.Weights.{CountNothing, moved, all_moved, moved_nothing}

-- a change of exponents that goes over products and keeps whole turns
pub record IsChange (s : Exponent → Exponent) : Type 0 where
  pub proper : (e : Exponent) → IsExponent (s e)
  pub products : (d e : Exponent) → s (plus d e) ≡ plus (s d) (s e)
  pub turns : (k : ℕ) → s (turn_of k) ≡ turn_of k

-- the ways between every two states, changed
abbrev moved_ways : (Exponent → Exponent) → Ways → Ways
moved_ways s w i j = all_moved s (w i j)

-- the kind of gate with its exponent changed
abbrev moved_kind : (Exponent → Exponent) → Kind → Kind
moved_kind s mix = mix
moved_kind s flip = flip
moved_kind s flip_where = flip_where
moved_kind s (turn u) = turn (s u)

-- and the gate
abbrev pub moved_gate : (Exponent → Exponent) → Gate → Gate
moved_gate s g = record { kind = moved_kind s g.kind; control = g.control; target = g.target }

-- pieces that are changed are the changed pieces
map-flat_map : {A B C : Type 0} (g : B → C) (h : A → List B) (xs : List A) → map g (flat_map h xs) ≡ flat_map (λ x. map g (h x)) xs
map-flat_map g h [] = refl
map-flat_map g h (x ∷ xs) = map-append g (h x) (flat_map h xs) ∙ ap (λ ys. map g (h x) ++ ys) (map-flat_map g h xs)

module _ (s : Exponent → Exponent) (is : IsChange s) where
  -- the exponent of 1 stays
  zero_stays : s zero_exponent ≡ zero_exponent
  zero_stays = is.turns 0

  -- some turns more stay so
  more_turns : (e : Exponent) (k : ℕ) → s (with_turns e k) ≡ with_turns (s e) k
  more_turns e k = ap s (sym (as_sum e)) ∙ is.products e (turn_of k) ∙ ap (plus (s e)) (is.turns k) ∙ as_sum (s e)
    where
      as_sum : (x : Exponent) → plus x (turn_of k) ≡ with_turns x k
      as_sum x = exponent_eq (plus x (turn_of k)) (with_turns x k) (omega arith) (omega (arith, ints)) (omega (arith, ints)) (omega (arith, ints))

  -- ---- ways

  -- one way, if there is one
  moved_if : (test : Bool) (z : ℤ) (e : Exponent) → all_moved s (way_if test z e) ≡ way_if test z (s e)
  moved_if true z e = refl
  moved_if false z e = refl

  -- through no gate
  moved_identity : (i j : ℕ) → all_moved s (identity_ways i j) ≡ identity_ways i j
  unfolding identity_ways
  moved_identity i j = moved_if (i == j) (pos 1) zero_exponent ∙ ap (way_if (i == j) (pos 1)) zero_stays

  -- through a gate
  moved_through_gate : (g : Gate) (i k : ℕ) → all_moved s (gate_ways g i k) ≡ gate_ways (moved_gate s g) i k
  unfolding gate_ways
  moved_through_gate g i k = by g.kind
    where
      turned : (b : Bool) (u : Exponent) → s (if b then u else zero_exponent) ≡ (if b then s u else zero_exponent)
      turned true u = refl
      turned false u = zero_stays

      by : (kind : Kind) → all_moved s (way_if (leads kind g.control g.target i k) (sign_of (negates kind (has_bit g.target i) (has_bit g.target k))) (turns_by kind (has_bit g.target i))) ≡
          way_if (leads (moved_kind s kind) g.control g.target i k) (sign_of (negates (moved_kind s kind) (has_bit g.target i) (has_bit g.target k))) (turns_by (moved_kind s kind) (has_bit g.target i))
      by mix = moved_if (leads mix g.control g.target i k) (sign_of (negates mix (has_bit g.target i) (has_bit g.target k))) zero_exponent ∙ ap (way_if (leads mix g.control g.target i k) (sign_of (negates mix (has_bit g.target i) (has_bit g.target k)))) zero_stays
      by flip = moved_if (leads flip g.control g.target i k) (pos 1) zero_exponent ∙ ap (way_if (leads flip g.control g.target i k) (pos 1)) zero_stays
      by flip_where = moved_if (leads flip_where g.control g.target i k) (pos 1) zero_exponent ∙ ap (way_if (leads flip_where g.control g.target i k) (pos 1)) zero_stays
      by (turn u) = moved_if (i == k) (pos 1) (if has_bit g.target i then u else zero_exponent) ∙ ap (way_if (i == k) (pos 1)) (turned (has_bit g.target i) u)

  -- products
  moved_products : (ps rs : List Path) → all_moved s (products ps rs) ≡ products (all_moved s ps) (all_moved s rs)
  moved_products [] rs = refl
  moved_products (p ∷ ps) rs = map-append (moved s) (map (times p) rs) (products ps rs) ∙ (λ d. row rs d ++ moved_products ps rs d)
    where
      row : (rs : List Path) → all_moved s (map (times p) rs) ≡ map (times (moved s p)) (all_moved s rs)
      row [] = refl
      row (r ∷ rs) = λ d. record { sign = (times p r).sign; exponent = is.products p.exponent r.exponent d } ∷ row rs d

  -- through one gate more
  moved_through : (q : ℕ) (first second : Ways) (i j : ℕ) → all_moved s (ways_through q first second i j) ≡ ways_through q (moved_ways s first) (moved_ways s second) i j
  unfolding ways_through
  moved_through q first second i j =
      map-flat_map (moved s) (λ k. products (first k j) (second i k)) (below (2 ^ q)) ∙
      (λ d. flat_map (λ k. moved_products (first k j) (second i k) d) (below (2 ^ q)))

  -- through gates of any kind
  moved_after : {G : Type 0} (through : G → Ways) (as_one : G → Gate) (same : (g : G) → through g ≡ gate_ways (as_one g)) (q : ℕ) (gates : List G) (w v : Ways) → moved_ways s w ≡ v →
      moved_ways s (fold (λ ways g. ways_through q ways (through g)) w gates) ≡ fold (λ ways g. ways_through q ways (gate_ways (moved_gate s (as_one g)))) v gates
  moved_after through as_one same q [] w v h = h
  moved_after through as_one same q (g ∷ gates) w v h =
      moved_after through as_one same q gates (ways_through q w (through g)) (ways_through q v (gate_ways (moved_gate s (as_one g))))
      ((λ d i j. moved_through q w (through g) i j d) ∙ (λ d. ways_through q (h d) (moved_ways s (same g d))) ∙ (λ d. ways_through q v (λ i k. moved_through_gate (as_one g) i k d)))

  pub moved_along : {G : Type 0} (through : G → Ways) (as_one : G → Gate) (same : (g : G) → through g ≡ gate_ways (as_one g)) (q : ℕ) (gates : List G) →
      moved_ways s (ways_along through q gates) ≡ ways_along (λ g. gate_ways (moved_gate s (as_one g))) q gates
  unfolding ways_along
  moved_along through as_one same q gates = moved_after through as_one same q gates identity_ways identity_ways (λ d i j. moved_identity i j d)

  -- times √2
  moved_root2_once : (ps : List Path) → all_moved s (root2_once ps) ≡ root2_once (all_moved s ps)
  unfolding root2_once
  moved_root2_once [] = refl
  moved_root2_once (p ∷ ps) = λ d.
      record { sign = p.sign; exponent = more_turns p.exponent 64 d } ∷ record { sign = neg_ℤ p.sign; exponent = more_turns p.exponent 192 d } ∷ moved_root2_once ps d

  -- times a power of √2
  pub moved_root2 : (h : ℕ) (ps : List Path) → all_moved s (root2 h ps) ≡ root2 h (all_moved s ps)
  unfolding root2
  moved_root2 zero ps = refl
  moved_root2 (suc h) ps = moved_root2_once (root2 h ps) ∙ ap root2_once (moved_root2 h ps)

  -- ---- counts

  -- changed ways are proper
  all_moved_proper : (ps : List Path) → AreProper (all_moved s ps)
  all_moved_proper [] = tt
  all_moved_proper (p ∷ ps) = (is.proper p.exponent, all_moved_proper ps)

  -- counts that differ by a phase still do, by the changed phase
  pub shifted_moved : (u : Exponent) (ps rs : List Path) → IsExponent u → AreProper ps → AreProper rs → Shifted u ps rs → Shifted (s u) (all_moved s ps) (all_moved s rs)
  shifted_moved u ps rs hu hp hr shifted e he =
      let turned = products rs (one_way true u) in
      let none : CountNothing (ps ++ turned) = λ x hx. difference _ _ _ _ (count-append ps turned x) (count-times_one true u rs x hr hu hx) (shifted x hx) in
      let moved_none = moved_nothing s is.proper (λ x. more_turns x 256) (ps ++ turned) (AreProper-append ps turned hp (AreProper-products rs (one_way true u))) none e he in
      let parts : all_moved s (ps ++ turned) ≡ all_moved s ps ++ products (all_moved s rs) (one_way true (s u)) = map-append (moved s) ps turned ∙ ap (λ xs. all_moved s ps ++ xs) (moved_products rs (one_way true u)) in
      let counted = ap (λ xs. count xs e) parts ∙ count-append (all_moved s ps) (products (all_moved s rs) (one_way true (s u))) e in
      let back = count-times_one true (s u) (all_moved s rs) e (all_moved_proper rs) (is.proper u) he in
      undone _ _ _ _ counted back moved_none
    where
      difference : (w x y z : ℤ) → w ≡ x +ℤ y → y ≡ neg_ℤ z → x ≡ z → w ≡ pos 0
      difference w x y z h k l = omega (arith, ints)

      undone : (w x y z : ℤ) → w ≡ x +ℤ y → y ≡ neg_ℤ z → w ≡ pos 0 → x ≡ z
      undone w x y z h k l = omega (arith, ints)
