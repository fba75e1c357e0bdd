-- What the ways through one gate more are worth is what the gate's step makes of the values before it.
use Rattle.std.proofs.Common.{◌≡◌, ℕ, ◌+◌, ◌*◌, ◌%◌, ◌^◌, ◌<◌, Bool, true, false, List, [], ◌∷◌, ◌++◌, refl, sym, ap, ◌∙◌, arith}
use Rattle.std.specs.Prelude.{◌+ℤ◌, if◌then◌else◌}
use Rattle.qz_circ.specs.declared.circuit.Expr.{Expr}
use Rattle.qz_circ.specs.declared.circuit.Op.{Op}
use Rattle.qz_circ.specs.declared.circuit.Op.TheVariants.{H, X, Cx, Rz}
use Rattle.qz_circ.specs.Circuit.{Circuit, ActsBelow}
use Rattle.qz_circ.specs.Exponent.{Exponent, IsExponent, zero_exponent, minus, angle_exponent}
use Rattle.qz_circ.specs.Paths.{Path, has_bit, flipped_state, products, paths, count}
use Rattle.qz_circ.proofs.SignedWays.{signed, one_way, AreProper}
use Rattle.qz_circ.proofs.Exponents.{minus-zero}
use Rattle.qz_circ.proofs.Flips.{flip_below}
use Rattle.qz_circ.proofs.Totals.{AreProper-append, AreProper-products, count-append, count-times_one}
use Rattle.qz_circ.proofs.ProperWays.{proper_paths}
use Rattle.qz_circ.proofs.RuleGates.{as_gate, angle_proper, gate_is}
use Rattle.qz_circ.proofs.PathCounts.{count_one_more}
use Rattle.qz_finger.specs.Modulo.{modulus, minus_one, sum_below}
use Rattle.qz_finger.specs.Weights.{place_of}
use Rattle.qz_finger.specs.Fingerprint.{Bases, value, value_of}
use Rattle.qz_finger.specs.Actions.{acted, step_for, value_after}
use Rattle.qz_finger.specs.Stands.{AreWeighed}
use Rattle.qz_finger.proofs.Modular.{Same, same_by, same_add, same_mul}
use Rattle.qz_finger.proofs.WayValues.{IsValue, value_append, value_turned, value_shifted}
use Rattle.qz_finger.proofs.Bases.{value_at}
use Rattle.qz_finger.proofs.Sixteenths.{sixteenth_angle, sixteenths_paths, value_sixteenth, value_of_sixteenths}
use Rattle.qz_finger.proofs.Powers.{rest_twice}
use Rattle.qz_finger.proofs.PlaceLemmas.{place_bit, flipped_place}
use Rattle.qz_finger.proofs.SumLemmas.{acted_sum}
use Rattle.qz_finger.proofs.WeighedSums.{sum_congruent}

-- ---- ways that count what an action makes of others

module _ (n r : ℕ) (v : Exponent → ℕ) (is : IsValue n r v) where
  -- ways that count the same are worth the same
  unshifted : (ps rs : List Path) → AreProper ps → AreProper rs → ((e : Exponent) → IsExponent e → count ps e ≡ count rs e) → Same (n + 1) (value_of n v ps) (value_of n v rs)
  unshifted ps rs hp hr same =
      value_shifted n r v is zero_exponent ps rs (omega arith) hp hr (λ e he. same e he ∙ ap (count rs) (sym (minus-zero e he))) ∙
      same_mul (n + 1) (v zero_exponent) 1 (value_of n v rs) (value_of n v rs) is.one refl ∙
      same_by (n + 1) (1 * value_of n v rs) (value_of n v rs) 0 0 (omega arith)

  -- a sum, or a difference
  after_mix : (c : Bool) (new here across : List Path) → AreProper new → AreProper here → AreProper across →
      ((e : Exponent) → IsExponent e → count new e ≡ signed c (count here e) +ℤ count across e) →
      Same (n + 1) (value_of n v new) ((if c then n * value_of n v here else value_of n v here) + value_of n v across)
  after_mix true new here across hn hh ha counts =
      let negated = products here (one_way true zero_exponent) in
      let proper : IsExponent zero_exponent = omega arith in
      let part = λ (e : Exponent) (he : IsExponent e). count-times_one true zero_exponent here e hh proper he ∙ ap (λ d. signed true (count here d)) (minus-zero e he) in
      unshifted new (negated ++ across) hn (AreProper-append negated across (AreProper-products here (one_way true zero_exponent)) ha)
      (λ e he. counts e he ∙ sym (count-append negated across e ∙ (λ d. part e he d +ℤ count across e))) ∙
      ap (λ x. x % (n + 1)) (value_append n r v is negated across) ∙
      same_add (n + 1) (value_of n v negated) (n * (1 * value_of n v here)) (value_of n v across) (value_of n v across)
      (value_turned n r v is zero_exponent here proper hh ∙ same_mul (n + 1) n n (v zero_exponent * value_of n v here) (1 * value_of n v here) refl (same_mul (n + 1) (v zero_exponent) 1 (value_of n v here) (value_of n v here) is.one refl)) refl ∙
      same_by (n + 1) (n * (1 * value_of n v here) + value_of n v across) (n * value_of n v here + value_of n v across) 0 0 (omega arith)
  after_mix false new here across hn hh ha counts =
      unshifted new (here ++ across) hn (AreProper-append here across hh ha) (λ e he. counts e he ∙ sym (count-append here across e)) ∙
      ap (λ x. x % (n + 1)) (value_append n r v is here across)

  -- one or the other
  after_flip : (b : Bool) (new here across : List Path) → AreProper new → AreProper here → AreProper across →
      ((e : Exponent) → IsExponent e → count new e ≡ (if b then count across else count here) e) → Same (n + 1) (value_of n v new) (if b then value_of n v across else value_of n v here)
  after_flip true new here across hn hh ha counts = unshifted new across hn ha counts
  after_flip false new here across hn hh ha counts = unshifted new here hn hh counts

  -- a multiple
  after_turn : (c : Bool) (u : Exponent) (new here : List Path) → IsExponent u → AreProper new → AreProper here →
      ((e : Exponent) → IsExponent e → count new e ≡ count here (if c then minus e u else e)) → Same (n + 1) (value_of n v new) (if c then v u * value_of n v here else value_of n v here)
  after_turn true u new here hu hn hh counts = value_shifted n r v is u new here hu hn hh counts
  after_turn false u new here hu hn hh counts = unshifted new here hn hh counts

-- ---- actions on numbers that are the same

-- by each action
acted_same : (u w : Expr → ℕ) (g : Op) (b c : Bool) (x y x' y' : ℕ) → ((e : Expr) → Same modulus (u e) (w e)) → Same modulus x x' → Same modulus y y' →
    Same modulus (acted (step_for u g).action b c x y) (acted (step_for w g).action b c x' y')
acted_same u w (H t) b true x y x' y' worth first second = same_add modulus (minus_one * x) (minus_one * x') y y' (same_mul modulus minus_one minus_one x x' refl first) second
acted_same u w (H t) b false x y x' y' worth first second = same_add modulus x x' y y' first second
acted_same u w (X t) b c x y x' y' worth first second = second
acted_same u w (Cx s t) true c x y x' y' worth first second = second
acted_same u w (Cx s t) false c x y x' y' worth first second = first
acted_same u w (Rz t e) b true x y x' y' worth first second = same_mul modulus (u e) (w e) x x' (worth e) first
acted_same u w (Rz t e) b false x y x' y' worth first second = first

-- the control of a step is that of the gate
control_of : (u : Expr → ℕ) (g : Op) → (step_for u g).control ≡ (as_gate g).control
control_of u (H t) = refl
control_of u (X t) = refl
control_of u (Cx c t) = refl
control_of u (Rz t e) = refl

-- and so is the target
target_of : (u : Expr → ℕ) (g : Op) → (step_for u g).target ≡ (as_gate g).target
target_of u (H t) = refl
target_of u (X t) = refl
target_of u (Cx c t) = refl
target_of u (Rz t e) = refl

-- the control is one of the qubits, too
control_within : (q : ℕ) (g : Op) → ActsBelow q g → (as_gate g).control < q
control_within q (H t) acts = acts
control_within q (X t) acts = acts
control_within q (Cx c t) acts = acts.0
control_within q (Rz t e) acts = acts

-- ---- one gate more

module _ (r z : ℕ) (b : Bases) (is : IsValue minus_one r (value_at z b)) (root : Same modulus (z ^ 16) b.root) where
  -- what the ways through a circuit are worth
  abbrev worth : ℕ → Circuit → ℕ → ℕ → ℕ
  worth q c i j = value_of minus_one (value_at z b) (paths q c i j)

  -- through one gate more
  worth_more : (q : ℕ) (c : Circuit) (g : Op) (i j : ℕ) → ActsBelow q g → i < 2 ^ q →
      Same modulus (worth q (c ++ g ∷ []) i j) (acted (step_for (λ e. value_at z b (angle_exponent e)) g).action (has_bit (as_gate g).control i) (has_bit (as_gate g).target i) (worth q c i j) (worth q c (flipped_state (as_gate g).target i) j))
  worth_more q c (H t) i j acts less =
      after_mix minus_one r (value_at z b) is (has_bit t i) (paths q (c ++ H t ∷ []) i j) (paths q c i j) (paths q c (flipped_state t i) j)
      (proper_paths q (c ++ H t ∷ []) i j) (proper_paths q c i j) (proper_paths q c (flipped_state t i) j) (λ e he. count_one_more q c (H t) i j e acts less he)
  worth_more q c (X t) i j acts less =
      unshifted minus_one r (value_at z b) is (paths q (c ++ X t ∷ []) i j) (paths q c (flipped_state t i) j)
      (proper_paths q (c ++ X t ∷ []) i j) (proper_paths q c (flipped_state t i) j) (λ e he. count_one_more q c (X t) i j e acts less he)
  worth_more q c (Cx s t) i j acts less =
      after_flip minus_one r (value_at z b) is (has_bit s i) (paths q (c ++ Cx s t ∷ []) i j) (paths q c i j) (paths q c (flipped_state t i) j)
      (proper_paths q (c ++ Cx s t ∷ []) i j) (proper_paths q c i j) (proper_paths q c (flipped_state t i) j) (λ e he. count_one_more q c (Cx s t) i j e acts less he)
  worth_more q c (Rz t e) i j acts less =
      after_turn minus_one r (value_at z b) is (has_bit t i) (angle_exponent e) (paths q (c ++ Rz t e ∷ []) i j) (paths q c i j) (angle_proper e)
      (proper_paths q (c ++ Rz t e ∷ []) i j) (proper_paths q c i j) (λ d hd. count_one_more q c (Rz t e) i j d acts less hd)

  -- weights times what the ways through a circuit are worth
  weighed_worth : (q : ℕ) (w : ℕ → ℕ) (c : Circuit) (l : ℕ) → Same modulus (sum_below (λ j. w j * value_of minus_one (value b) (paths q c l j)) (2 ^ q)) (sum_below (λ j. w j * worth q c l j) (2 ^ q))
  weighed_worth q w c l =
      sum_congruent modulus (λ j. w j * value_of minus_one (value b) (paths q c l j)) (λ j. w j * worth q c l j) (2 ^ q)
      (λ j column. same_mul modulus (w j) (w j) (value_of minus_one (value b) (paths q c l j)) (worth q c l j) refl (value_of_sixteenths minus_one z b (paths q c l j) root (sixteenths_paths q c l j)))

  -- what the step makes of weighed values are those of the circuit with the gate
  pub weighed_more : (q : ℕ) (w : ℕ → ℕ → ℕ) (c : Circuit) (g : Op) (f : ℕ → ℕ) → ActsBelow q g → AreWeighed q (value b) w c f →
      AreWeighed q (value b) w (c ++ g ∷ []) (value_after (step_for (λ e. value b (angle_exponent e) % modulus) g) f)
  weighed_more q w c g f acts values i l row other =
      let u = λ (e : Expr). value b (angle_exponent e) % modulus in
      let x = λ (e : Expr). value_at z b (angle_exponent e) in
      let action = (step_for u g).action in
      let control = (as_gate g).control in
      let target = (as_gate g).target in
      let controlled = control_within q g acts in
      let targeted = (gate_is q g acts).within in
      let k = place_of q i l in
      let over = flipped_state target l in
      let over_below : over < 2 ^ q = flip_below q target l targeted other in
      let worths = λ (e : Expr). rest_twice modulus (value b (angle_exponent e)) ∙ value_sixteenth modulus z b (angle_exponent e) root (sixteenth_angle e) in
      let here = sum_below (λ j. w i j * value_of minus_one (value b) (paths q c l j)) (2 ^ q) in
      let across = sum_below (λ j. w i j * value_of minus_one (value b) (paths q c over j)) (2 ^ q) in
      let here_worth = sum_below (λ j. w i j * worth q c l j) (2 ^ q) in
      let across_worth = sum_below (λ j. w i j * worth q c over j) (2 ^ q) in
      let made = λ (j : ℕ). acted (step_for x g).action (has_bit control l) (has_bit target l) (worth q c l j) (worth q c over j) in
      (λ d. acted action (has_bit (control_of u g d) k) (has_bit (target_of u g d) k) (f k) (f (flipped_state (target_of u g d) k)) % modulus) ∙
      (λ d. acted action (place_bit q control i l controlled d) (place_bit q target i l targeted d) (values i l row other d) (f (flipped_place q target i l targeted d)) % modulus) ∙
      (λ d. acted action (has_bit control l) (has_bit target l) (here % modulus) (values i over row over_below d) % modulus) ∙
      acted_same u x g (has_bit control l) (has_bit target l) (here % modulus) (across % modulus) here_worth across_worth worths
      (rest_twice modulus here ∙ weighed_worth q (w i) c l) (rest_twice modulus across ∙ weighed_worth q (w i) c over) ∙
      ap (λ s. s % modulus) (sym (acted_sum (step_for x g).action (has_bit control l) (has_bit target l) (w i) (worth q c l) (worth q c over) (2 ^ q))) ∙
      sum_congruent modulus (λ j. w i j * made j) (λ j. w i j * worth q (c ++ g ∷ []) l j) (2 ^ q)
      (λ j column. same_mul modulus (w i j) (w i j) (made j) (worth q (c ++ g ∷ []) l j) refl (sym (worth_more q c g l j acts other))) ∙
      sym (weighed_worth q (w i) (c ++ g ∷ []) l)
