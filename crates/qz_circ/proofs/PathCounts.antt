-- What the ways through a circuit count: through no gate, and through one gate more at the end.
use Rattle.std.proofs.Common.{◌≡◌, ℕ, ◌^◌, ◌<◌, ◌==◌, Bool, true, false, List, [], ◌∷◌, ◌++◌, refl, ap, ◌∙◌}
use Rattle.std.specs.Prelude.{ℤ, pos, ◌-ℤ◌, if◌then◌else◌}
use Rattle.std.proofs.Math.IntN.{+ℤ_idr}
use Rattle.std.proofs.lemmas.List.Sums.{fold_push}
use Rattle.qz_circ.specs.declared.circuit.Op.{Op}
use Rattle.qz_circ.specs.declared.circuit.Inst.{Inst}
use Rattle.qz_circ.specs.Circuit.{Circuit, ActsBelow}
use Rattle.qz_circ.specs.ProgramCircuits.{ProgramCircuit, IsProgramGate, program_entry, program_paths}
use Rattle.qz_circ.specs.Exponent.{Exponent, IsExponent, zero_exponent, with_turns, same_exponent}
use Rattle.qz_circ.specs.Paths.{Ways, way_if, entry, total, count, ways_through, ways_along, paths, identity_ways}
use Rattle.qz_circ.proofs.GateSteps.{Gate, step}
use Rattle.qz_circ.proofs.Through.{gate_ways, IsGate, count_through}
use Rattle.qz_circ.proofs.ProperWays.{proper_along}
use Rattle.qz_circ.proofs.RuleGates.{as_gate, as_program_gate, entry_ways, program_entry_ways, gate_is, program_gate_is}

-- how often the number 1 counts the exponent: once at the exponent of 1, and once less at half a circle
abbrev pub count_of_one : Exponent → ℤ
count_of_one e = (if same_exponent zero_exponent e then pos 1 else pos 0) -ℤ (if same_exponent zero_exponent (with_turns e 256) then pos 1 else pos 0)

-- what one way of exponent 1 counts, where a test holds
count-one_if : (test : Bool) (e : Exponent) → count (way_if test (pos 1) zero_exponent) e ≡ (if test then count_of_one e else pos 0)
unfolding count total
count-one_if true e =
    let here = if same_exponent zero_exponent e then pos 1 else pos 0 in
    let half = if same_exponent zero_exponent (with_turns e 256) then pos 1 else pos 0 in
    (λ d. +ℤ_idr here d -ℤ +ℤ_idr half d)
count-one_if false e = refl

-- what is counted from a state to another through no gate
pub count-identity_ways : (i j : ℕ) (e : Exponent) → count (identity_ways i j) e ≡ (if i == j then count_of_one e else pos 0)
unfolding identity_ways
count-identity_ways i j e = count-one_if (i == j) e

-- what the ways through no gate count
pub count_no_gate : (q i j : ℕ) (e : Exponent) → count (paths q [] i j) e ≡ (if i == j then count_of_one e else pos 0)
unfolding paths ways_along
count_no_gate q i j e = count-identity_ways i j e

-- the ways through one gate more at the end
along_push : {G : Type 0} (through : G → Ways) (q : ℕ) (gates : List G) (g : G) → ways_along through q (gates ++ g ∷ []) ≡ ways_through q (ways_along through q gates) (through g)
unfolding ways_along
along_push through q gates g = fold_push (λ (ways : Ways) g. ways_through q ways (through g)) identity_ways gates g

-- what the ways through one gate more at the end count, for gates of any kind
count-along_push : {G : Type 0} (through : G → Ways) (q : ℕ) (gates : List G) (g : G) (gate : Gate) (i j : ℕ) (e : Exponent) → through g ≡ gate_ways gate → IsGate q gate → i < 2 ^ q → IsExponent e → count (ways_along through q (gates ++ g ∷ []) i j) e ≡ step gate (λ k. count (ways_along through q gates k j)) i e
count-along_push through q gates g gate i j e same is less he =
    let before = ways_along through q gates in
    ap (λ (w : Ways). count (w i j) e) (along_push through q gates g) ∙
    ap (λ (w : Ways). count (ways_through q before w i j) e) same ∙
    count_through q gate before i j e is (λ k. proper_along through q gates k j) less he

-- what the ways through one gate more at the end of a circuit count
pub count_one_more : (q : ℕ) (c : Circuit) (g : Op) (i j : ℕ) (e : Exponent) → ActsBelow q g → i < 2 ^ q → IsExponent e → count (paths q (c ++ g ∷ []) i j) e ≡ step (as_gate g) (λ k. count (paths q c k j)) i e
unfolding paths
count_one_more q c g i j e acts less he = count-along_push entry q c g (as_gate g) i j e (entry_ways g) (gate_is q g acts) less he

-- the same of a program
count_one_more_in_program : (q : ℕ) (c : ProgramCircuit) (g : Inst) (i j : ℕ) (e : Exponent) → IsProgramGate q g → i < 2 ^ q → IsExponent e → count (program_paths q (c ++ g ∷ []) i j) e ≡ step (as_program_gate g) (λ k. count (program_paths q c k j)) i e
unfolding program_paths
count_one_more_in_program q c g i j e acts less he = count-along_push program_entry q c g (as_program_gate g) i j e (program_entry_ways g) (program_gate_is q g acts) less he
