-- What instances cost, gate by gate.
use Rattle.std.proofs.Common.{◌≡◌, ℕ, ◌+◌, ◌<◌, List, [], length, take, get_or, sym, ap, ◌∙◌, arith}
use Rattle.std.specs.List.{flat_map}
use Rattle.std.proofs.lemmas.List.{take_more, flat_map_more}
use Rattle.qz_circ.specs.ProgramCircuits.{ProgramCircuit, cost}
use Rattle.qz_circ.proofs.ProgramOrder.{cost-append}

-- what some give, and one more
pub cost_one_more : {A : Type 0} (ws : List ℕ) (f : A → ProgramCircuit) (xs : List A) (i n m : ℕ) (x : A) → i < length xs → n ≡ cost ws (flat_map f (take i xs)) → m ≡ cost ws (f (get_or xs i x)) → n + m ≡ cost ws (flat_map f (take (i + 1) xs))
cost_one_more ws f xs i n m x l is one =
    let more : cost ws (flat_map f (take (i + 1) xs)) ≡ cost ws (flat_map f (take i xs)) + cost ws (f (get_or xs i x)) =
    ap (λ ys. cost ws (flat_map f ys)) (take_more xs i x l) ∙ ap (cost ws) (sym (flat_map_more f [] (take i xs) (get_or xs i x))) ∙ cost-append ws (flat_map f (take i xs)) (f (get_or xs i x)) in
    omega (arith, more, is, one)
