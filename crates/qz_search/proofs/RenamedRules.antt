-- Rules with their qubits renamed.
use Rattle.std.proofs.Common.{◌≡◌, ℕ, ◌<◌, ◌≤◌, Bool, true, false, List, [], ◌∷◌, length, map, refl, sym, ap, subst, ◌∙◌, arith}
use Rattle.std.specs.List.{AllByRecursion}
use Rattle.std.proofs.lemmas.List.{length-map}
use Rattle.std.proofs.lemmas.Simd.{map-map}
use Rattle.qz_circ.specs.Circuit.{Circuit, IsOn}
use Rattle.qz_circ.specs.ProgramCircuits.{ProgramCircuit, IsProgramGate}
use Rattle.qz_circ.specs.Replacement.{children_by}
use Rattle.qz_rewrite.proofs.Renamed.{renamed_on}
use Rattle.qz_rewrite.proofs.RenamedUsable.{renamed_same}
use Rattle.qz_search.specs.declared.renaming.Renaming.{Renaming}
use Rattle.qz_search.specs.Renamings.{exchanged_where, gate_by, circuit_by}

map_itself : {A : Type 0} (xs : List A) → map (λ x. x) xs ≡ xs
map_itself [] = refl
map_itself (x ∷ xs) = ap (λ ys. x ∷ ys) (map_itself xs)

where_on : (said : Bool) (s : ℕ) (c : Circuit) → s < 2 → IsOn 3 3 c → IsOn 3 3 (map (exchanged_where said s) c)
where_on true s c few on = renamed_on s c few on
where_on false s c few on = subst (IsOn 3 3) (sym (map_itself c)) on

where_same : (said : Bool) (s : ℕ) (left right : Circuit) (c : ProgramCircuit) → s < 2 → IsOn 3 3 left → IsOn 3 3 right → AllByRecursion (IsProgramGate 64) c → children_by (map (exchanged_where said s) left) (map (exchanged_where said s) right) c ≡ children_by left right c
where_same true s left right c few on_left on_right lawful = renamed_same s left right c few on_left on_right lawful
where_same false s left right c few on_left on_right lawful = λ i. children_by (map_itself left i) (map_itself right i) c

module _ (r : Renaming) where
  one : Circuit → Circuit
  one c = map (exchanged_where r.first 0) c

  two : Circuit → Circuit
  unfolding one
  two c = map (exchanged_where r.last 1) (one c)

  in_steps : (c : Circuit) → circuit_by r c ≡ map (exchanged_where r.again 0) (two c)
  unfolding one two
  in_steps c =
      sym (ap (map (exchanged_where r.again 0)) (map-map (exchanged_where r.last 1) (exchanged_where r.first 0) c) ∙ map-map (exchanged_where r.again 0) (λ g. exchanged_where r.last 1 (exchanged_where r.first 0 g)) c)

  two_on : (c : Circuit) → IsOn 3 3 c → IsOn 3 3 (one c) × IsOn 3 3 (two c)
  unfolding one two
  two_on c on =
      let first = where_on r.first 0 c (omega arith) on in (first, where_on r.last 1 (map (exchanged_where r.first 0) c) (omega arith) first)

  pub named_on : (c : Circuit) → IsOn 3 3 c → IsOn 3 3 (circuit_by r c)
  named_on c on = subst (IsOn 3 3) (sym (in_steps c)) (where_on r.again 0 (two c) (omega arith) (two_on c on).1)

  pub named_short : (c : Circuit) → length c ≤ 6 → length (circuit_by r c) ≤ 6
  named_short c short = omega (arith, length-map c (gate_by r))

  pub named_same : (left right : Circuit) (c : ProgramCircuit) → IsOn 3 3 left → IsOn 3 3 right → AllByRecursion (IsProgramGate 64) c → children_by (circuit_by r left) (circuit_by r right) c ≡ children_by left right c
  unfolding one two
  named_same left right c on_left on_right lawful =
      (λ i. children_by (in_steps left i) (in_steps right i) c)
      ∙ where_same r.again 0 (two left) (two right) c (omega arith) (two_on left on_left).1 (two_on right on_right).1 lawful
      ∙ where_same r.last 1 (one left) (one right) c (omega arith) (two_on left on_left).0 (two_on right on_right).0 lawful
      ∙ where_same r.first 0 left right c (omega arith) on_left on_right lawful
