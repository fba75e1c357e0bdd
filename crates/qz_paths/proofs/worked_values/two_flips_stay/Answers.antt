use Rattle.std.proofs.Common.{◌≡◌, ℕ, ◌≤◌, List, [], ◌∷◌, length, subst, arith}
use Rattle.std.specs.Prelude.{slice_get, Some}
use Rattle.std.specs.List.{AllByRecursion}
use Rattle.qz_circ.specs.Circuit.{Circuit}
use Rattle.qz_paths.proofs.Chains.{ends_where_it_starts}
use Rattle.qz_paths.proofs.worked_values.two_flips_stay.Goals as goal

-- the first circuit of a chain is no longer than the others may be
first_short : (n : ℕ) (chain : List Circuit) (x : Circuit) → slice_get chain 0 ≡ Some x → AllByRecursion (λ c. length c ≤ n) chain → length x ≤ n
first_short n [] x starts short = cc
first_short n (c ∷ rest) x starts short = let same : c ≡ x = cc in subst (λ y. length y ≤ n) same short.0

pub returns-clause-no_class : goal.returns-clause-no_class
returns-clause-no_class _ h = omega (arith, ends_where_it_starts h.chain _ _ h.starts h.ends h.steps)

pub returns-clause-too_short : goal.returns-clause-too_short
returns-clause-too_short _ h = omega (arith, first_short 2 h.chain _ h.starts h.short)
