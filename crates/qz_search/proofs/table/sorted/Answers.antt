use Rattle.std.proofs.Common.{sym, subst, Contains}
use Rattle.std.proofs.lemmas.List.Filters.{dedup_is}
use Rattle.std.proofs.lemmas.List.Kept.{Contains-dedup_nat, Contains-from_dedup}
use Rattle.std.proofs.lemmas.List.Sorted.{Contains-permutation, IsPermutation-sym}
use lib.Dec.{eqb}
use Rattle.qz_search.proofs.table.sorted.Goals as goal

pub returns : goal.returns
returns c = λ k.
    let once = dedup_is eqb c.sort_unstable.new.self.items c.dedup.new.self.items c.dedup.ensures.filtered in
    let moved = c.sort_unstable.ensures.permutation in (
      λ h. Contains-permutation c.sort_unstable.new.self.items c.args.rights.items k (IsPermutation-sym c.args.rights.items c.sort_unstable.new.self.items moved) (Contains-from_dedup eqb c.sort_unstable.new.self.items k (subst (λ ks. Contains ks k) once h)),
      λ h. subst (λ ks. Contains ks k) (sym once) (Contains-dedup_nat c.sort_unstable.new.self.items k (Contains-permutation c.args.rights.items c.sort_unstable.new.self.items k moved h)),
    )
