-- The first members of all journals' classes are the representatives.
use Rattle.std.proofs.Common.{◌≡◌, ◌≢◌, ℕ, ◌+◌, ◌<◌, Bool, List, [], length, get_or, map, sym, ap, subst, ◌∙◌, arith}
use Rattle.std.specs.Prelude.{Contains, ◌==◌, ◌↔◌}
use Rattle.std.specs.List.{AllPairs, AllZip, flat_map}
use Rattle.std.specs.List.Sorted.{IsPermutation, IsNonDecreasing}
use Rattle.std.proofs.lemmas.Bool.Decides.{Decides-eqb}
use Rattle.std.proofs.lemmas.List.{get_or_default, get_or-map, length-map}
use Rattle.std.proofs.lemmas.List.Kept.{AllPairs-filter}
use Rattle.std.proofs.lemmas.List.Sorted.{Contains-permutation, IsPermutation-sym}
use Rattle.qz_circ.specs.Bounds.{IsLawful}
use Rattle.qz_circ.specs.Circuit.{Limits}
use Rattle.qz_circ.specs.Classes.{ListsExactly, IsRepresentativeRank}
use Rattle.qz_circ.specs.Order.{circuit_at}
use Rattle.qz_circ.proofs.CircuitPlaces.{Contains-map}
use Rattle.qz_circ.proofs.ClassLaws.{Rises}
use Rattle.qz_paths.proofs.ClassesFound.{Contains-filter}
use Rattle.qz_shard.specs.Journals.{AreClassesOf}
use Rattle.qz_shard.specs.Shards.{home_of}
use Rattle.qz_repgen.specs.Journals.{AreAtHome}
use Rattle.qz_repgen.specs.Listing.{firsts_of_length, ListsFirsts}
use Rattle.qz_repgen.specs.Rounds.{IsRepresentativeOf, IsKeptUpTo}
use Rattle.qz_repgen.proofs.JournalClasses.{first_of, as_many, class_in, in_class, classes_of_one, class_home, first_is_representative, representative_is_first, different_permuted}
use Rattle.qz_repgen.proofs.RisingRuns.{Contains-from_map, increasing_from_rises}
use Rattle.qz_repgen.proofs.SortedLists.{pairs-flat_map, Contains-flat_map, Contains-from_flat_map, Contains-from_filter}

-- numbers in order, with different ones, rise
rises_of_different : (xs : List ℕ) → IsNonDecreasing xs → AllPairs (λ r t. r ≢ t) xs → Rises xs
rises_of_different xs order different i j d before inside = omega (arith, order i j d (omega arith) inside, different i j d before inside)

module _ (b : Limits) (lawful : IsLawful b) (seed k : ℕ) (journals : List (List ℕ)) (hold : AreAtHome (home_of b seed) (IsKeptUpTo b k) journals)
    (all : List (List (List ℕ))) (are : AllZip (AreClassesOf b) journals all) where
  abbrev has_length : ℕ → Bool
  has_length r = length (circuit_at b r) == k

  number : (j : ℕ) → j < length all → j < 16
  number j within = omega (arith, as_many b lawful seed k journals hold all are)

  -- those of one journal are different
  of_one : (j : ℕ) (d : List (List ℕ)) → j < length all → AllPairs (λ r t. r ≢ t) (firsts_of_length b k (get_or all j d))
  of_one j d within =
      subst (λ classes. AllPairs (λ r t. r ≢ t) (firsts_of_length b k classes)) (get_or_default all j [] d within)
      (AllPairs-filter (λ r t. r ≢ t) has_length (map first_of (get_or all j [])) (λ m n e before inside same.
      let classes = get_or all j [] in
      let size = length-map classes first_of in
      classes_of_one b lawful seed k journals hold all are j (number j within) m n [] before (omega arith)
      (sym (get_or-map first_of classes m [] e (omega arith)) ∙ same ∙ get_or-map first_of classes n [] e (omega arith))))

  -- and at home there
  home_of_one : (j : ℕ) (d : List (List ℕ)) (r : ℕ) → j < length all → Contains (firsts_of_length b k (get_or all j d)) r → home_of b seed r ≡ 0 + j
  home_of_one j d r within has =
      let passed = Contains-from_filter has_length (map first_of (get_or all j [])) r (subst (λ classes. Contains (firsts_of_length b k classes) r) (get_or_default all j d [] within) has) in
      let source = Contains-from_map first_of (get_or all j []) r passed.0 in
      omega (arith, ap (home_of b seed) source.2, class_home b lawful seed k journals hold all are j source.0 (number j within) source.1)

  firsts_different : AllPairs (λ r t. r ≢ t) (flat_map (firsts_of_length b k) all)
  firsts_different = pairs-flat_map (λ r t. r ≢ t) (firsts_of_length b k) (home_of b seed) (λ r t less is. omega (arith, less, ap (home_of b seed) is)) all 0 of_one home_of_one

  -- they are the representatives of k gates
  first_told : (r : ℕ) → Contains (flat_map (firsts_of_length b k) all) r ↔ IsRepresentativeOf b k r
  first_told r = (
    λ has.
        let source = Contains-from_flat_map (firsts_of_length b k) all r has in
        let passed = Contains-from_filter has_length (map first_of source.0) r source.2 in
        let list = Contains-from_map first_of source.0 r passed.0 in
        let at = class_in b lawful seed k journals hold all are list.0 (Contains-flat_map (λ (lists : List (List ℕ)). lists) all source.0 list.0 source.1 list.1) in
        record {
          representative = subst (IsRepresentativeRank b) list.2 (first_is_representative b lawful seed k journals hold all are list.0 at);
          long = (Decides-eqb (length (circuit_at b r)) k).0 passed.1;
        },
    λ h.
        let found = representative_is_first b lawful seed k journals hold all are r h.representative (omega (arith, h.long)) in
        let source = Contains-from_flat_map (λ (lists : List (List ℕ)). lists) all found.0 (in_class b lawful seed k journals hold all are found.0 found.1) in
        let has = subst (Contains (map first_of source.0)) found.2 (Contains-map first_of source.0 found.0 source.2) in
        Contains-flat_map (firsts_of_length b k) all source.0 r source.1 (Contains-filter has_length (map first_of source.0) r has ((Decides-eqb (length (circuit_at b r)) k).1 h.long)),
  )

  firsts_exactly : (found : List ℕ) → IsPermutation (flat_map (firsts_of_length b k) all) found → IsNonDecreasing found → ListsExactly (IsRepresentativeOf b k) found
  firsts_exactly found moved order = record {
    rising = increasing_from_rises found (rises_of_different found order (different_permuted (flat_map (firsts_of_length b k) all) found moved firsts_different));
    exactly = λ r. (
      λ has. (first_told r).0 (Contains-permutation found (flat_map (firsts_of_length b k) all) r (IsPermutation-sym (flat_map (firsts_of_length b k) all) found moved) has),
      λ h. Contains-permutation (flat_map (firsts_of_length b k) all) found r moved ((first_told r).1 h),
    );
  }

-- so a list of them has exactly the representatives of k gates
pub representatives_listed : (b : Limits) → IsLawful b → (seed k : ℕ) (journals : List (List ℕ)) → AreAtHome (home_of b seed) (IsKeptUpTo b k) journals → (found : List ℕ) → ListsFirsts b k journals found → ListsExactly (IsRepresentativeOf b k) found
representatives_listed b lawful seed k journals hold found h = firsts_exactly b lawful seed k journals hold h.all h.are found h.those h.in_order
