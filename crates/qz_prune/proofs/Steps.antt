-- Pair by pair: what is kept, what is dropped, and what is left in the end.
use Rattle.std.proofs.Common.{◌≡◌, ℕ, zero, suc, ◌+◌, ◌<◌, ◌≤◌, length, get_or, take, arith, Bool, true, false, List, [], ◌∷◌, ◌++◌, map, ◌⊎◌, inl, inr, refl, sym, ap, subst, ◌∙◌, append_assoc, true≢false}
use Rattle.std.specs.Prelude.{◌↔◌, Contains, slice_get, Some, Result, Ok, Err, OnOk}
use Rattle.std.specs.Result.{is_err}
use Rattle.std.specs.List.Sorted.{IsStrictlyIncreasing}
use Rattle.std.proofs.lemmas.List.{append-nil, map-append, take_more}
use Rattle.std.proofs.lemmas.List.Concat.{flat_map-append}
use Rattle.std.proofs.lemmas.List.Kept.{AllPairs-from_increasing}
use Rattle.std.proofs.lemmas.Option.{slice_get_within, get_or_from_slice_get}
use Rattle.std.proofs.lemmas.List.Elements.{All-from_recursion, Contains-append_cases, Contains-append_right}
use Rattle.qz_circ.specs.Circuit.{Circuit, Limits}
use Rattle.qz_circ.specs.ClassLists.{AreRanks}
use Rattle.qz_circ.specs.Order.{circuit_at, all_circuits}
use Rattle.qz_circ.specs.Pairs.{Pair, class_pairs, pairs_of}
use Rattle.qz_circ.specs.Pruned.{IsGiven, Prunes, IsPruned, pair_list}
use Rattle.qz_circ.specs.Relabellings.{renamed, IsRelabelled}
use Rattle.qz_circ.proofs.ClassLaws.{contains_cases, contains_first, contains_none}
use Rattle.qz_prune.specs.declared.relabelling.Relabelling.{Relabelling}
use Rattle.qz_prune.specs.Permutations.{AreRelabellings}
use Rattle.qz_prune.specs.Seen.{Ranks, IsPair, Gains, IsMade, Knows, IsTaken, Progress}
use Rattle.qz_prune.proofs.Covered.{given_more}
use Rattle.qz_prune.proofs.GivenPairs.{ranks_of}

-- the pair of two ranks
abbrev pub pair_of_ranks : ℕ → ℕ → Pair
pair_of_ranks first later = record { first = first; later = later }

module _ (b : Limits) where
  -- a pair that is there
  pub not_taken : (pair : Pair) (seen : Ranks → Bool) → IsPair b pair → seen (ranks_of pair) ≡ true → IsTaken b pair seen seen false
  not_taken pair seen is has kept knows = ((knows.tells pair is).0 has, knows)

  -- a pair that is not there, once what it gives is added
  pub taken : (pair : Pair) (old new : Ranks → Bool) (all : List Relabelling) → IsPair b pair → old (ranks_of pair) ≡ false → AreRelabellings b all →
      Gains b (IsMade b all (circuit_at b pair.first) (circuit_at b pair.later)) old new → IsTaken b pair old new true
  taken pair old new all is none are gains kept knows = (λ given. true≢false (sym ((knows.tells pair is).1 given) ∙ none), record { tells = λ q isq. (to q isq, from q isq) })
    where
      to : (q : Pair) → IsPair b q → new (ranks_of q) ≡ true → IsGiven b (kept ++ pair ∷ []) q
      to q isq has = elim ((gains.tells q isq).0 has) [
        | inl had ↦ given_more b kept (pair ∷ []) q ((knows.tells q isq).0 had)
        | inr made ↦
            let permutes = (are.exactly made.by).0 made.listed in
            record {
              old = pair;
              listed = Contains-append_right kept (pair ∷ []) pair (contains_first pair []);
              relabelled = record { qubits = made.by.qubits; params = made.by.params; permutes_qubits = permutes.0; permutes_params = permutes.1; renames = made.makes };
            }
      ]

      from : (q : Pair) → IsPair b q → IsGiven b (kept ++ pair ∷ []) q → new (ranks_of q) ≡ true
      from q isq given = elim (Contains-append_cases kept (pair ∷ []) given.old given.listed) [
        | inl before ↦ (gains.tells q isq).1 (inl ((knows.tells q isq).1 (record { old = given.old; listed = before; relabelled = given.relabelled })))
        | inr last ↦ elim (contains_cases pair [] given.old last) [
          | inl same ↦ (gains.tells q isq).1 (inr (made q (subst (λ o. IsRelabelled b o (circuit_at b q.first) (circuit_at b q.later)) (sym same) given.relabelled)))
          | inr later ↦ absurd (contains_none given.old later)
        ]
      ]
        where
          made : (q : Pair) → IsRelabelled b pair (circuit_at b q.first) (circuit_at b q.later) → IsMade b all (circuit_at b pair.first) (circuit_at b pair.later) q
          made q h =
              let by : Relabelling = record { qubits = h.qubits; params = h.params } in
              record { by = by; listed = (are.exactly by).1 (h.permutes_qubits, h.permutes_params); makes = h.renames }

  -- nothing is done
  pub started : (seen : Ranks → Bool) → ((q : Ranks) → seen q ≡ false) → Progress b [] [] seen
  started seen none = record {
    kept = [];
    are = refl;
    knows = record { tells = λ pair is. (λ has. absurd (true≢false (sym has ∙ none (ranks_of pair))), λ given. absurd (contains_none given.old given.listed)) };
    so_far = λ pairs rest h. h;
  }

  -- a pair is dropped
  pub drops : (done : List Pair) (lists : List (List ℕ)) (pair : Pair) (old new : Ranks → Bool) → Progress b done lists old → IsTaken b pair old new false → Progress b (done ++ pair ∷ []) lists new
  drops done lists pair old new h is =
      let both = is h.kept h.knows in
      record {
        kept = h.kept;
        are = h.are;
        knows = both.1;
        so_far = λ pairs rest more. subst (λ ps. Prunes b [] ps (h.kept ++ rest)) (sym (append_assoc done (pair ∷ []) pairs)) (h.so_far (pair ∷ pairs) rest (inl (both.0, more)));
      }

  -- a pair is kept
  pub keeps : (done : List Pair) (lists new_lists : List (List ℕ)) (pair : Pair) (old new : Ranks → Bool) → Progress b done lists old → IsTaken b pair old new true → new_lists ≡ lists ++ pair_list pair ∷ [] →
      Progress b (done ++ pair ∷ []) new_lists new
  keeps done lists new_lists pair old new h is longer =
      let both = is h.kept h.knows in
      record {
        kept = h.kept ++ pair ∷ [];
        are = longer ∙ ap (λ ls. ls ++ pair_list pair ∷ []) h.are ∙ sym (map-append pair_list h.kept (pair ∷ []));
        knows = both.1;
        so_far = λ pairs rest more.
            let whole = h.so_far (pair ∷ pairs) (pair ∷ rest) (inr (both.0, (rest, refl, more))) in
            subst (λ ps. Prunes b [] ps ((h.kept ++ pair ∷ []) ++ rest)) (sym (append_assoc done (pair ∷ []) pairs))
            (subst (Prunes b [] (done ++ pair ∷ pairs)) (sym (append_assoc h.kept (pair ∷ []) rest)) whole);
      }

  -- all is done
  pub ended : (classes lists : List (List ℕ)) (seen : Ranks → Bool) → Progress b (pairs_of classes) lists seen → IsPruned b classes lists
  ended classes lists seen h = record {
    left = h.kept;
    prunes = subst (λ ps. Prunes b [] ps h.kept) (append-nil (pairs_of classes)) (subst (Prunes b [] (pairs_of classes ++ [])) (append-nil h.kept) (h.so_far [] [] refl));
    are = h.are;
  }

-- ---- the pairs of a class

module _ (b : Limits) (class : List ℕ) (first : ℕ) (rest : List ℕ) (is : class ≡ first ∷ rest) (ranks : AreRanks b class) where
  -- the rank of a member is below the number of circuits
  first_listed : first < length (all_circuits b)
  first_listed = (subst (AreRanks b) is ranks) 0 0 (omega arith)

  later_listed : (i : ℕ) → i < length rest → get_or rest i 0 < length (all_circuits b)
  later_listed i inside = (subst (AreRanks b) is ranks) (suc i) 0 (omega arith)

  -- the first member with a later one
  pub pair_is : IsStrictlyIncreasing class → (i : ℕ) → i < length rest → IsPair b (pair_of_ranks first (get_or rest i 0))
  pair_is rising i inside =
      let pairs = AllPairs-from_increasing (first ∷ rest) (subst IsStrictlyIncreasing is rising) in
      let below : first < get_or rest i 0 = pairs 0 (suc i) 0 (omega arith) (omega arith) in
      record { ordered = omega arith; listed = later_listed i inside }

  -- both are ranks
  pub pair_ranks : (i : ℕ) → i < length rest → AreRanks b (first ∷ get_or rest i 0 ∷ [])
  pair_ranks i inside = All-from_recursion (λ r. r < length (all_circuits b)) (first ∷ get_or rest i 0 ∷ []) (first_listed, (later_listed i inside, tt))

-- the pairs of one later member more
pub more_pairs : (done : List Pair) (first : ℕ) (rest : List ℕ) (i : ℕ) → i < length rest →
    done ++ map (pair_of_ranks first) (take i rest) ++ pair_of_ranks first (get_or rest i 0) ∷ [] ≡ done ++ map (pair_of_ranks first) (take (i + 1) rest)
more_pairs done first rest i inside =
    let f : ℕ → Pair = pair_of_ranks first in
    append_assoc done (map f (take i rest)) (f (get_or rest i 0) ∷ []) ∙
    ap (λ ps. done ++ ps) (sym (map-append f (take i rest) (get_or rest i 0 ∷ [])) ∙ ap (map f) (sym (take_more rest i 0 inside)))

-- the pairs of one class more
pub more_classes : (classes : List (List ℕ)) (i : ℕ) (class : List ℕ) → slice_get classes i ≡ Some class → pairs_of (take i classes) ++ class_pairs class ≡ pairs_of (take (i + 1) classes)
more_classes classes i class is =
    let here : get_or classes i [] ≡ class = get_or_from_slice_get classes i class [] is in
    let inside = slice_get_within classes i class is in
    ap (λ ps. pairs_of (take i classes) ++ ps) (sym (append-nil (class_pairs class))) ∙ sym (flat_map-append class_pairs (take i classes) (class ∷ [])) ∙
    ap pairs_of (ap (λ x. take i classes ++ x ∷ []) (sym here) ∙ sym (take_more classes i [] inside))

-- an element at a place is one of the list
pub listed_at : (classes : List (List ℕ)) (i : ℕ) (class : List ℕ) → slice_get classes i ≡ Some class → Contains classes class
listed_at classes i class is = (i, slice_get_within classes i class is, get_or_from_slice_get classes i class class is)

-- what a call says where it ended well
pub when_ok : {A B P : Type 0} (result : Result A B) → is_err result ≡ false → OnOk result P → P
when_ok (Ok x) fine h = h
when_ok (Err e) fine h = absurd cc
