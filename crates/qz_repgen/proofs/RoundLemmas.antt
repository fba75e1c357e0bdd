-- The kept circuits of one gate more, as they are taken in; and how many representatives there are.
use Rattle.std.proofs.Common.{◌≡◌, ℕ, ◌+◌, ◌<◌, ◌≤◌, List, [], ◌∷◌, ◌++◌, length, get_or, take, ◌⊎◌, inl, inr, sym, ap, subst, ◌∙◌, arith, length-append}
use Rattle.std.specs.Prelude.{Contains}
use Rattle.std.proofs.lemmas.Bool.{cases_lt}
use Rattle.std.proofs.lemmas.List.{take_more, take_all}
use Rattle.std.proofs.lemmas.List.Elements.{Contains-get_or, Contains-append_left, Contains-append_right, Contains-append_cases, Contains-push, Contains-push_cases}
use Rattle.std.proofs.lemmas.List.Kept.{AllPairs-from_increasing}
use Rattle.qz_circ.specs.Bounds.{IsLawful}
use Rattle.qz_circ.specs.Circuit.{Limits}
use Rattle.std.specs.List.{AllZip}
use Rattle.qz_circ.specs.Classes.{ListsExactly, IsRepresentativeRank, IsClassList}
use Rattle.qz_circ.specs.Order.{all_circuits, circuit_at}
use Rattle.qz_circ.proofs.RankLemmas.{all_few}
use Rattle.qz_shard.specs.Journals.{AreClassesOf}
use Rattle.qz_shard.specs.Shards.{ShardParts}
use Rattle.qz_shard.proofs.Partitions.{rising_short}
use Rattle.qz_repgen.specs.Journals.{IsKeptRank, AreTogether}
use Rattle.qz_repgen.specs.Numbers.{IsNumberOf}
use Rattle.qz_repgen.specs.Reports.{IsExtended}
use Rattle.qz_repgen.specs.Rounds.{IsRepresentativeOf, IsKeptOf, IsKeptUpTo}
use Rattle.qz_repgen.specs.Candidate.{AreOfOneLength, IsCandidate}
use Rattle.qz_repgen.specs.Listing.{ListsFirsts}
use Rattle.qz_repgen.specs.Shards.{journals_of, ShardsHold}
use Rattle.qz_repgen.proofs.FirstLemmas.{representatives_listed}
use Rattle.qz_repgen.proofs.JournalClasses.{class_list}
use Rattle.qz_repgen.proofs.LowerLaws.{ranks_are_order}
use Rattle.qz_repgen.proofs.RankLaws.{representative_below}
use Rattle.qz_repgen.proofs.RisingRuns.{rises-append, increasing_from_rises, taken_below}
use Rattle.qz_repgen.proofs.RoundSteps.{longer_later, of_one_length, candidates_are_kept, kept_up_to_next, kept_up_to_more, kept_of_next}
use Rattle.qz_repgen.proofs.ShardLemmas.{held_same}
use Rattle.qz_circ.proofs.ClassLaws.{contains_none}

module _ (b : Limits) (lawful : IsLawful b) (seed k : ℕ) (left : List ℕ) (kept : ListsExactly (IsKeptOf b (k + 1)) left) where
  -- the kept circuits of at most k gates, and the first i of those that are left
  abbrev pub IsTaken : ℕ → ℕ → Type 0
  IsTaken i r = IsKeptUpTo b k r ⊎ Contains (take i left) r

  -- none is taken
  pub taken_none : (shards : List ShardParts) → ShardsHold b seed (IsKeptUpTo b k) shards → ShardsHold b seed (IsTaken 0) shards
  taken_none shards = held_same b seed (IsKeptUpTo b k) (IsTaken 0) shards (λ r. (λ h. inl h, λ h. elim h [ inl old ↦ old | inr has ↦ absurd (contains_none r has) ]))

  -- all are taken
  pub taken_all : (i : ℕ) (shards : List ShardParts) → length left ≤ i → ShardsHold b seed (IsTaken i) shards → ShardsHold b seed (IsKeptUpTo b (k + 1)) shards
  taken_all i shards end =
      let whole : take i left ≡ left = take_all i left end in
      held_same b seed (IsTaken i) (IsKeptUpTo b (k + 1)) shards (λ r. (
        λ h. elim h [
          | inl old ↦ kept_up_to_more b lawful k r old
          | inr has ↦ kept_of_next b lawful k r ((kept.exactly r).0 (subst (λ l. Contains l r) whole has))
        ],
        λ h. elim (kept_up_to_next b lawful k r h) [
          | inl old ↦ inl old
          | inr next ↦ inr (subst (λ l. Contains l r) (sym whole) ((kept.exactly r).1 next))
        ],
      ))

  module _ (i : ℕ) (inside : i < length left) where
    -- the next one
    abbrev next : ℕ
    next = get_or left i 0

    pub next_is : IsKeptOf b (k + 1) next
    next_is = (kept.exactly next).0 (Contains-get_or left i 0 inside)

    -- is not taken
    pub next_new : IsTaken i next → ⊥
    next_new (inl old) = omega (arith, old.short, next_is.long)
    next_new (inr has) = let below = taken_below left i 0 (AllPairs-from_increasing left kept.rising) inside next has in omega arith

    -- with it one more is taken
    pub taken_more : (shards : List ShardParts) → ShardsHold b seed (λ s. IsTaken i s ⊎ (next ≡ s)) shards → ShardsHold b seed (IsTaken (i + 1)) shards
    taken_more shards =
        let more : take (i + 1) left ≡ take i left ++ next ∷ [] = take_more left i 0 inside in
        held_same b seed (λ s. IsTaken i s ⊎ (next ≡ s)) (IsTaken (i + 1)) shards (λ s. (
          λ h. elim h [
            | inl old ↦ elim old [
              | inl before ↦ inl before
              | inr has ↦ inr (subst (λ l. Contains l s) (sym more) (Contains-append_left (take i left) (next ∷ []) s has))
            ]
            | inr is ↦ inr (subst (λ l. Contains l s) (sym more) (subst (Contains (take i left ++ next ∷ [])) is (Contains-push (take i left) next)))
          ],
          λ h. elim h [
            | inl before ↦ inl (inl before)
            | inr has ↦ elim (Contains-push_cases (take i left) next s (subst (λ l. Contains l s) more has)) [
              | inl old ↦ inl (inr old)
              | inr is ↦ inr is
            ]
          ],
        ))

-- ---- numbers

-- r is the rank of a representative of fewer than k gates
pub record IsShorter (b : Limits) (k r : ℕ) : Type 0 where
  pub representative : IsRepresentativeRank b r
  pub short : length (circuit_at b r) < k

module _ (b : Limits) (lawful : IsLawful b) where
  -- there are no more ranks than nine million
  pub few_ranks : (P : ℕ → Type 0) (n : ℕ) → ((r : ℕ) → P r → r < length (all_circuits b)) → IsNumberOf P n → n ≤ 9000000
  few_ranks P n listed is =
      let short = rising_short is.numbers (length (all_circuits b)) is.exactly.rising (λ r has. listed r ((is.exactly.exactly r).0 has)) in
      omega (arith, is.all_of_them, short, all_few b lawful)

  -- none has fewer than no gate
  pub none_shorter : IsNumberOf (IsShorter b 0) 0
  none_shorter = record {
    numbers = [];
    exactly = record { rising = λ k inside. absurd (omega arith); exactly = λ r. (λ has. absurd (contains_none r has), λ h. absurd (omega (arith, h.short))) };
    all_of_them = omega arith;
  }

  -- with those of k gates, those of fewer than k + 1
  pub number_shorter : (k n m : ℕ) → IsNumberOf (IsShorter b k) n → IsNumberOf (IsRepresentativeOf b k) m → IsNumberOf (IsShorter b (k + 1)) (n + m)
  number_shorter k n m first second = record {
    numbers = first.numbers ++ second.numbers;
    exactly = record {
      rising = increasing_from_rises (first.numbers ++ second.numbers) (rises-append first.numbers second.numbers (AllPairs-from_increasing first.numbers first.exactly.rising) (AllPairs-from_increasing second.numbers second.exactly.rising) (λ s t has_s has_t.
          let lower = (first.exactly.exactly s).0 has_s in
          let upper = (second.exactly.exactly t).0 has_t in
          elim (cases_lt s t) [
            | inl before ↦ before
            | inr after ↦ absurd (omega (arith, longer_later b lawful t s after (representative_below b (ranks_are_order b lawful) s lower.representative), lower.short, upper.long))
          ]));
      exactly = λ r. (
        λ has. elim (Contains-append_cases first.numbers second.numbers r has) [
          | inl left ↦ let h = (first.exactly.exactly r).0 left in record { representative = h.representative; short = omega (arith, h.short) }
          | inr right ↦ let h = (second.exactly.exactly r).0 right in record { representative = h.representative; short = omega (arith, h.long) }
        ],
        λ h. elim (cases_lt (length (circuit_at b r)) k) [
          | inl short ↦ Contains-append_left first.numbers second.numbers r ((first.exactly.exactly r).1 (record { representative = h.representative; short = short }))
          | inr long ↦ Contains-append_right first.numbers second.numbers r ((second.exactly.exactly r).1 (record { representative = h.representative; long = omega (arith, h.short) }))
        ],
      );
    };
    all_of_them = omega (arith, first.all_of_them, second.all_of_them, length-append first.numbers second.numbers);
  }

  pub few_shorter : (k n : ℕ) → IsNumberOf (IsShorter b k) n → n ≤ 9000000
  few_shorter k n is = few_ranks (IsShorter b k) n (λ r h. representative_below b (ranks_are_order b lawful) r h.representative) is

  -- after the last round
  pub number_extended : (n : ℕ) → IsNumberOf (IsShorter b b.n) n → IsNumberOf (IsExtended b) n
  number_extended n is = record {
    numbers = is.numbers;
    exactly = record {
      rising = is.exactly.rising;
      exactly = λ r. (
        λ has. let h = (is.exactly.exactly r).0 has in record { representative = h.representative; short = h.short },
        λ h. (is.exactly.exactly r).1 (record { representative = h.representative; short = h.short }),
      );
    };
    all_of_them = is.all_of_them;
  }

  pub all_kept : (seed : ℕ) (shards : List ShardParts) → ShardsHold b seed (IsKeptUpTo b b.n) shards → ShardsHold b seed (IsKeptRank b) shards
  all_kept seed shards = held_same b seed (IsKeptUpTo b b.n) (IsKeptRank b) shards (λ r. (λ h. record { listed = h.listed; kept = h.kept }, λ h. record { listed = h.listed; kept = h.kept; short = h.kept.within.short }))

-- ---- what a round goes over

module _ (b : Limits) (lawful : IsLawful b) (seed k : ℕ) (shards : List ShardParts) (held : ShardsHold b seed (IsKeptUpTo b k) shards)
    (parts : List ℕ) (firsts : ListsFirsts b k (journals_of shards) parts) (seen : List ℕ) (seen_is : seen ≡ parts) where
  -- the representatives of k gates
  pub parts_listed : ListsExactly (IsRepresentativeOf b k) seen
  parts_listed = subst (ListsExactly (IsRepresentativeOf b k)) (sym seen_is) (representatives_listed b lawful seed k (journals_of shards) held.journals parts firsts)

  pub parts_of_one_length : k < b.n → AreOfOneLength b seen
  parts_of_one_length = of_one_length b lawful k seen parts_listed

  pub parts_number : (n : ℕ) → n ≡ length parts → IsNumberOf (IsRepresentativeOf b k) n
  parts_number n is = record { numbers = seen; exactly = parts_listed; all_of_them = is ∙ ap length (sym seen_is) }

  -- their candidates are the kept circuits of one gate more
  pub left_listed : (left : List ℕ) → ListsExactly (IsCandidate b seen) left → ListsExactly (IsKeptOf b (k + 1)) left
  left_listed = candidates_are_kept b lawful k seen parts_listed

-- the classes of shards that hold the kept circuits are the class list, in the order of their first members
pub listed_class_list : (b : Limits) → IsLawful b → (seed : ℕ) (shards : List ShardParts) → ShardsHold b seed (IsKeptRank b) shards → (lists : List (List ℕ)) →
    ((all : List (List (List ℕ))) × AllZip (AreClassesOf b) (journals_of shards) all × AreTogether all lists) → IsClassList b lists
listed_class_list b lawful seed shards held lists (all, are, together) = class_list b lawful seed (journals_of shards) held.journals all are lists together
