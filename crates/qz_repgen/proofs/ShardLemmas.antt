-- Shards that hold together the ranks of which a fact holds, and one rank more.
use Rattle.std.proofs.Common.{◌≡◌, ℕ, ◌<◌, ◌%◌, List, [], ◌∷◌, ◌++◌, length, get_or, set, map, ◌⊎◌, inl, inr, refl, sym, ap, subst, ◌∙◌, arith, mod-lt}
use Rattle.std.specs.Prelude.{Contains, All, ◌↔◌}
use Rattle.std.specs.List.{AllPairs, AllByRecursion}
use Rattle.std.proofs.lemmas.Bool.{cases_eq}
use Rattle.std.proofs.lemmas.List.{get_or-map, get_or_default, length-map, map-set, get_or-set_same, get_or-set_other, length-set}
use Rattle.std.proofs.lemmas.List.FromFn.{get_or-map-range_with_len, length-range_with_len}
use Rattle.std.proofs.lemmas.List.Elements.{Contains-get_or, Contains-append_left, Contains-push, Contains-push_cases, All-from_recursion, recursion_from_All, All-set}
use Rattle.std.proofs.lemmas.List.Quantifiers.{all_pairs_push}
use Rattle.qz_circ.specs.Circuit.{Limits, below}
use Rattle.qz_circ.specs.ClassLists.{AreRanks}
use Rattle.qz_circ.specs.Order.{all_circuits}
use Rattle.qz_finger.specs.Fingerprint.{ProbeParts}
use Rattle.qz_shard.specs.Shards.{ShardParts, home_of, print_at}
use Rattle.qz_repgen.specs.Journals.{AreAtHome}
use Rattle.qz_repgen.specs.Shards.{IsShardOf, AreShards, journals_of, ShardsHold, empty_shard, empty_shards, IsReadyFor, with_entry, AddsTo}
use Rattle.qz_repgen.proofs.JournalClasses.{at_home_same}
use Rattle.qz_circ.proofs.ClassLaws.{contains_none}

-- ---- journals

module _ (home : ℕ → ℕ) (P : ℕ → Type 0) (journals : List (List ℕ)) (at : AreAtHome home P journals) (r h : ℕ) (within : h < 16) (here : home r ≡ h) (none : P r → ⊥) where
  -- the journals with r at the end of its home
  abbrev longer : List (List ℕ)
  longer = set journals h (get_or journals h [] ++ r ∷ [])

  inside : h < length journals
  inside = omega (arith, at.number)

  still_different : AllByRecursion (AllPairs (λ s t. s ≡ t → ⊥)) longer
  still_different =
      let old = All-from_recursion (AllPairs (λ s t. s ≡ t → ⊥)) journals at.different in
      let journal = get_or journals h [] in
      recursion_from_All (AllPairs (λ s t. s ≡ t → ⊥)) longer (All-set (AllPairs (λ s t. s ≡ t → ⊥)) journals h (journal ++ r ∷ [])
      (all_pairs_push (λ s t. s ≡ t → ⊥) journal r (old h [] inside) (λ k d before same.
      none (subst P same ((at.exactly h (get_or journal k d) within).0 (Contains-get_or journal k d before)).0))) old)

  -- they have r too
  at_home_more : AreAtHome home (λ s. P s ⊎ (r ≡ s)) longer
  at_home_more = record {
    number = length-set journals h (get_or journals h [] ++ r ∷ []) ∙ at.number;
    different = still_different;
    exactly = λ k s in_range. elim (cases_eq k h) [
      | inl same ↦
          let now : get_or longer k [] ≡ get_or journals h [] ++ r ∷ [] = ap (λ n. get_or longer n []) same ∙ get_or-set_same journals h (get_or journals h [] ++ r ∷ []) [] inside in (
            λ has. elim (Contains-push_cases (get_or journals h []) r s (subst (λ l. Contains l s) now has)) [
              | inl old ↦ let found = (at.exactly h s within).0 old in (inl found.0, found.1 ∙ sym same)
              | inr is ↦ (inr is, ap home (sym is) ∙ here ∙ sym same)
            ],
            λ fact. subst (λ l. Contains l s) (sym now) (elim fact.0 [
              | inl old ↦ Contains-append_left (get_or journals h []) (r ∷ []) s ((at.exactly h s within).1 (old, fact.1 ∙ same))
              | inr is ↦ subst (Contains (get_or journals h [] ++ r ∷ [])) is (Contains-push (get_or journals h []) r)
            ]),
          )
      | inr other ↦
          let now : get_or longer k [] ≡ get_or journals k [] = get_or-set_other journals h k (get_or journals h [] ++ r ∷ []) [] other in (
            λ has. let found = (at.exactly k s in_range).0 (subst (λ l. Contains l s) now has) in (inl found.0, found.1),
            λ fact. elim fact.0 [
              | inl old ↦ subst (λ l. Contains l s) (sym now) ((at.exactly k s in_range).1 (old, fact.1))
              | inr is ↦ absurd (other (sym fact.1 ∙ ap home (sym is) ∙ here))
            ],
          )
    ];
  }

-- ---- shards

-- the journal of a shard
pub journal_of_shard : (shards : List ShardParts) (k : ℕ) (d : ShardParts) → k < length shards → get_or (journals_of shards) k [] ≡ (get_or shards k d).journal
journal_of_shard shards k d inside = get_or-map (λ (s : ShardParts). s.journal) shards k d [] inside

-- shards that hold the ranks of one fact hold those of another that is the same
pub held_same : (b : Limits) (seed : ℕ) (P Q : ℕ → Type 0) (shards : List ShardParts) → ((r : ℕ) → P r ↔ Q r) → ShardsHold b seed P shards → ShardsHold b seed Q shards
held_same b seed P Q shards same held = record { are = held.are; journals = at_home_same (home_of b seed) P Q (journals_of shards) same held.journals }

module _ (b : Limits) (probe : ProbeParts) (qubits : probe.q ≡ b.q) (n : ℕ) (many : n ≡ 16) where
  -- shards with empty journals
  abbrev empty : List ShardParts
  empty = map (empty_shard b probe) (below n)

  empty_size : length empty ≡ n
  empty_size = length-map (below n) (empty_shard b probe) ∙ length-range_with_len 0 n

  empty_at : (k : ℕ) (d : ShardParts) → k < 16 → get_or empty k d ≡ empty_shard b probe k
  empty_at k d within = get_or-map-range_with_len (empty_shard b probe) 0 n k k d (omega (arith, many)) (omega arith)

  empty_journal : (k : ℕ) → k < 16 → get_or (journals_of empty) k [] ≡ []
  empty_journal k within = journal_of_shard empty k (empty_shard b probe 0) (omega (arith, empty_size, many)) ∙ ap (λ (s : ShardParts). s.journal) (empty_at k (empty_shard b probe 0) within)

  -- they hold nothing
  all_empty_held : ShardsHold b probe.seed (λ r. ⊥) empty
  all_empty_held = record {
    are = record {
      number = empty_size ∙ many;
      each = λ k d within. subst (IsShardOf b probe.seed k) (sym (empty_at k d within)) (record { number = refl; bounds = refl; own_seed = refl; qubits = qubits });
    };
    journals = record {
      number = length-map empty (λ (s : ShardParts). s.journal) ∙ empty_size ∙ many;
      different = recursion_from_All (AllPairs (λ r t. r ≡ t → ⊥)) (journals_of empty) (λ k d inside i j e before within.
          let none : get_or (journals_of empty) k d ≡ [] = get_or_default (journals_of empty) k d [] inside ∙ empty_journal k (omega (arith, length-map empty (λ (s : ShardParts). s.journal), empty_size, many)) in
          absurd (omega (arith, ap length none)));
      exactly = λ k r within. (λ has. absurd (contains_none r (subst (λ l. Contains l r) (empty_journal k within) has)), λ h. absurd h.0);
    };
  }

-- shards with empty journals hold nothing
pub empty_held : (b : Limits) (probe : ProbeParts) → probe.q ≡ b.q → (shards : List ShardParts) → shards ≡ empty_shards b probe 16 → ShardsHold b probe.seed (λ r. ⊥) shards
unfolding empty_shards
empty_held b probe qubits shards is = subst (ShardsHold b probe.seed (λ r. ⊥)) (sym is) (all_empty_held b probe qubits 16 refl)

module _ (b : Limits) (seed : ℕ) (P : ℕ → Type 0) (shards : List ShardParts) (held : ShardsHold b seed P shards) where
  -- all are of these limits
  bounds_of_all : All (λ (s : ShardParts). s.bounds ≡ b) shards
  bounds_of_all k d inside = (held.are.each k d (omega (arith, held.are.number))).bounds

  -- an entry is a rank of which the fact holds
  pub entry_holds : (k : ℕ) (d : ShardParts) (r : ℕ) → k < 16 → Contains (get_or shards k d).journal r → P r
  entry_holds k d r within has = ((held.journals.exactly k r within).0 (subst (λ l. Contains l r) (sym (journal_of_shard shards k d (omega (arith, held.are.number)))) has)).0

  -- entries are ranks, where the fact holds only of such
  pub ranks_of_all : ((r : ℕ) → P r → r < length (all_circuits b)) → All (λ (s : ShardParts). AreRanks b s.journal) shards
  ranks_of_all listed k d inside i e within =
      listed (get_or (get_or shards k d).journal i e) (entry_holds k d (get_or (get_or shards k d).journal i e) (omega (arith, held.are.number)) (Contains-get_or (get_or shards k d).journal i e within))

  module _ (r print : ℕ) (is : print ≡ print_at b seed r) (none : P r → ⊥) where
    -- a rank that they don't hold may be added
    pub ready : r < length (all_circuits b) → (k : ℕ) (d : ShardParts) → k < 16 → IsReadyFor r print k (get_or shards k d)
    ready listed k d within =
        let own = held.are.each k d within in
        record {
          number = own.number;
          listed = subst (λ x. r < length (all_circuits x)) (sym own.bounds) listed;
          new = λ has. none (entry_holds k d r within has);
          own_print = is ∙ (λ i. print_at (sym own.bounds i) (sym own.own_seed i) r);
        }

    abbrev home : ℕ
    home = print % 16

    -- what a list without this place would give there
    abbrev any : ShardParts
    any = record { number = 0; bounds = b; probe = record { seed = seed; q = 0 }; journal = [] }

    -- the shards with r
    abbrev with_r : List ShardParts
    with_r = set shards home (with_entry (get_or shards home any) r)

    home_below : home < 16
    home_below = mod-lt print (omega arith)

    home_inside : home < length shards
    home_inside = omega (arith, held.are.number, home_below)

    journals_with_r : journals_of with_r ≡ set (journals_of shards) home (get_or (journals_of shards) home [] ++ r ∷ [])
    journals_with_r =
        map-set (λ (s : ShardParts). s.journal) shards home (with_entry (get_or shards home any) r) ∙
        ap (λ l. set (journals_of shards) home (l ++ r ∷ [])) (sym (journal_of_shard shards home any home_inside))

    are_with_r : AreShards b seed with_r
    are_with_r = record {
      number = length-set shards home (with_entry (get_or shards home any) r) ∙ held.are.number;
      each = λ k d within. elim (cases_eq k home) [
        | inl same ↦ subst (IsShardOf b seed k) (sym (ap (λ n. get_or with_r n d) same ∙ get_or-set_same shards home (with_entry (get_or shards home any) r) d home_inside))
            (let own = held.are.each home any home_below in record { number = own.number ∙ sym same; bounds = own.bounds; own_seed = own.own_seed; qubits = own.qubits })
        | inr other ↦ subst (IsShardOf b seed k) (sym (get_or-set_other shards home k (with_entry (get_or shards home any) r) d other)) (held.are.each k d within)
      ];
    }

    -- and then they hold it too
    pub held_more : (new : List ShardParts) → AddsTo (print % 16) r shards new → ShardsHold b seed (λ s. P s ⊎ (r ≡ s)) new
    held_more new adds = subst (ShardsHold b seed (λ s. P s ⊎ (r ≡ s))) (sym (adds any)) (record {
      are = are_with_r;
      journals = subst (AreAtHome (home_of b seed) (λ s. P s ⊎ (r ≡ s))) (sym journals_with_r)
          (at_home_more (home_of b seed) P (journals_of shards) held.journals r home home_below (ap (λ p. p % 16) (sym is)) none);
    })
