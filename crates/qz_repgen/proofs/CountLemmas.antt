-- How many circuits and fingerprints there are in all shards, and circuits in a class list.
use Rattle.std.proofs.Common.{◌≡◌, ◌≢◌, ℕ, zero, suc, ◌+◌, ◌-◌, ◌*◌, ◌/◌, ◌%◌, ◌<◌, ◌≤◌, Bool, true, false, cond, List, [], ◌∷◌, length, get_or, map, inl, inr, refl, sym, ap, subst, ◌∙◌, arith, eq-eqb, mod-lt}
use Rattle.std.specs.Prelude.{All, Contains, sum_by, nat_eq, nat_lt, filter}
use Rattle.std.specs.Cmp.{nat_cmp_total}
use Rattle.std.specs.FinSet.{contains, len, from_list, contains-from_list_nat, len-empty, len-insert, same_set, nat_cmp-IsAntisymmetric}
use Rattle.std.specs.List.{AllPairs, flat_map}
use Rattle.std.specs.Ordering.{nat_cmp}
use Rattle.std.proofs.Math.Nat.{mul-le-mul_right}
use Rattle.std.proofs.lemmas.Bool.Decides.{eqb_tells}
use Rattle.std.proofs.lemmas.List.{length-map}
use Rattle.std.proofs.lemmas.List.Concat.{length-flat_map}
use Rattle.std.proofs.lemmas.List.Elements.{All-filter, All-from_recursion, Contains-get_or}
use Rattle.std.proofs.lemmas.List.Folds.{list_any_at, list_any_none}
use Rattle.std.proofs.lemmas.List.Sums.{sum_by-le}
use Rattle.qz_circ.specs.Bounds.{IsLawful, gate_count}
use Rattle.qz_circ.specs.Circuit.{Limits}
use Rattle.qz_circ.specs.Classes.{ListsExactly, IsMemberRank, IsClassList}
use Rattle.qz_circ.specs.Order.{all_circuits}
use Rattle.qz_circ.proofs.CircuitPlaces.{Contains-map}
use Rattle.qz_circ.proofs.ClassLaws.{Rises, rises_tail, first_below}
use Rattle.qz_circ.proofs.RankLemmas.{all_few}
use Rattle.qz_shard.specs.Shards.{ShardParts, different_prints, print_at, home_of}
use Rattle.qz_shard.proofs.Partitions.{rising_short}
use Rattle.qz_shard.proofs.Zipped.{contains_or_not, zip_length, zip_at}
use Rattle.qz_repgen.specs.Journals.{IsKeptRank}
use Rattle.qz_repgen.specs.Numbers.{IsNumberOf}
use Rattle.qz_repgen.specs.Reports.{IsPrint}
use Rattle.qz_repgen.specs.Shards.{journals_of, ShardsHold}
use Rattle.qz_repgen.proofs.LowerLaws.{ranks_are_order}
use Rattle.qz_repgen.proofs.RankLaws.{representative_below, member_below}
use Rattle.qz_repgen.proofs.RisingRuns.{Contains-from_map, increasing_from_rises}
use Rattle.qz_repgen.proofs.ShardLemmas.{journal_of_shard}
use Rattle.qz_repgen.proofs.SortedLists.{sorted, number_of_different, pairs-flat_map, Contains-flat_map, Contains-from_flat_map}

-- ---- sets of numbers

-- a set has no more than the numbers that it was made of
pub few_different : (ks : List ℕ) → len (from_list {R = nat_cmp} ks) ≤ length ks
few_different [] = omega (arith, len-empty nat_cmp)
few_different (k ∷ ks) = by (contains (from_list {R = nat_cmp} ks) k) (len-insert nat_cmp_total (from_list {R = nat_cmp} ks) k) (few_different ks)
  where
    by : (t : Bool) → len (from_list {R = nat_cmp} (k ∷ ks)) ≡ cond t (len (from_list {R = nat_cmp} ks)) (len (from_list {R = nat_cmp} ks) + 1) → len (from_list {R = nat_cmp} ks) ≤ length ks → len (from_list {R = nat_cmp} (k ∷ ks)) ≤ suc (length ks)
    by true is rest = omega (arith, is, rest)
    by false is rest = omega (arith, is, rest)

-- the set has the numbers of the list
in_set : (ks : List ℕ) (q : ℕ) → Contains ks q → contains (from_list {R = nat_cmp} ks) q ≡ true
in_set ks q (k, inside, is) = contains-from_list_nat ks q ∙ list_any_at (λ y. nat_eq y q) ks k q inside (eq-eqb (get_or ks k q) q is)

not_in_set : (ks : List ℕ) (q : ℕ) → (Contains ks q → ⊥) → contains (from_list {R = nat_cmp} ks) q ≡ false
not_in_set ks q none =
    contains-from_list_nat ks q ∙
    list_any_none (λ y. nat_eq y q) ks (λ k d within. elim (eqb_tells (get_or ks k d) q) [
      | inl same ↦ absurd (none (subst (Contains ks) same.1 (Contains-get_or ks k d within)))
      | inr apart ↦ apart.0
    ])

-- rising numbers are as many as their set has
len_rising : (zs : List ℕ) → Rises zs → len (from_list {R = nat_cmp} zs) ≡ length zs
len_rising [] rises = len-empty nat_cmp
len_rising (z ∷ zs) rises =
    let new = not_in_set zs z (λ has. let later = first_below z zs rises z has in omega arith) in
    let more : len (from_list {R = nat_cmp} (z ∷ zs)) ≡ len (from_list {R = nat_cmp} zs) + 1 = len-insert nat_cmp_total (from_list {R = nat_cmp} zs) z ∙ ap (λ t. cond t (len (from_list {R = nat_cmp} zs)) (len (from_list {R = nat_cmp} zs) + 1)) new in
    omega (arith, more, len_rising zs (rises_tail z zs rises))

-- the same numbers in order are as many as the set has
len_sorted : (ks : List ℕ) → len (from_list {R = nat_cmp} ks) ≡ length (sorted ks).0
len_sorted ks =
    let zs = (sorted ks).0 in
    let is = (sorted ks).1 in
    let same : (q : ℕ) → contains (from_list {R = nat_cmp} ks) q ≡ contains (from_list {R = nat_cmp} zs) q = λ q. elim (contains_or_not ks q) [
      | inl has ↦ in_set ks q has ∙ sym (in_set zs q ((is.exactly q).1 has))
      | inr none ↦ not_in_set ks q none ∙ sym (not_in_set zs q (λ has. none ((is.exactly q).0 has)))
    ] in
    ap len (same_set nat_cmp_total nat_cmp-IsAntisymmetric (from_list {R = nat_cmp} ks) (from_list {R = nat_cmp} zs) same) ∙ len_rising zs is.rising

-- rising numbers are different
different_rising : (zs : List ℕ) → Rises zs → AllPairs (λ r t. r ≢ t) zs
different_rising zs rises i j d before inside same = let less = rises i j d before inside in omega arith

-- ---- all shards

module _ (b : Limits) (seed : ℕ) (shards : List ShardParts) (held : ShardsHold b seed (IsKeptRank b) shards) where
  -- a rank is at home in the shard whose journal has it
  entry : (k : ℕ) (d : ShardParts) (r : ℕ) → k < length shards → Contains (get_or shards k d).journal r → IsKeptRank b r × (home_of b seed r ≡ k)
  entry k d r within has = (held.journals.exactly k r (omega (arith, held.are.number))).0 (subst (λ l. Contains l r) (sym (journal_of_shard shards k d within)) has)

  different_entries : (k : ℕ) (d : ShardParts) → k < length shards → AllPairs (λ r t. r ≢ t) (get_or shards k d).journal
  different_entries k d within =
      subst (AllPairs (λ r t. r ≢ t)) (journal_of_shard shards k d within)
      (All-from_recursion (AllPairs (λ r t. r ≡ t → ⊥)) (journals_of shards) held.journals.different k [] (let size = length-map shards (λ (s : ShardParts). s.journal) in omega arith))

  -- a kept circuit is in the shard where it is at home
  kept_entry : (r : ℕ) → IsKeptRank b r → (s : ShardParts) × Contains shards s × Contains s.journal r
  kept_entry r kept =
      let any : ShardParts = record { number = 0; bounds = b; probe = record { seed = seed; q = 0 }; journal = [] } in
      let home = home_of b seed r in
      let below : home < 16 = mod-lt (print_at b seed r) (omega arith) in
      let within : home < length shards = omega (arith, below, held.are.number) in
      (get_or shards home any, Contains-get_or shards home any within, subst (λ l. Contains l r) (journal_of_shard shards home any within) ((held.journals.exactly home r below).1 (kept, refl)))

  -- no shard has more entries than there are circuits
  pub few_entries : IsLawful b → All (λ (s : ShardParts). length s.journal ≤ 9000000) shards
  few_entries lawful k d within =
      let journal = (get_or shards k d).journal in
      let found = sorted journal in
      let short = rising_short found.0 (length (all_circuits b)) (increasing_from_rises found.0 found.1.rising) (λ r has. (entry k d r within ((found.1.exactly r).0 has)).0.listed) in
      omega (arith, short, found.1.long (different_entries k d within), all_few b lawful)

  -- the entries of all shards are the kept circuits
  pub number_of_entries : IsNumberOf (IsKeptRank b) (sum_by (λ (s : ShardParts). length s.journal) shards)
  number_of_entries =
      let journal : ShardParts → List ℕ = λ s. s.journal in
      subst (IsNumberOf (IsKeptRank b)) (length-flat_map journal shards)
      (number_of_different (IsKeptRank b) (flat_map journal shards)
      (pairs-flat_map (λ r t. r ≢ t) journal (home_of b seed) (λ r t less is. omega (arith, less, ap (home_of b seed) is)) shards 0 different_entries (λ k d r within has. omega (arith, (entry k d r within has).1)))
      (λ r. (
        λ has. let source = Contains-from_flat_map journal shards r has in (entry source.1.0 source.0 r source.1.1 (subst (λ (s : ShardParts). Contains s.journal r) (sym source.1.2) source.2)).0,
        λ kept. let found = kept_entry r kept in Contains-flat_map journal shards found.0 r found.1 found.2,
      )))

  -- ---- fingerprints

  -- the different fingerprints of a shard, in order
  abbrev prints : ShardParts → List ℕ
  prints s = (sorted (map (print_at s.bounds s.probe.seed) s.journal)).0

  own_print : (k : ℕ) (d : ShardParts) (r : ℕ) → k < length shards → print_at (get_or shards k d).bounds (get_or shards k d).probe.seed r ≡ print_at b seed r
  own_print k d r within =
      let own = held.are.each k d (omega (arith, held.are.number)) in
      λ i. print_at (own.bounds i) (own.own_seed i) r

  -- each is that of an entry
  print_source : (k : ℕ) (d : ShardParts) (p : ℕ) → k < length shards → Contains (prints (get_or shards k d)) p → (r : ℕ) × Contains (get_or shards k d).journal r × (print_at b seed r ≡ p)
  print_source k d p within has =
      let s = get_or shards k d in
      let source = Contains-from_map (print_at s.bounds s.probe.seed) s.journal p (((sorted (map (print_at s.bounds s.probe.seed) s.journal)).1.exactly p).0 has) in
      (source.0, source.1, sym (own_print k d source.0 within) ∙ source.2)

  print_home : (k : ℕ) (d : ShardParts) (p : ℕ) → k < length shards → Contains (prints (get_or shards k d)) p → p % 16 ≡ 0 + k
  print_home k d p within has =
      let source = print_source k d p within has in
      let home : print_at b seed source.0 % 16 ≡ k = (entry k d source.0 within source.1).1 in
      omega (arith, home, ap (λ x. x % 16) source.2)

  pub number_of_prints : IsNumberOf (IsPrint b seed) (sum_by different_prints shards)
  number_of_prints =
      subst (IsNumberOf (IsPrint b seed)) (length-flat_map prints shards ∙ (λ i. sum_by (λ (s : ShardParts). sym (len_sorted (map (print_at s.bounds s.probe.seed) s.journal)) i) shards))
      (number_of_different (IsPrint b seed) (flat_map prints shards)
      (pairs-flat_map (λ r t. r ≢ t) prints (λ p. p % 16) (λ p u less is. omega (arith, less, ap (λ x. x % 16) is)) shards 0
      (λ k d within. different_rising (prints (get_or shards k d)) (sorted (map (print_at (get_or shards k d).bounds (get_or shards k d).probe.seed) (get_or shards k d).journal)).1.rising) print_home)
      (λ p. (
        λ has.
            let found = Contains-from_flat_map prints shards p has in
            let source = print_source found.1.0 found.0 p found.1.1 (subst (λ (s : ShardParts). Contains (prints s) p) (sym found.1.2) found.2) in
            record { rank = source.0; kept = (entry found.1.0 found.0 source.0 found.1.1 source.1).0; own = source.2 },
        λ h.
            let found = kept_entry h.rank h.kept in
            let s = found.0 in
            let k = found.1.0 in
            let print : print_at s.bounds s.probe.seed h.rank ≡ p = subst (λ (x : ShardParts). print_at x.bounds x.probe.seed h.rank ≡ print_at b seed h.rank) found.1.2 (own_print k s h.rank found.1.1) ∙ h.own in
            let has = subst (Contains (map (print_at s.bounds s.probe.seed) s.journal)) print (Contains-map (print_at s.bounds s.probe.seed) s.journal h.rank found.2) in
            Contains-flat_map prints shards s p found.1 (((sorted (map (print_at s.bounds s.probe.seed) s.journal)).1.exactly p).1 has),
      )))

-- ---- a class list

-- a filter leaves no more than there was
filter_short : {A : Type 0} (test : A → Bool) (xs : List A) → length (filter test xs) ≤ length xs
filter_short test [] = omega arith
filter_short test (x ∷ xs) = by (test x) (filter_short test xs)
  where
    by : (t : Bool) → length (filter test xs) ≤ length xs → length (cond t (x ∷ filter test xs) (filter test xs)) ≤ suc (length xs)
    by true rest = omega (arith, rest)
    by false rest = omega (arith, rest)

module _ (b : Limits) (lawful : IsLawful b) (classes : List (List ℕ)) (list : IsClassList b classes) where
  -- it has few lists
  pub few_classes : length classes ≤ 9000000
  few_classes =
      let ranks = ranks_are_order b lawful in
      let size = zip_length (λ r l. ListsExactly (IsMemberRank b r) l) list.representatives list.lists list.each_list in
      let short = rising_short list.representatives (length (all_circuits b)) list.each_representative.rising (λ r has. representative_below b ranks r ((list.each_representative.exactly r).0 has)) in
      omega (arith, size, short, all_few b lawful, ap length list.several, filter_short (λ (l : List ℕ). nat_lt 1 (length l)) list.lists)

  few_in_each : All (λ (l : List ℕ). length l ≤ 9000000) list.lists
  few_in_each k d within =
      let ranks = ranks_are_order b lawful in
      let size = zip_length (λ r l. ListsExactly (IsMemberRank b r) l) list.representatives list.lists list.each_list in
      let r = get_or list.representatives k 0 in
      let exact = zip_at (λ r l. ListsExactly (IsMemberRank b r) l) list.representatives list.lists k 0 d list.each_list (omega (arith, size, within)) in
      let short = rising_short (get_or list.lists k d) (length (all_circuits b)) exact.rising (λ s has. member_below b ranks r s ((exact.exactly s).0 has)) in
      omega (arith, short, all_few b lawful)

  few_members : All (λ (l : List ℕ). length l ≤ 9000000) classes
  few_members = subst (All (λ (l : List ℕ). length l ≤ 9000000)) (sym list.several) (All-filter (λ (l : List ℕ). nat_lt 1 (length l)) (λ (l : List ℕ). length l ≤ 9000000) list.lists few_in_each)

  -- so they have few circuits together
  pub all_members : sum_by length classes ≤ 81000000000000
  all_members =
      let product : length classes * 9000000 ≤ 9000000 * 9000000 = mul-le-mul_right 9000000 few_classes in
      omega (arith, sum_by-le length 9000000 classes few_members, product)
