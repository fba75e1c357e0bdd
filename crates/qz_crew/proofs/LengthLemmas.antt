-- What a closed store makes of shards of the kept circuits of at most k gates.
use Rattle.std.proofs.Common.{◌≡◌, ℕ, ◌+◌, ◌<◌, ◌≤◌, ◌==◌, Bool, true, List, [], ◌∷◌, ◌++◌, length, get_or, slice_get, Some, ◌⊎◌, inl, inr, refl, sym, ap, subst, ◌∙◌, arith}
use Rattle.std.specs.Prelude.{Contains, All, ◌↔◌}
use Rattle.std.specs.List.{AllPairs, AllByRecursion, count_by}
use Rattle.std.proofs.lemmas.Bool.{cases_lt, eqb-true}
use Rattle.std.proofs.lemmas.List.{get_or-map, get_or_append_left, length-map}
use Rattle.std.proofs.lemmas.List.Elements.{Contains-get_or, Contains-append_left, recursion_from_All}
use Rattle.std.proofs.lemmas.Option.{slice_get-get_or, slice_get_within, get_or_from_slice_get}
use Rattle.qz_circ.specs.Bounds.{IsLawful}
use Rattle.qz_circ.specs.Circuit.{Limits}
use Rattle.qz_circ.specs.Classes.{ListsExactly}
use Rattle.qz_circ.proofs.ClassLaws.{contains_none}
use Rattle.qz_finger.specs.Fingerprint.{ProbeParts}
use Rattle.qz_seats.specs.declared.view.View.{View}
use Rattle.qz_seats.specs.Receipts.{ReceiptParts}
use Rattle.qz_seats.proofs.Sums.{counted_there}
use Rattle.qz_shard.specs.Shards.{ShardParts, IsShard, IsAtHome, home_of}
use Rattle.qz_repgen.specs.Journals.{AreAtHome}
use Rattle.qz_repgen.specs.Rounds.{IsKeptOf, IsKeptUpTo}
use Rattle.qz_repgen.specs.Shards.{IsShardOf, AreShards, journals_of, ShardsHold}
use Rattle.qz_repgen.proofs.RoundSteps.{kept_up_to_next, kept_up_to_more, kept_of_next}
use Rattle.qz_repgen.proofs.ShardLemmas.{journal_of_shard, entry_holds, held_same}
use Rattle.qz_store.specs.Stores.{StoreParts, list_of, old_journal, HasReceipt}
use Rattle.qz_store.specs.Opening.{IsNumber, AreSixteen, IsNewList, IsOpened}
use Rattle.qz_store.specs.Closing.{IsGrownShard, IsKeptReceipt, IsClosedStore}
use Rattle.qz_crew.specs.Works.{IsDone}

-- a list of no length is empty
pub no_entry : (xs : List ℕ) → length xs ≡ 0 → xs ≡ []
no_entry [] none = refl
no_entry (x ∷ xs) none = absurd (omega (arith, none))

-- what holds of all holds of one that is there
of_all : {A : Type 0} (P : A → Type 0) (xs : List A) (x : A) → All P xs → Contains xs x → P x
of_all P xs x all has = subst P has.2 (all has.0 x has.1)

module _ (b : Limits) (lawful : IsLawful b) (probe : ProbeParts) (qubits : probe.q ≡ b.q) (k : ℕ) (old : List ShardParts) (held : ShardsHold b probe.seed (IsKeptUpTo b k) old) where
  -- with nothing to put, they hold the kept circuits of one gate more too
  pub none_left : ListsExactly (IsKeptOf b (k + 1)) [] → ShardsHold b probe.seed (IsKeptUpTo b (k + 1)) old
  none_left none = held_same b probe.seed (IsKeptUpTo b k) (IsKeptUpTo b (k + 1)) old (λ r. (
    kept_up_to_more b lawful k r,
    λ h. elim (kept_up_to_next b lawful k r h) [ inl before ↦ before | inr next ↦ absurd (contains_none r ((none.exactly r).1 next)) ],
  )) held

  -- the 16 shards
  pub are_sixteen : AreSixteen b probe old
  are_sixteen = record {
    count = held.are.number;
    each = λ j shard at.
        let own = held.are.each j shard (omega (arith, slice_get_within old j shard at, held.are.number)) in
        subst (IsNumber b probe j) (get_or_from_slice_get old j shard shard at)
        (record { number_is = own.number; bounds_are = own.bounds; probe_is = (λ i. record { seed = own.own_seed i; q = (own.qubits ∙ sym qubits) i }) });
  }

  module _ (list : List ℕ) (kept : ListsExactly (IsKeptOf b (k + 1)) list) where
    -- none of what is listed is there
    pub is_new : 0 < length list → IsNewList b old list
    is_new some = record {
      some = some;
      rising = kept.rising;
      listed = λ i d inside. ((kept.exactly (get_or list i d)).0 (Contains-get_or list i d inside)).listed;
      absent = λ j d inside r has there.
          let before = entry_holds b probe.seed (IsKeptUpTo b k) old held j d r (omega (arith, held.are.number)) there in
          omega (arith, before.short, ((kept.exactly r).0 has).long);
    }

    module _ (s : StoreParts) (seats : ℕ) (opened : IsOpened list old b probe seats s) (v : View) (terms : v.terms ≡ s.seats.terms) (done : IsDone v)
        (shards : List ShardParts) (closed : IsClosedStore s v shards) (are : All IsShard shards) where
      -- what a list without this place would give there
      abbrev any : ShardParts
      any = record { number = 0; bounds = b; probe = probe; journal = [] }

      inside : (j : ℕ) → j < 16 → j < length shards
      inside j within = omega (arith, closed.count)

      grown : (j : ℕ) (d : ShardParts) → j < 16 → IsGrownShard s v j (get_or shards j d)
      grown j d within = closed.grown j (get_or shards j d) (slice_get-get_or shards j d (inside j within))

      are_new : AreShards b probe.seed shards
      are_new = record {
        number = closed.count;
        each = λ j d within. subst (IsShardOf b probe.seed j) (sym (grown j d within).is)
            (record { number = refl; bounds = opened.bounds_are; own_seed = ap (λ p. p.seed) opened.probe_is; qubits = ap (λ p. p.q) opened.probe_is ∙ qubits });
      }

      -- the journals before and after
      abbrev before : ℕ → List ℕ
      before j = get_or (journals_of old) j []

      abbrev after : ℕ → List ℕ
      after j = get_or (journals_of shards) j []

      before_is : (j : ℕ) → old_journal s j ≡ before j
      before_is j = ap (λ journals. get_or journals j []) opened.journals_are

      after_is : (j : ℕ) (within : j < 16) → after j ≡ before j ++ (grown j any within).after
      after_is j within = journal_of_shard shards j any (inside j within) ∙ (ap (λ (x : ShardParts). x.journal) (grown j any within).is ∙ ap (λ xs. xs ++ (grown j any within).after) (before_is j))

      -- a rank with a receipt is listed
      receipt_listed : (receipt : ReceiptParts) → IsKeptReceipt s v shards receipt → Contains list receipt.item
      receipt_listed receipt is =
          let at : slice_get list is.claimed.0 ≡ Some receipt.item = ap (λ xs. slice_get xs is.claimed.0) (sym (ap (λ t. t.names) terms ∙ opened.list_is)) ∙ is.claimed.1 in
          (is.claimed.0, slice_get_within list is.claimed.0 receipt.item at, get_or_from_slice_get list is.claimed.0 receipt.item receipt.item at)

      -- what came after is listed
      new_entry : (j p r : ℕ) → j < 16 → length (before j) ≤ p → p < length (after j) → get_or (after j) p r ≡ r → Contains list r
      new_entry j p r within from to is =
          let shard = get_or shards j any in
          let journal = journal_of_shard shards j any (inside j within) in
          let found = (grown j any within).receipt_at p (omega (arith, ap length (before_is j))) (omega (arith, ap length journal)) in
          let receipt = found.0 in
          let kept_receipt = of_all (IsKeptReceipt s v shards) v.receipts receipt closed.receipts found.1 in
          let same : kept_receipt.shard ≡ shard =
          sym (get_or_from_slice_get shards receipt.shard kept_receipt.shard any kept_receipt.at) ∙ ap (λ n. get_or shards n any) found.2 in
          let stands = get_or_from_slice_get kept_receipt.shard.journal receipt.place receipt.item r kept_receipt.stands in
          let here : receipt.item ≡ r =
          sym stands ∙ (ap (λ (x : ShardParts). get_or x.journal receipt.place r) same ∙ (ap (λ n. get_or shard.journal n r) found.3 ∙ (ap (λ xs. get_or xs p r) (sym journal) ∙ is))) in
          subst (Contains list) here (receipt_listed receipt kept_receipt)

      -- and all that is listed is there, at home
      listed_there : (r : ℕ) → Contains list r → Contains (after (home_of b probe.seed r)) r
      listed_there r has =
          let put : HasReceipt v r = done.all r (closed.ended done.ended r (subst (λ xs. Contains xs r) (sym opened.list_is) has)) in
          let found = counted_there (λ (x : ReceiptParts). x.item == r) v.receipts put in
          let receipt = found.0 in
          let item : receipt.item ≡ r = eqb-true receipt.item r found.2 in
          let kept_receipt = of_all (IsKeptReceipt s v shards) v.receipts receipt closed.receipts found.1 in
          let home : receipt.shard ≡ home_of b probe.seed r = kept_receipt.home ∙ (λ i. home_of (opened.bounds_are i) (opened.probe_is i).seed (item i)) in
          let within = slice_get_within shards receipt.shard kept_receipt.shard kept_receipt.at in
          let journal : after receipt.shard ≡ kept_receipt.shard.journal =
          journal_of_shard shards receipt.shard any within ∙ ap (λ (x : ShardParts). x.journal) (get_or_from_slice_get shards receipt.shard kept_receipt.shard any kept_receipt.at) in
          let there : Contains kept_receipt.shard.journal receipt.item =
          (receipt.place, slice_get_within kept_receipt.shard.journal receipt.place receipt.item kept_receipt.stands, get_or_from_slice_get kept_receipt.shard.journal receipt.place receipt.item receipt.item kept_receipt.stands) in
          subst (λ n. Contains (after n) r) home (subst (λ xs. Contains xs r) (sym journal) (subst (Contains kept_receipt.shard.journal) item there))

      entry_home : (j r : ℕ) → j < 16 → Contains (after j) r → home_of b probe.seed r ≡ j
      entry_home j r within has =
          let shard = get_or shards j any in
          let there = subst (λ xs. Contains xs r) (journal_of_shard shards j any (inside j within)) has in
          let own = (are_new).each j any within in
          let at_home : IsAtHome shard r = of_all (IsAtHome shard) shard.journal r (are j any (inside j within)).home there in
          sym (λ i. home_of (own.bounds i) (own.own_seed i) r) ∙ (at_home ∙ own.number)

      entry_kept : (j r : ℕ) → j < 16 → Contains (after j) r → IsKeptUpTo b (k + 1) r
      entry_kept j r within has = elim (cases_lt has.0 (length (before j))) [
        | inl low ↦
            let there : Contains (before j) r = (has.0, low, sym (get_or_append_left (before j) (grown j any within).after r has.0 low) ∙ (ap (λ xs. get_or xs has.0 r) (sym (after_is j within)) ∙ has.2)) in
            kept_up_to_more b lawful k r ((held.journals.exactly j r within).0 there).0
        | inr high ↦ kept_of_next b lawful k r ((kept.exactly r).0 (new_entry j has.0 r within high has.1 has.2))
      ]

      kept_there : (j r : ℕ) → j < 16 → IsKeptUpTo b (k + 1) r → home_of b probe.seed r ≡ j → Contains (after j) r
      kept_there j r within h home = elim (kept_up_to_next b lawful k r h) [
        | inl old_one ↦ subst (λ xs. Contains xs r) (sym (after_is j within)) (Contains-append_left (before j) (grown j any within).after r ((held.journals.exactly j r within).1 (old_one, home)))
        | inr next ↦ subst (λ n. Contains (after n) r) home (listed_there r ((kept.exactly r).1 next))
      ]

      -- the kept circuits of at most one gate more
      pub closed_held : ShardsHold b probe.seed (IsKeptUpTo b (k + 1)) shards
      closed_held = record {
        are = are_new;
        journals = record {
          number = length-map shards (λ (x : ShardParts). x.journal) ∙ closed.count;
          different = recursion_from_All (AllPairs (λ r t. r ≡ t → ⊥)) (journals_of shards) (λ j d within.
              subst (AllPairs (λ r t. r ≡ t → ⊥)) (sym (get_or-map (λ (x : ShardParts). x.journal) shards j any d (omega (arith, length-map shards (λ (x : ShardParts). x.journal)))))
              (are j any (omega (arith, length-map shards (λ (x : ShardParts). x.journal)))).different);
          exactly = λ j r within. (λ has. (entry_kept j r within has, entry_home j r within has), λ h. kept_there j r within h.0 h.1);
        };
      }
