-- What is known of the values with which a store is opened, and what the store keeps then.
use Rattle.std.proofs.Common.{◌≡◌, ℕ, ◌^◌, ◌<◌, ◌≤◌, List, [], ◌∷◌, map, length, slice_get, slice_index_or, Some, sym, refl, ap, subst, ◌∙◌, arith}
use Rattle.std.specs.Prelude.{Contains}
use Rattle.std.specs.List.{All}
use Rattle.std.proofs.lemmas.List.{length-map}
use Rattle.std.proofs.lemmas.Option.{get_or_from_slice_get, slice_get-map}
use Rattle.std.proofs.lemmas.Simd.{map-map}
use Rattle.std.specs.Option.{option_map}
use mathlib.Core.Logic.{inr}
use Rattle.qz_circ.specs.Bounds.{IsLawful}
use Rattle.qz_circ.specs.Circuit.{Limits}
use Rattle.qz_circ.specs.Order.{all_circuits}
use Rattle.qz_circ.proofs.RankLemmas.{all_few}
use Rattle.qz_finger.specs.Fingerprint.{ProbeParts}
use Rattle.qz_seats.specs.SeatRule.{AreDifferent, names_of, terms_of, mark_of}
use Rattle.qz_seats.specs.Parts.{SeatsParts}
use Rattle.qz_seats.specs.Answers.{HaveNames}
use Rattle.qz_shard.specs.Shards.{ShardParts, IsShard}
use Rattle.qz_store.specs.Opening.{IsNumber, AreSixteen, IsNewList, IsOpened}
use Rattle.qz_store.specs.HeldStore.{mark_with, shard_mark, IsStore}
use Rattle.qz_store.proofs.Places.{all_at, some_at, mapped_at, entry_at}
use Rattle.qz_store.proofs.Rising.{few_rising, rising_differ}

-- the names of values that all have these
names_are : {V : Type 0} (N : V → List ℕ) (list : List ℕ) (values : List V) → 0 < length values → All (λ v. N v ≡ list) values → names_of N values ≡ list
names_are N list [] some each = absurd (omega arith)
names_are N list (v ∷ values) some each = each 0 v (omega arith)

module _ (b : Limits) (probe : ProbeParts) (list : List ℕ) (old : List ShardParts) (new : IsNewList b old list) (sixteen : AreSixteen b probe old) where
  module _ {V : Type 0} (S : V → ShardParts) (N : V → List ℕ) (values : List V) (shards : map S values ≡ old) (names : All (λ v. N v ≡ list) values) (are : All (λ v. IsShard (S v)) values) where
    pub count : length values ≡ 16
    count = sym (length-map values S) ∙ (ap length shards ∙ sixteen.count)

    number_at : (k : ℕ) (v : V) → slice_get values k ≡ Some v → IsNumber b probe k (S v)
    number_at k v at = sixteen.each k (S v) (sym (ap (λ xs. slice_get xs k) shards) ∙ (slice_get-map S values k ∙ ap (option_map S) at))

    -- the first shard tells of the bounds and the probe
    first : (v : V) × (slice_get values 0 ≡ Some v)
    first = some_at values 0 (omega (arith, count))

    lawful : IsLawful b
    lawful = subst IsLawful (number_at 0 first.0 first.1).bounds_are (all_at (λ v. IsShard (S v)) values 0 first.0 are first.1).lawful

    qubits : probe.q ≡ b.q
    qubits =
        let number = number_at 0 first.0 first.1 in
        sym (ap (λ p. p.q) number.probe_is) ∙ ((all_at (λ v. IsShard (S v)) values 0 first.0 are first.1).qubits ∙ ap (λ x. x.q) number.bounds_are)

    pub few_ranks : length list ≤ 2 ^ 40
    few_ranks = omega (arith, few_rising list (length (all_circuits b)) new.rising new.listed, all_few b lawful)

    same_names : names_of N values ≡ list
    same_names = names_are N list values (omega (arith, count)) names

    pub have_names : (limit : ℕ) → limit ≡ length list → HaveNames N limit values
    have_names limit long = record {
      same = λ k d inside. names k d inside ∙ sym same_names;
      count = inr (ap length same_names ∙ sym long);
      apart = subst AreDifferent (sym same_names) (rising_differ list new.rising);
    }

    module _ (limit seats : ℕ) (long : limit ≡ length list) (t : SeatsParts) (is : t.terms ≡ terms_of (λ v. (S v).journal) N (λ v. shard_mark (S v)) limit seats values) where
      list_is : t.terms.names ≡ list
      list_is = ap (λ x. x.names) is ∙ same_names

      journals_are : t.terms.openings ≡ map (λ (shard : ShardParts). shard.journal) old
      journals_are =
          ap (λ x. x.openings) is ∙ (sym (map-map (λ (shard : ShardParts). shard.journal) S values) ∙ ap (map (λ (shard : ShardParts). shard.journal)) shards)

      marks_are : (k : ℕ) → k < 16 → mark_of t.terms k ≡ mark_with b probe k
      marks_are k inside =
          let v = some_at values k (omega (arith, count)) in
          let number = number_at k v.0 v.1 in
          ap (λ x. mark_of x k) is
          ∙ (get_or_from_slice_get (map (λ v. shard_mark (S v)) values) k (shard_mark (S v.0)) [] (slice_get-map (λ v. shard_mark (S v)) values k ∙ ap (option_map (λ v. shard_mark (S v))) v.1)
          ∙ (λ i. mark_with (number.bounds_are i) (number.probe_is i) (number.number_is i)))

      absent_at : (k r : ℕ) → Contains t.terms.names r → Contains (slice_index_or t.terms.openings k []) r → ⊥
      absent_at k r listed has =
          let there = entry_at (map (λ (shard : ShardParts). shard.journal) old) k r (subst (λ xs. Contains (slice_index_or xs k []) r) journals_are has) in
          let shard = mapped_at (λ (shard : ShardParts). shard.journal) old k there.0 there.1 in
          all_at (λ (x : ShardParts). (y : ℕ) → Contains list y → Contains x.journal y → ⊥) old k shard.0 new.absent shard.1 r
          (subst (λ xs. Contains xs r) list_is listed) (subst (λ xs. Contains xs r) (sym shard.2) there.2)

      pub opened_store : (room : List ShardParts) (capacity : ℕ) → room ≡ [] → 16 ≤ capacity → IsStore (record { seats = t; bounds = b; probe = probe }) list room capacity
      opened_store room capacity empty enough = record {
        list_is = sym list_is;
        some = omega (arith, ap length list_is, new.some);
        limit_is = ap (λ x. x.limit) is ∙ (long ∙ sym (ap length list_is));
        listed = subst (All (λ r. r < length (all_circuits b))) (sym list_is) new.listed;
        sixteen = ap length journals_are ∙ (length-map old (λ (shard : ShardParts). shard.journal) ∙ sixteen.count);
        marks = marks_are;
        absent = absent_at;
        lawful = lawful;
        qubits = qubits;
        empty = empty;
        room_is = enough;
      }

      pub opened_is : IsOpened list old b probe seats (record { seats = t; bounds = b; probe = probe })
      opened_is = record {
        list_is = list_is;
        limit_is = ap (λ x. x.limit) is ∙ long;
        journals_are = journals_are;
        bounds_are = refl;
        probe_is = refl;
        seats_are = ap (λ x. x.seats) is;
      }
