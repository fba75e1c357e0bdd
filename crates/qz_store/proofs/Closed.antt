-- What a store hands back when it is closed.
use Rattle.std.proofs.Common.{◌≡◌, ℕ, ◌<◌, ◌++◌, true, List, map, length, slice_get, slice_index_or, Some, sym, ap, subst, ◌∙◌, arith}
use Rattle.std.specs.Prelude.{Contains}
use Rattle.std.specs.List.{All}
use Rattle.std.specs.Option.{option_map}
use Rattle.std.proofs.lemmas.List.{length-map}
use Rattle.std.proofs.lemmas.Option.{slice_get-get_or, slice_get-map, slice_get_within}
use Rattle.qz_seats.specs.declared.view.View.{View}
use Rattle.qz_seats.specs.Receipts.{ReceiptParts}
use Rattle.qz_seats.specs.SeatRule.{between, count_of, opening_of}
use Rattle.qz_seats.specs.Answers.{IsClosed}
use Rattle.qz_shard.specs.Shards.{ShardParts, IsShard, IsAtHome, home_of}
use Rattle.qz_store.specs.Stores.{StoreParts, list_of, old_journal, HasClaimed}
use Rattle.qz_store.specs.Opening.{IsNumber}
use Rattle.qz_store.specs.Closing.{IsGrownShard, IsKeptReceipt, IsClosedStore}
use Rattle.qz_store.specs.HeldStore.{shard_mark, IsStore}
use Rattle.qz_store.proofs.Counted.{receipt_there, receipt_after, items_differ}
use Rattle.qz_store.proofs.Lifted.{has_names, lifted_number}
use Rattle.qz_store.proofs.Places.{all_at, mapped_at}

module _ (s : StoreParts) (list : List ℕ) (room : List ShardParts) (capacity : ℕ) (store : IsStore s list room capacity) (v : View) (terms : v.terms ≡ s.seats.terms) where
  module _ {V : Type 0} (S : V → ShardParts) (N : V → List ℕ) (values : List V) (closed : IsClosed (λ x. (S x).journal) N (λ x. shard_mark (S x)) v values) where
    count : length values ≡ 16
    count = closed.count ∙ (ap count_of terms ∙ store.sixteen)

    number_at : (k : ℕ) (value : V) → slice_get values k ≡ Some value → IsNumber s.bounds s.probe k (S value)
    number_at k value at =
        lifted_number s list room capacity store v terms S N k _ value (omega (arith, slice_get_within values k value at, count)) (closed.grown k value at).at

    grown_at : (k : ℕ) (shard : ShardParts) → slice_get (map S values) k ≡ Some shard → IsGrownShard s v k shard
    grown_at k shard at =
        let there = mapped_at S values k shard at in
        let grown = closed.grown k there.0 there.1 in
        let number = number_at k there.0 there.1 in
        let journal : (S there.0).journal ≡ old_journal s k ++ grown.after = grown.at.journal_is ∙ ap (λ t. opening_of t k ++ grown.after) terms in
        subst (IsGrownShard s v k) there.2 (record {
          after = grown.after;
          is = (λ i. record { number = number.number_is i; bounds = number.bounds_are i; probe = number.probe_is i; journal = journal i });
          receipt_at = λ p. receipt_there v k p (length (old_journal s k)) (length (S there.0).journal) (grown.places p ∙ ap (λ t. between p (length (opening_of t k)) (length (S there.0).journal)) terms);
        })

    module _ (are : All IsShard (map S values)) where
      receipt_kept : (k : ℕ) (d : ReceiptParts) → k < length v.receipts → IsKeptReceipt s v (map S values) (slice_index_or v.receipts k d)
      receipt_kept k d inside =
          let receipt = slice_index_or v.receipts k d in
          let stands = closed.stand k d inside in
          let shard = S stands.0 in
          let number = number_at receipt.shard stands.0 stands.1 in
          let at : slice_get (map S values) receipt.shard ≡ Some shard = slice_get-map S values receipt.shard ∙ ap (option_map S) stands.1 in
          let home : IsAtHome shard receipt.item = all_at (IsAtHome shard) shard.journal receipt.place receipt.item (all_at IsShard (map S values) receipt.shard shard are at).home stands.2 in
          record {
            claimed = closed.named (λ e. has_names s list room capacity store (sym (ap (λ t. t.names) terms) ∙ e)) k d inside;
            home = sym number.number_is ∙ (sym home ∙ (λ i. home_of (number.bounds_are i) (number.probe_is i).seed receipt.item));
            new = receipt_after v k d inside (length (old_journal s receipt.shard)) (length shard.journal)
                (λ p. (closed.grown receipt.shard stands.0 stands.1).places p ∙ ap (λ t. between p (length (opening_of t receipt.shard)) (length shard.journal)) terms);
            shard = shard;
            at = at;
            stands = stands.2;
          }

      claimed_all : v.ended ≡ true → (r : ℕ) → Contains (list_of s) r → HasClaimed v r
      claimed_all ended r has =
          let limit : v.terms.limit ≡ length (list_of s) = ap (λ t. t.limit) terms ∙ store.limit_is in
          let drawn = closed.ended ended has.0 (omega (arith, has.1)) in
          (has.0, ap (λ t. slice_get t.names has.0) terms ∙ (slice_get-get_or (list_of s) has.0 r has.1 ∙ ap Some has.2), omega arith)

      pub closed_store : IsClosedStore s v (map S values)
      closed_store = record {
        count = length-map values S ∙ count;
        grown = grown_at;
        receipts = receipt_kept;
        once = items_differ v.receipts (closed.apart (λ e. has_names s list room capacity store (sym (ap (λ t. t.names) terms) ∙ e)));
        ended = claimed_all;
      }
