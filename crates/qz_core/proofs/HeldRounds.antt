-- What is held in memory of a round, before and after a call.
use Rattle.std.proofs.Common.{◌≡◌, ◌<◌, ℕ, ◌+◌, true, List, [], length, get_or, Vec, sym, ap, subst, ◌∙◌, arith}
use Rattle.std.proofs.lemmas.List.{get_or-map, length-map}
use Rattle.qz_circ.specs.Vectors.{lists_of}
use Rattle.qz_core.specs.HeldRound.{round_of, HaveRoom, IsHeld}
use Rattle.qz_core.specs.RoundMachine.{with_entry, without_entry, home_among, is_pending, RoundState, claimed, put, IsRound}
use Rattle.qz_core.proofs.Rounds.{claimed_more, put_more}

module _ {A : Type 0} where
  -- the state after a claim
  pub claim_state : (list homes : List ℕ) (next w : ℕ) (pending new shards : List (Vec ℕ A)) → next < length list → lists_of new ≡ with_entry (lists_of pending) w (get_or list next 0) → round_of list homes (next + 1) new shards ≡ claimed (round_of list homes next pending shards) w
  claim_state list homes next w pending new shards more e =
      (λ i. record { list = list; homes = homes; next = next + 1; pending = e i; shards = lists_of shards }) ∙ sym (claimed_more (round_of list homes next pending shards) w more)

  -- the state after a put
  pub put_state : (list homes : List ℕ) (next w r : ℕ) (pending new shards more : List (Vec ℕ A)) → is_pending (round_of list homes next pending shards) w r ≡ true → lists_of new ≡ without_entry (lists_of pending) w r → lists_of more ≡ with_entry (lists_of shards) (home_among list homes r) r → round_of list homes next new more ≡ put (round_of list homes next pending shards) w r
  put_state list homes next w r pending new shards more there e f =
      (λ i. record { list = list; homes = homes; next = next; pending = e i; shards = f i }) ∙ sym (put_more (round_of list homes next pending shards) w r there)

  -- a round with room for all its ranks
  pub held : (n : ℕ) (m q : RoundState) (pending shards : List (Vec ℕ A)) → m ≡ q → IsRound n q → HaveRoom (length m.list) pending → HaveRoom (length m.list) shards → IsHeld m pending shards
  held n m q pending shards e round pending_room shard_room =
      let here : IsRound n m = subst (IsRound n) (sym e) round in
      record { round = subst (λ k. IsRound k m) (sym here.workers) here; pending_room = pending_room; shard_room = shard_room }

-- what a vector that is read holds
pub pending_of : {A : Type 0} (vs : List (Vec ℕ A)) (w : ℕ) (v : Vec ℕ A) → w < length (lists_of vs) → v ≡ get_or vs w v → v.items ≡ get_or (lists_of vs) w []
pending_of vs w v within e = ap (λ u. u.items) e ∙ sym (get_or-map (λ u. u.items) vs w v [] (omega (arith, within, length-map vs (λ u. u.items))))
