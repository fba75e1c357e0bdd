use mathlib.Core.List.{List, [], ◌∷◌}
use Prim.Native.Nat.{ℕ}
use denote.Builtin.{One}
use denote.Exit.{no}
use denote.RattleType.{RattleType}
use denote.Ref.{NamedLft}
use denote.Struct.Field.{shr_ref_field, u64-field}
use denote.Struct.Tuple.{TupleAt}
use denote.Param.Send.{IsSend, IsSync, arg_send, param_send, param_sync, given_sync, sendable}
use Rattle.std.proofs.Crossing.{crosses}
use Rattle.std.specs.contracts.alloc.Global as heap
use Rattle.qz_store.proofs.Crossing.{pass_send, store_sync}
use Rattle.qz_crew.proofs.crew.+crew+fn-crew-join+arg3.Lts-crew as lts
use Rattle.qz_crew.proofs.crew.+crew+fn-crew-join+arg3.Goals as goal

heap_sync : IsSync heap.the_row
heap_sync = search (sendable, crosses) depth 20

number_sync : IsSync u64-field.row
number_sync = search sendable

lent : (l : NamedLft) (T : RattleType) (one : One T.mir) → IsSync T → IsSend (shr_ref_field l T one).row
lent l T one s = search sendable

-- a closure that captures six values
six : (name : List ℕ) (a b c d e f : RattleType) → IsSend a → IsSend b → IsSend c → IsSend d → IsSend e → IsSend f → IsSend (TupleAt name (a ∷ b ∷ c ∷ d ∷ e ∷ f ∷ []))
six name a b c d e f p q r s t u = search sendable depth 30

-- the work of one worker may go to another thread
pub join-one-requires-send-F : goal.join-one-requires-send-F
join-one-requires-send-F g t c κs h =
    let r : IsSync g.row.R = search (given_sync, c.requires.shared.0) in
    let s : IsSync g.row.T = search (given_sync, c.requires.shared.1) in
    param_send 1 (lts.arg-3-1 g.row.R g.row.T g.R.laws g.T.laws g.R.Threads-dict g.R.Wait-dict g.T.Turnstile-dict κs)
    (arg_send _ no _ (six _ _ _ _ _ _ _ (lent _ _ _ (param_sync 0 g.row.R r)) (lent _ _ _ heap_sync) (lent _ _ _ store_sync) pass_send (lent _ _ _ number_sync) (lent _ _ _ (param_sync 1 g.row.T s))))
