use Rattle.std.proofs.Common.{◌≡◌, [], length, take}
use Rattle.std.specs.Prelude.{nat_le}
use Rattle.std.specs.List.{filter}
use Rattle.qz_queue.specs.Circuits.{circuits_of}
use Rattle.qz_queue.proofs.queue.first_within.Given as goal

abbrev pub invariant-loop-p : goal.invariant-loop-p
invariant-loop-p l = filter (λ c. nat_le (length c) l.most) (circuits_of (take l.p-index l.list)) ≡ []
