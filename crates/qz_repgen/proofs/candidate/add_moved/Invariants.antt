use Rattle.std.proofs.Common.{◌≡◌, ◌+◌, ◌-◌, ◌++◌, map, take}
use Rattle.qz_repgen.proofs.candidate.add_moved.Given as goal

-- the numbers so far are added
abbrev pub invariant-loop-p : goal.invariant-loop-p
invariant-loop-p l = l.found.items ≡ l.fn.found.items ++ map (λ p. l.to + (p - l.from)) (take l.p-index l.run)
