use Rattle.std.proofs.Common.{◌≡◌, drop}
use Rattle.qz_rulefile.specs.Reading.{first_text}
use Rattle.qz_circ.specs.Vectors.{lists_of}
use Rattle.qz_rulefile.proofs.PartSteps.{found_from}
use Rattle.qz_rulefile.proofs.parts.first_text.Given as goal

abbrev pub invariant-loop-k : goal.invariant-loop-k
invariant-loop-k l = found_from l.k (first_text (drop l.k (lists_of l.texts)) l.bytes) ≡ first_text (lists_of l.texts) l.bytes
