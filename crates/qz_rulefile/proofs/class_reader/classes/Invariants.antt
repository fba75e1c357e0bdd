use Rattle.std.proofs.Common.{◌≡◌, ◌-◌, []}
use Rattle.qz_rulefile.specs.Flat.{folded_at, with_class}
use Rattle.qz_rulefile.specs.Reading.{class_at}
use Rattle.qz_rulefile.proofs.class_reader.classes.Given as goal

abbrev pub invariant-loop : goal.invariant-loop
invariant-loop l =
    folded_at with_class (record { members = l.ranks.items; ends = l.ends.items }) (class_at l.texts.bounds) (l.count - l.counter) l.rest
    ≡ folded_at with_class (record { members = []; ends = [] }) (class_at l.texts.bounds) l.count l.fn.bytes
