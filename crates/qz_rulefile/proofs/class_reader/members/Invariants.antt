use Rattle.std.proofs.Common.{◌≡◌, ◌-◌}
use Rattle.qz_rulefile.specs.Flat.{folded_at, one_more}
use Rattle.qz_rulefile.specs.Reading.{member_at}
use Rattle.qz_rulefile.proofs.class_reader.members.Given as goal

abbrev pub invariant-loop : goal.invariant-loop
invariant-loop l = folded_at one_more l.ranks.items (member_at l.texts.bounds) (l.count - l.counter) l.rest ≡ folded_at one_more l.fn.ranks.items (member_at l.texts.bounds) l.count l.fn.bytes
