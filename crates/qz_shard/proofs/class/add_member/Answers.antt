use Rattle.std.proofs.Common.{◌≡◌, sym, subst, rules}
use Rattle.std.specs.List.{insert}
use Rattle.std.specs.List.Sorted.{IsStrictlyIncreasing}
use Rattle.qz_shard.specs.Journals.{AddsMember}
use Rattle.qz_shard.proofs.Insertion.{adds_member}
use Rattle.qz_shard.proofs.class.add_member.Goals as goal

-- the members with the rank in its place
pub returns-clause-ok : goal.returns-clause-ok
returns-clause-ok c =
    let old = c.args.class.now.members.items in
    let place = c.place_among-place.result in
    let left : c.insert.new.self.items ≡ insert old place c.args.r = search rules in
    subst (AddsMember c.args.r old) (sym left)
    (subst (λ x. AddsMember c.args.r x (insert x place c.args.r)) c.as_slice.ensures
    (adds_member c.args.r place c.as_slice.result.now (subst IsStrictlyIncreasing (sym c.as_slice.ensures) c.requires.rising) c.place_among-place.ensures.within c.place_among-place.ensures.before c.place_among-place.ensures.after))
