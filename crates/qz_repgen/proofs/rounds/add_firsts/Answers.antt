use Rattle.std.proofs.Common.{◌<◌, length, sym, subst, arith}
use Rattle.std.specs.Prelude.{slice_index}
use Rattle.qz_circ.specs.Order.{all_circuits}
use Rattle.qz_shard.specs.Journals.{AreClassesOf}
use Rattle.qz_repgen.proofs.ClassMembers.{some_member, first_is_rank}
use Rattle.qz_repgen.proofs.rounds.add_firsts.Goals as goal

-- a class has members
pub bounds-class-0 : goal.bounds-class-0
bounds-class-0 c =
    let exist = c.classes-i-end.ensures.exist in
    let inside : c.loop-i.i < length exist.0 = omega (arith, c.classes-i-end.ensures.number exist.0 exist.1, c.loop-i-test.true) in
    subst (λ list. 0 < length list) (sym (c.class.ensures exist.0 exist.1)) (some_member c.args.shard.now.bounds c.args.shard.now.journal exist.0 exist.1 c.loop-i.i inside)

-- which are ranks
pub length_of-requires : goal.length_of-requires
length_of-requires c =
    let exist = c.classes-i-end.ensures.exist in
    let inside : c.loop-i.i < length exist.0 = omega (arith, c.classes-i-end.ensures.number exist.0 exist.1, c.loop-i-test.true) in
    let are = subst (λ x. AreClassesOf x c.args.shard.now.journal exist.0) c.requires.bounds exist.1 in
    subst (λ list. slice_index list 0 < length (all_circuits c.args.b)) (sym (c.class.ensures exist.0 exist.1)) (first_is_rank c.args.b c.args.shard.now.journal exist.0 are c.loop-i.i inside c.requires.listed)
