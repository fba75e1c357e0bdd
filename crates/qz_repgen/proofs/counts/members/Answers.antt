use Rattle.std.proofs.Common.{◌≡◌, ◌+◌, ◌<◌, [], get_or, length, take, ap, arith}
use Rattle.std.specs.Prelude.{sum_by}
use Rattle.std.proofs.lemmas.Option.{get_or_from_slice_get}
use Rattle.std.proofs.lemmas.List.Sums.{sum_by_more, sum_by_more_le}
use Rattle.qz_repgen.proofs.CountLemmas.{all_members}
use Rattle.qz_repgen.proofs.counts.members.Goals as goal

pub overflow_add-all : goal.overflow_add-all
overflow_add-all c =
    let lists = c.args.classes.now.lists in
    let i = c.loop-i.i in
    let before : c.loop-i.all ≡ sum_by length (take i lists) = c.loop-i.invariant in
    let inside : i < length lists = omega (arith, c.loop-i-test.true, c.len-i-end.ensures) in
    let here : get_or lists i [] ≡ c.class.result.now = get_or_from_slice_get lists i c.class.result.now [] c.class.ensures.list in
    record { fits = omega (arith, before, ap length here, sum_by_more_le length lists i [] inside, all_members c.args.classes.now.bounds c.requires.lawful lists c.requires.class_list) }

-- one list more
pub loop-i-preserved : goal.loop-i-preserved
loop-i-preserved c =
    let lists = c.args.classes.now.lists in
    let i = c.loop-i.i in
    let before : c.loop-i.all ≡ sum_by length (take i lists) = c.loop-i.invariant in
    let inside : i < length lists = omega (arith, c.loop-i-test.true, c.len-i-end.ensures) in
    let here : get_or lists i [] ≡ c.class.result.now = get_or_from_slice_get lists i c.class.result.now [] c.class.ensures.list in
    let more = sum_by_more length lists i [] inside in
    let after : c.loop-i.all + length c.class.result.now ≡ sum_by length (take (i + 1) lists) = omega (arith, before, ap length here, more) in
    after
