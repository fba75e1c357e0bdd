use Rattle.std.proofs.Common.{◌≡◌, ◌+◌, subst, arith}
use Rattle.qz_repgen.specs.Numbers.{IsNumberOf}
use Rattle.qz_repgen.specs.Rounds.{IsKeptUpTo}
use Rattle.qz_repgen.specs.Shards.{ShardsHold}
use Rattle.qz_repgen.proofs.RoundLemmas.{IsShorter, none_shorter, number_shorter, few_shorter, number_extended, all_kept}
use Rattle.qz_crew.proofs.lengths.all_lengths.Goals as goal

pub loop-k-init : goal.loop-k-init
loop-k-init g c = (c.requires.held, none_shorter c.args.b c.n-k-end.ensures.lawful)

pub overflow_add-representatives : goal.overflow_add-representatives
overflow_add-representatives g c =
    let more = number_shorter c.args.b c.n-k-end.ensures.lawful c.loop-k.k c.loop-k.representatives c.in_ok-longer.longest c.loop-k.invariant.1 c.in_ok-longer.ensures.number in
    record { fits = omega (arith, few_shorter c.args.b c.n-k-end.ensures.lawful (c.loop-k.k + 1) (c.loop-k.representatives + c.in_ok-longer.longest) more) }

pub loop-k-preserved : goal.loop-k-preserved
loop-k-preserved g c =
    (c.in_ok-longer.ensures.held, number_shorter c.args.b c.n-k-end.ensures.lawful c.loop-k.k c.loop-k.representatives c.in_ok-longer.longest c.loop-k.invariant.1 c.in_ok-longer.ensures.number)

pub returns-clause-held : goal.returns-clause-held
returns-clause-held g c =
    let ended : c.loop-k.k ≡ c.args.b.n = omega (arith, c.n-k-end.ensures.value) in
    all_kept c.args.b c.n-k-end.ensures.lawful c.args.probe.now.seed c.loop-k.shards.items (subst (λ k. ShardsHold c.args.b c.args.probe.now.seed (IsKeptUpTo c.args.b k) c.loop-k.shards.items) ended c.loop-k.invariant.0)

pub returns-clause-number : goal.returns-clause-number
returns-clause-number g c =
    let ended : c.loop-k.k ≡ c.args.b.n = omega (arith, c.n-k-end.ensures.value) in
    number_extended c.args.b c.n-k-end.ensures.lawful c.loop-k.representatives (subst (λ k. IsNumberOf (IsShorter c.args.b k) c.loop-k.representatives) ended c.loop-k.invariant.1)
