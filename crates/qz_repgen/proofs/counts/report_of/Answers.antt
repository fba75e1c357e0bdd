use Rattle.std.proofs.Common.{◌*◌, ◌≤◌, sym, subst, ap, arith}
use Rattle.std.proofs.Math.Nat.{mul-le-mul_right}
use Rattle.qz_repgen.specs.Journals.{IsKeptRank}
use Rattle.qz_repgen.specs.Numbers.{IsNumberOf}
use Rattle.qz_repgen.specs.Reports.{IsExtended, IsPrint}
use Rattle.qz_repgen.proofs.CountLemmas.{few_entries, number_of_entries, number_of_prints}
use Rattle.qz_repgen.proofs.LowerLaws.{ranks_are_order}
use Rattle.qz_repgen.proofs.RankLaws.{representative_below}
use Rattle.qz_repgen.proofs.RoundLemmas.{few_ranks}
use Rattle.qz_repgen.proofs.counts.report_of.Goals as goal

pub overflow_mul-result : goal.overflow_mul-result
overflow_mul-result c =
    let lawful = c.gates.ensures.lawful in
    let few : c.args.representatives ≤ 9000000 = few_ranks c.args.b lawful (IsExtended c.args.b) c.args.representatives (λ r h. representative_below c.args.b (ranks_are_order c.args.b lawful) r h.representative) c.requires.representatives in
    let product : c.args.representatives * c.gates.result ≤ 9000000 * c.gates.result = mul-le-mul_right c.gates.result few in
    record { fits = omega (arith, product, c.gates.ensures.few) }

pub entries-requires-clause-few : goal.entries-requires-clause-few
entries-requires-clause-few c = few_entries c.args.b c.args.seed c.args.shards.now c.requires.held c.gates.ensures.lawful

pub prints-requires-clause-few : goal.prints-requires-clause-few
prints-requires-clause-few c = few_entries c.args.b c.args.seed c.args.shards.now c.requires.held c.gates.ensures.lawful

pub returns : goal.returns
returns c = record {
  representatives = c.args.representatives;
  each_representative = c.requires.representatives;
  extended = ap (λ n. c.args.representatives * n) c.gates.ensures.value;
  kept = subst (IsNumberOf (IsKeptRank c.args.b)) (sym c.entries.ensures) (number_of_entries c.args.b c.args.seed c.args.shards.now c.requires.held);
  lists = c.args.classes.now.lists;
  class_list = c.requires.class_list;
  classes = c.len.ensures;
  members = c.members.ensures;
  prints = subst (IsNumberOf (IsPrint c.args.b c.args.seed)) (sym c.prints.ensures) (number_of_prints c.args.b c.args.seed c.args.shards.now c.requires.held);
}
