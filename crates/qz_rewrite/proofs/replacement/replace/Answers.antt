use Rattle.std.proofs.Common.{rules, ◌≡◌, sym, subst}
use Rattle.std.specs.List.{AllByRecursion}
use Rattle.qz_circ.specs.ProgramCircuits.{IsProgramGate, EquivalentProgramCircuits}
use Rattle.qz_circ.specs.Replacement.{replaced}
use Rattle.qz_rewrite.proofs.FoundPlaces.{replaced_bound, replaced_gates, replaced_equivalent}
use Rattle.qz_rewrite.proofs.replacement.replace.Goals as goal

pub instance-requires : goal.instance-requires
instance-requires c =
    replaced_bound c.args.left.now c.args.right.now c.args.c.now c.args.place.now c.binding.result c.requires.left c.requires.gates c.requires.place c.binding.ensures

pub returns-in-Ok-clause-gates : goal.returns-in-Ok-clause-gates
returns-in-Ok-clause-gates c = λ q is.
    let written : c.in-Ok.out.items ≡ replaced c.args.c.now c.args.right.now c.args.place.now = search rules in
    record {
      few = is.few;
      gates = subst (AllByRecursion (IsProgramGate q)) (sym written) (replaced_gates q c.args.left.now c.args.right.now c.args.c.now c.args.place.now c.requires.left c.requires.right is.gates c.requires.place);
    }

pub returns-in-Ok-clause-equivalent : goal.returns-in-Ok-clause-equivalent
returns-in-Ok-clause-equivalent c = λ q is equal.
    let written : c.in-Ok.out.items ≡ replaced c.args.c.now c.args.right.now c.args.place.now = search rules in
    subst (EquivalentProgramCircuits q c.args.c.now) (sym written) (replaced_equivalent q c.args.left.now c.args.right.now c.args.c.now c.args.place.now c.requires.left c.requires.right is.gates c.requires.place equal)
