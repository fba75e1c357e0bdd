use Rattle.std.proofs.Common.{◌≡◌, ◌-◌, ◌%◌, refl, sym, ◌∙◌}
use Rattle.std.specs.Prelude.{Some, slice_get}
use Rattle.qz_circ.specs.Circuit.{gates_of}
use Rattle.qz_circ.proofs.RankLemmas.{some_gate}
use Rattle.qz_repgen.proofs.LastGates.{number_of_last, last_acts, last_has, with_last}
use Rattle.qz_repgen.proofs.fingerprints.last_gate.Goals as goal

pub nonzero_rem-number : goal.nonzero_rem-number
nonzero_rem-number c = some_gate c.args.b c.gates.ensures.lawful c.gates.result c.gates.ensures.value

-- the gate has a number
pub unwrap-requires : goal.unwrap-requires
unwrap-requires c = c.op_of.ensures.within.1 (number_of_last c.args.b c.gates.ensures.lawful c.args.r c.gates.result c.gates.ensures.value c.requires.some c.requires.listed)

pub returns : goal.returns
returns c =
    let is : slice_get (gates_of c.args.b) ((c.args.r - 1) % c.gates.result) ≡ Some c.unwrap.result = sym c.op_of.ensures.gate ∙ c.unwrap.ensures in
    record {
      gate = last_acts c.args.b c.gates.ensures.lawful c.args.r c.gates.result c.gates.ensures.value c.requires.some c.requires.listed c.unwrap.result is;
      parameters = last_has c.args.b c.gates.ensures.lawful c.args.r c.gates.result c.gates.ensures.value c.requires.some c.requires.listed c.unwrap.result is;
      circuit = with_last c.args.b c.gates.ensures.lawful c.args.r c.gates.result c.gates.ensures.value c.requires.some c.requires.listed c.unwrap.result is _ refl;
    }
