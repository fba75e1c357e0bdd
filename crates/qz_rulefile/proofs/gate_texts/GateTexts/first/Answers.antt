use Rattle.std.proofs.Common.{rules, ◌≡◌, Ok}
use Rattle.qz_circ.specs.Bounds.{IsLawful}
use Rattle.qz_rulefile.specs.Reading.{one_of_at, first_texts}
use Rattle.qz_rulefile.proofs.GateTables.{first_number}
use Rattle.qz_rulefile.proofs.gate_texts.GateTexts.first.Goals as goal

pub returns-clause-gate : goal.returns-clause-gate
returns-clause-gate c =
    let lawful : IsLawful c.args.self.now.bounds = c.args.self.now.lawful in
    let read : one_of_at (first_texts c.args.self.now.bounds) c.args.bytes.now ≡ Ok (c.in_ok-j.j, c.in_ok-j.rest.now) = search rules in
    λ some. first_number c.args.self.now.bounds lawful c.args.bytes.now c.in_ok-j.j c.in_ok-j.rest.now read some
