use Rattle.qz_rulefile.proofs.Members.{member_exact}
use Rattle.qz_rulefile.proofs.gate_texts.GateTexts.member.Goals as goal

pub returns-clause-listed : goal.returns-clause-listed
returns-clause-listed c = ((member_exact c.args.self.now.bounds c.args.self.now.lawful).takes c.args.bytes.now c.in_ok-r.r c.in_ok-r.rest.now c.in_ok-r.ensures).1.listed
