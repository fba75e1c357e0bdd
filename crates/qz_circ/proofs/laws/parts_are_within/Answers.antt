use Rattle.std.proofs.Common.{◌-◌, length}
use Rattle.qz_circ.proofs.CircuitPlaces.{within-drop, within-take}
use Rattle.qz_circ.proofs.laws.parts_are_within.Goals as goal

pub returns-clause-first : goal.returns-clause-first
returns-clause-first _ b c w = within-drop b 1 c w

pub returns-clause-last : goal.returns-clause-last
returns-clause-last _ b c w = within-take b (length c - 1) c w
