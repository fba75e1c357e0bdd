use Rattle.std.proofs.Common.{ap, arith}
use Rattle.qz_circ.proofs.GateNumbers.{angle_number, angle_place}
use Rattle.qz_circ.proofs.ranks.angle_place.Goals as goal

pub returns-in-Const-clause-place : goal.returns-in-Const-clause-place
returns-in-Const-clause-place c k h = omega (arith, angle_place c.args.m c.args.grain k c.args.angle c.requires.params c.requires.grain h, ap (angle_number c.args.m c.args.grain) c.in-Const.is)

pub returns-in-Plus-clause-place : goal.returns-in-Plus-clause-place
returns-in-Plus-clause-place c k h = omega (arith, angle_place c.args.m c.args.grain k c.args.angle c.requires.params c.requires.grain h, ap (angle_number c.args.m c.args.grain) c.in-Plus.is)

pub returns-in-Minus-clause-place : goal.returns-in-Minus-clause-place
returns-in-Minus-clause-place c k h = omega (arith, angle_place c.args.m c.args.grain k c.args.angle c.requires.params c.requires.grain h, ap (angle_number c.args.m c.args.grain) c.in-Minus.is)

pub returns-in-Sum-clause-place : goal.returns-in-Sum-clause-place
returns-in-Sum-clause-place c k h = omega (arith, angle_place c.args.m c.args.grain k c.args.angle c.requires.params c.requires.grain h, ap (angle_number c.args.m c.args.grain) c.in-Sum.is)
