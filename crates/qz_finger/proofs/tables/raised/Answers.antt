use Rattle.std.proofs.Common.{◌∙◌, arith}
use Rattle.qz_finger.specs.Modulo.{modulus}
use Rattle.qz_finger.proofs.Powers.{squared_more, squared_end}
use Rattle.qz_finger.proofs.Lists.{rest_below}
use Rattle.qz_finger.proofs.tables.raised.Goals as goal

pub loop-rest-preserved : goal.loop-rest-preserved
loop-rest-preserved c = record {
  below = rest_below _ _ c.multiply_where-power.ensures;
  power = squared_more modulus c.loop-rest.power c.loop-rest.square c.loop-rest.rest c.multiply_where-power.result c.multiply-square.result c.multiply_where-power.ensures c.multiply-square.ensures ∙ c.loop-rest.invariant.power;
}

pub returns : goal.returns
returns c = squared_end modulus c.loop-rest.power c.loop-rest.square c.loop-rest.rest _ c.loop-rest.invariant.below (omega arith) c.loop-rest.invariant.power
