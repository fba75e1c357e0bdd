use Rattle.std.proofs.Common.{◌∙◌, refl}
use Rattle.qz_search.proofs.table.take_twin.Goals as goal

pub returns : goal.returns
returns c =
    record {
      side = c.in_ok-side.side;
      left_is = c.ends_with.ensures c.if-not-ends_with.false c.pop.new.self.items c.in_ok-side.side (c.deref.ensures.value ∙ c.in_ok-side.ensures.items);
      rights_are = refl;
      parts = c.in_ok-side.ensures.items;
    }
