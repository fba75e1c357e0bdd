use Rattle.std.proofs.Common.{refl}
use Rattle.qz_circ.specs.Places.{sidings, is_apart, are_apart, is_connected, is_usable, places}
use Rattle.qz_rewrite.proofs.worked_values.unconnected_sides_have_no_places.Goals as goal

pub returns : goal.returns
unfolding sidings is_apart are_apart is_connected is_usable places
returns _ = λ c. refl
