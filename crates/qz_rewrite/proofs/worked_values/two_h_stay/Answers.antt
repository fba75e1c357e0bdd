use Rattle.std.proofs.Common.{refl}
use Rattle.qz_circ.specs.Gathering.{marked, selected, gathers}
use Rattle.qz_circ.specs.Places.{sidings, is_apart, are_apart, is_connected, is_usable, bind_gates, match_at, rising_lists, all_places, places}
use Rattle.qz_rewrite.proofs.worked_values.two_h_stay.Goals as goal

pub returns : goal.returns
unfolding marked selected gathers sidings is_apart are_apart is_connected is_usable bind_gates match_at rising_lists all_places places
returns _ = refl
