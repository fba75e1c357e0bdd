use Rattle.std.proofs.Common.{refl}
use Rattle.qz_circ.specs.Gathering.{marked, selected, gathers, before_of, after_of, replaced_at}
use Rattle.qz_circ.specs.Instances.{instance_of}
use Rattle.qz_circ.specs.Places.{sidings, is_apart, are_apart, is_connected, is_usable, bind_gates, match_at, rising_lists, all_places, places}
use Rattle.qz_circ.specs.Replacement.{children_by}
use Rattle.qz_rewrite.proofs.worked_values.two_h_are_taken_out.Goals as goal

pub returns-clause-places : goal.returns-clause-places
unfolding marked selected gathers sidings is_apart are_apart is_connected is_usable bind_gates match_at rising_lists all_places places
returns-clause-places _ = refl

pub returns-clause-children : goal.returns-clause-children
unfolding marked selected gathers before_of after_of replaced_at instance_of sidings is_apart are_apart is_connected is_usable bind_gates match_at rising_lists all_places places children_by
returns-clause-children _ = refl
