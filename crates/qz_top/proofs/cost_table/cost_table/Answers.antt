use Rattle.std.proofs.Common.{◌==◌, ap}
use Rattle.std.specs.List.{slice_split}
use Rattle.qz_top.specs.CostTables.{table_of, with_items}
use Rattle.qz_top.proofs.cost_table.cost_table.Goals as goal

pub loop-rest-init : goal.loop-rest-init
unfolding table_of
loop-rest-init c = ap (λ table. with_items table (slice_split (λ b. b == 44) c.args.word.now)) c.none-table.ensures
