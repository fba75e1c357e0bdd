use Rattle.std.proofs.Common.{◌≡◌, ◌==◌, ◌+◌, [], length}
use Rattle.std.specs.List.{slice_split}
use Rattle.std.specs.Option.{option_map_or}
use Rattle.qz_top.specs.CostTables.{table_of, with_items}
use Rattle.qz_top.proofs.cost_table.cost_table.Given as goal

-- what the rest of the items make of the table is what all make of none
abbrev pub invariant-loop-rest : goal.invariant-loop-rest
invariant-loop-rest l = with_items l.table (option_map_or (λ text. slice_split (λ b. b == 44) text.now) l.rest []) ≡ table_of l.word

abbrev pub decreases-loop-rest : goal.decreases-loop-rest
decreases-loop-rest l = option_map_or (λ text. length text.now + 1) l.rest 0
