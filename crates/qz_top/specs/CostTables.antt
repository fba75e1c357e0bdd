-- Tables of what gates weigh, as words: items such as `cx=10`, joined by commas.
use Rattle.std.specs.Prelude.{ℕ, ◌==◌, List, [], ◌∷◌, codes, if◌then◌else◌, Option, Some, None}
use Rattle.std.specs.List.{slice_split, before_first, after_first}
use Rattle.std.specs.Option.{unwrap_or, option_map, option_and_then}
use Rattle.std.specs.Str.{bytes_eq}
use Rattle.qz_circ.specs.ProgramCircuits.{ones}
use Rattle.qz_top.specs.declared.cost_table.CostTable.{CostTable}
use Rattle.qz_top.specs.declared.cost_table.GateKind.{GateKind}
use Rattle.qz_top.specs.declared.cost_table.GateKind.TheVariants as kind
use Rattle.qz_top.specs.Numbers.{new_number}

-- the kind of gates that a word names
unfoldable pub kind_named : List ℕ → Option GateKind
kind_named word =
    if bytes_eq word (codes "h") then Some kind.H
    else if bytes_eq word (codes "x") then Some kind.X
    else if bytes_eq word (codes "cx") then Some kind.Cx
    else if bytes_eq word (codes "rz") then Some kind.Rz
    else None

-- no kind has a weight
abbrev pub no_weights : CostTable
no_weights = record { h = None; x = None; cx = None; rz = None }

-- the weight of a kind that has none yet is the number that this word is; none where it is no number, or the kind has one
abbrev pub with_weight : CostTable → GateKind → List ℕ → Option CostTable
with_weight table kind.H word = option_map (λ n. record table { h = Some n }) (new_number table.h word)
with_weight table kind.X word = option_map (λ n. record table { x = Some n }) (new_number table.x word)
with_weight table kind.Cx word = option_map (λ n. record table { cx = Some n }) (new_number table.cx word)
with_weight table kind.Rz word = option_map (λ n. record table { rz = Some n }) (new_number table.rz word)

-- an item more: the name of a kind up to the first sign =, and a number after it
abbrev pub with_item : CostTable → List ℕ → Option CostTable
with_item table item =
    option_and_then (λ kind. with_weight table kind (after_first (λ b. b == 61) item)) (kind_named (before_first (λ b. b == 61) item))

-- several items more, in turn
abbrev pub with_items : CostTable → List (List ℕ) → Option CostTable
with_items table [] = Some table
with_items table (item ∷ items) = option_and_then (λ more. with_items more items) (with_item table item)

-- the table that a word is, if it is one: its items stand between commas
unfoldable pub table_of : List ℕ → Option CostTable
table_of word = with_items no_weights (slice_split (λ b. b == 44) word)

-- the weights of H, X, CX and rotations by a table, or where there is none; a kind that isn't named weighs 1
abbrev pub weights_of : Option CostTable → List ℕ
weights_of None = ones
weights_of (Some table) = unwrap_or table.h 1 ∷ unwrap_or table.x 1 ∷ unwrap_or table.cx 1 ∷ unwrap_or table.rz 1 ∷ []
