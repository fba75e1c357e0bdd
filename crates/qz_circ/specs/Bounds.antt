-- What limits are refused for, and how many gates and circuits are within them.
use Rattle.std.specs.Prelude.{◌≡◌, ℕ, ◌^◌, ◌==◌, nat_lt, ◌||◌, Bool, not, length, if◌then◌else◌, Option, Some, None}
use Rattle.qz_circ.specs.declared.fault.LimitFault.{LimitFault}
use Rattle.qz_circ.specs.declared.fault.LimitFault.TheVariants.{Qubits, Gates, Params, Grain, Circuits}
use Rattle.qz_circ.specs.Circuit.{Limits, gates_of}

-- the most circuits of the greatest length that limits may allow
abbrev pub most_circuits : ℕ
most_circuits = 8000000

-- how many gates are within the limits
unfoldable pub gate_count : Limits → ℕ
gate_count b = length (gates_of b)

-- the constants may be the multiples of π/4, π/8 or π/16
abbrev pub is_grain : ℕ → Bool
is_grain grain = (grain == 4) || (grain == 8) || (grain == 16)

-- the first of these that applies: q isn't 1, 2 or 3; n is over 6; m is over 3; the grain isn't allowed; there are too many circuits
-- of n gates
unfoldable pub refusal_where : Bool → Limits → Option LimitFault
refusal_where allowed b =
    if nat_lt b.q 1 || nat_lt 3 b.q then Some Qubits
    else if nat_lt 6 b.n then Some Gates
    else if nat_lt 3 b.m then Some Params
    else if not allowed then Some Grain
    else if nat_lt most_circuits (gate_count b ^ b.n) then Some Circuits
    else None

-- why limits are refused, where they are
unfoldable pub refusal : Limits → Option LimitFault
refusal b = refusal_where (is_grain b.grain) b

-- limits that aren't refused
abbrev pub IsLawful : Limits → Type 0
IsLawful b = refusal b ≡ None
