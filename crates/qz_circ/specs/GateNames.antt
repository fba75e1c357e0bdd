-- The gates that a program may name, and what each is read as. The names are those of OpenQASM 2.0's qelib1.inc, but that
-- `p` is of later versions and `swap` this project's own. Each is the gate of its name up to a global phase.
use Rattle.std.specs.Prelude.{ℕ, zero, suc, Bool, true, false, if◌then◌else◌, List, [], ◌∷◌, codes, Option, Some, None}
use Rattle.std.specs.Str.{bytes_eq}
use Rattle.qz_circ.specs.declared.circuit.Inst.{Inst}
use Rattle.qz_circ.specs.declared.circuit.Inst.TheVariants.{H, X, Cx, Rz}
use Rattle.qz_circ.specs.declared.gate_name.GateName.{GateName}
use Rattle.qz_circ.specs.declared.gate_name.GateName.TheVariants as name

-- the gate that a word names
unfoldable pub gate_named : List ℕ → Option GateName
gate_named word =
    if bytes_eq word (codes "h") then Some name.H
    else if bytes_eq word (codes "x") then Some name.X
    else if bytes_eq word (codes "y") then Some name.Y
    else if bytes_eq word (codes "z") then Some name.Z
    else if bytes_eq word (codes "s") then Some name.S
    else if bytes_eq word (codes "sdg") then Some name.Sdg
    else if bytes_eq word (codes "t") then Some name.T
    else if bytes_eq word (codes "tdg") then Some name.Tdg
    else if bytes_eq word (codes "id") then Some name.Id
    else if bytes_eq word (codes "rz") then Some name.Rotation
    else if bytes_eq word (codes "u1") then Some name.Rotation
    else if bytes_eq word (codes "p") then Some name.Rotation
    else if bytes_eq word (codes "cx") then Some name.Cx
    else if bytes_eq word (codes "cz") then Some name.Cz
    else if bytes_eq word (codes "swap") then Some name.Swap
    else if bytes_eq word (codes "ccx") then Some name.Ccx
    else None

-- the gate takes an angle
abbrev pub takes_angle : GateName → Bool
takes_angle name.Rotation = true
takes_angle _ = false

-- how many operands the gate has after the first one
abbrev pub more_operands : GateName → ℕ
more_operands name.Cx = 1
more_operands name.Cz = 1
more_operands name.Swap = 1
more_operands name.Ccx = 2
more_operands _ = 0

-- the rotation of a qubit by k/256 of pi, which is no gate where k is 0
abbrev pub rotation : ℕ → ℕ → List Inst
rotation a zero = []
rotation a (suc k) = Rz a (suc k) ∷ []

-- the gate with both of its controls first, in Nam's gates
abbrev pub toffoli : ℕ → ℕ → ℕ → List Inst
toffoli a b c =
    H c ∷ Cx b c ∷ Rz c 448 ∷ Cx a c ∷ Rz c 64 ∷ Cx b c ∷ Rz c 448 ∷ Cx a c ∷ Rz b 64 ∷ Rz c 64 ∷ H c ∷
    Cx a b ∷ Rz a 64 ∷ Rz b 448 ∷ Cx a b ∷ []

-- what a gate with the angle of number k is read as, on the qubits a, b and c of its operands
unfoldable pub read_as : GateName → ℕ → ℕ → ℕ → ℕ → List Inst
read_as name.H k a b c = H a ∷ []
read_as name.X k a b c = X a ∷ []
read_as name.Y k a b c = Rz a 256 ∷ X a ∷ []
read_as name.Z k a b c = Rz a 256 ∷ []
read_as name.S k a b c = Rz a 128 ∷ []
read_as name.Sdg k a b c = Rz a 384 ∷ []
read_as name.T k a b c = Rz a 64 ∷ []
read_as name.Tdg k a b c = Rz a 448 ∷ []
read_as name.Id k a b c = []
read_as name.Rotation k a b c = rotation a k
read_as name.Cx k a b c = Cx a b ∷ []
read_as name.Cz k a b c = H b ∷ Cx a b ∷ H b ∷ []
read_as name.Swap k a b c = Cx a b ∷ Cx b a ∷ Cx a b ∷ []
read_as name.Ccx k a b c = toffoli a b c
