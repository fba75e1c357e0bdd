-- Values of the code as those of the definitions.
use Rattle.std.specs.Prelude.{Result, Ok, Err}
use Rattle.qz_circ.specs.declared.fault.AngleFault.{AngleFault}
use Rattle.qz_circ.specs.Angle as spec
use Rattle.qz_circ.specs.Angle.{negative_if, Meaning}
use Rattle.qz_lex.specs.declared.fraction.Fraction.{Fraction}

-- the fraction without its form in memory
abbrev pub view : Fraction → spec.Value
view a = record { numerator = negative_if a.is_negative a.size; denominator = a.denominator; is_angle = a.is_angle }

-- what was computed, as a meaning
abbrev pub meaning_of : Result Fraction AngleFault → Meaning
meaning_of (Ok a) = Ok (view a)
meaning_of (Err e) = Err e
