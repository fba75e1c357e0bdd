-- What is told of a text that is written whole, or not all of it.
use Rattle.std.proofs.Common.{◌≡◌, ℕ, List, length, Option, Result, Ok, Err, OnOk, OnErr, refl, sym, ap, ◌∙◌, take_all, arith, ◌⊎◌, inl, inr}
use Rattle.std.specs.Io.KnownBytes.{append_known}
use Rattle.qz_io.specs.declared.fault.IoFault.{IoFault}
use Rattle.qz_io.specs.declared.fault.IoFault.TheVariants as fault
use Rattle.qz_io.specs.Told.{HasProperPart}
use Rattle.qz_top.specs.Run.{Tells}

-- the whole text is told, unless there is a cause
pub told_text : (text : List ℕ) (o q : Option (List ℕ)) (X Y : Type 0) (result : Result (Unit {0}) IoFault) → OnOk result (q ≡ append_known o text) → OnErr result (HasProperPart o text q) →
    (result ≡ Err fault.Failed → X) → (result ≡ Err fault.Memory → Y) → Tells text o q (X ⊎ Y)
told_text text o q X Y (Ok u) whole part failed wanted = record { part = (length text, whole ∙ ap (append_known o) (sym (take_all (length text) text (omega arith)))); whole = λ calm. whole }
told_text text o q X Y (Err fault.Failed) whole part failed wanted = record { part = (part.0, part.2); whole = λ calm. absurd (calm (inl (failed refl))) }
told_text text o q X Y (Err fault.Memory) whole part failed wanted = record { part = (part.0, part.2); whole = λ calm. absurd (calm (inr (wanted refl))) }
