-- Circuits that have numbers keep them.
use Rattle.std.proofs.Common.{◌≡◌, ℕ, zero, suc, ◌<◌, List, [], ◌∷◌, ◌++◌, length, Some, append-nil, append_assoc, refl, sym, ap, ◌∙◌, arith}
use Rattle.std.specs.List.{slice_get}
use Rattle.std.proofs.lemmas.List.{length-append}
use Rattle.qz_circ.specs.Circuit.{Circuit}
use Rattle.qz_circ.specs.Replacement.{numbered}
use Rattle.qz_search.specs.Circuits.{IsLonger, HasNumber}

pub same_long : (circuits : List Circuit) → IsLonger circuits circuits
same_long circuits = record { more = []; parts = sym (append-nil circuits) }

pub longer_still : (a b c : List Circuit) → IsLonger a b → IsLonger b c → IsLonger a c
longer_still a b c h g =
    record { more = h.more ++ g.more; parts = g.parts ∙ ap (λ xs. xs ++ g.more) h.parts ∙ append_assoc a h.more g.more }

pub longer_length : (old new : List Circuit) (k : ℕ) → IsLonger old new → k < length old → k < length new
longer_length old new k h less = omega (arith, ap length h.parts, length-append old h.more)

pub number_kept : (old new : List Circuit) (k : ℕ) → IsLonger old new → k < length old → numbered new k ≡ numbered old k
number_kept old new k h less = ap (λ cs. numbered cs k) h.parts ∙ by old k less
  where
    by : (xs : List Circuit) (i : ℕ) → i < length xs → numbered (xs ++ h.more) i ≡ numbered xs i
    by [] i l = absurd (omega arith)
    by (x ∷ xs) zero l = refl
    by (x ∷ xs) (suc i) l = by xs i (omega arith)

got_within : (circuits : List Circuit) (k : ℕ) (c : Circuit) → slice_get circuits k ≡ Some c → (k < length circuits) × (numbered circuits k ≡ c)
got_within [] k c e = cc
got_within (x ∷ xs) zero c e = let same : x ≡ c = cc in (omega arith, same)
got_within (x ∷ xs) (suc k) c e = let rest = got_within xs k c e in (omega (arith, rest.0), rest.1)

pub known_number : (circuits : List Circuit) (k : ℕ) (c : Circuit) → slice_get circuits k ≡ Some c → HasNumber circuits circuits k c
known_number circuits k c e =
    let at = got_within circuits k c e in record { longer = same_long circuits; within = at.0; is = at.1 }
