-- What is told after several pieces.
use Rattle.std.proofs.Common.{◌≡◌, ℕ, ◌+◌, List, ◌++◌, take, drop, Option, Some, None, refl, sym, ap, ◌∙◌, append_assoc}
use Rattle.std.proofs.Math.Seq.{take-add}
use Rattle.std.specs.Io.KnownBytes.{append_known, prepend_known}

-- some bytes, and then some more
append_known-append_known : (o : Option (List ℕ)) (xs ys : List ℕ) → append_known (append_known o xs) ys ≡ append_known o (xs ++ ys)
append_known-append_known None xs ys = refl
append_known-append_known (Some old) xs ys = ap Some (append_assoc old xs ys)

-- a part of the text, and then the next part of it
pub append_known-parts : (o p q : Option (List ℕ)) (text : List ℕ) (done k : ℕ) → p ≡ append_known o (take done text) → q ≡ append_known p (take k (drop done text)) → q ≡ append_known o (take (done + k) text)
append_known-parts o p q text done k first second =
    second ∙ ap (λ r. append_known r (take k (drop done text))) first ∙ append_known-append_known o (take done text) (take k (drop done text)) ∙ ap (append_known o) (sym (take-add done k text))

-- some bytes at the front, and before them some more
pub prepend_known-prepend_known : (o : Option (List ℕ)) (xs ys : List ℕ) → prepend_known xs (prepend_known ys o) ≡ prepend_known (xs ++ ys) o
prepend_known-prepend_known None xs ys = refl
prepend_known-prepend_known (Some left) xs ys = ap Some (sym (append_assoc xs ys left))
