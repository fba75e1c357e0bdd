-- Where an exact reader finds a fault is its place in the file.
use Rattle.std.proofs.Common.{◌≡◌, ℕ, zero, suc, ◌+◌, ◌-◌, ◌≤◌, ◌<◌, List, [], ◌∷◌, ◌++◌, length, take, Ok, Err, refl, sym, ap, subst, ◌∙◌, inl, inr, append_assoc, arith, length-append}
use Rattle.std.proofs.lemmas.Bool.{cases_lt}
use Rattle.std.proofs.lemmas.List.{append-nil, take_at}
use Rattle.qz_circ.specs.FaultPlaces.{Begins, IsLongest, IsFaultPlace, IsFaultPlaceWithin}
use Rattle.qz_rulefile.specs.Reading.{Read}
use Rattle.qz_rulefile.proofs.Exact.{Language, Faults, Exact, ok_parts}

-- a longer front of the file goes on behind a shorter one
longer_front : (seen left : List ℕ) (n : ℕ) → n ≤ length (seen ++ left) → length seen < n → (b : ℕ) × (more : List ℕ) × (rest : List ℕ) × (left ≡ b ∷ rest) × (take n (seen ++ left) ≡ (seen ++ b ∷ []) ++ more)
longer_front [] [] n fits lt = absurd (omega (arith, fits))
longer_front [] (b ∷ left) zero fits lt = absurd (omega arith)
longer_front [] (b ∷ left) (suc n) fits lt = (b, take n left, left, refl, refl)
longer_front (s ∷ seen) left zero fits lt = absurd (omega arith)
longer_front (s ∷ seen) left (suc n) fits lt =
    let t = longer_front seen left n (omega arith) (omega arith) in
    (t.0, t.1, t.2, t.3, ap (λ (z : List ℕ). s ∷ z) t.4)

-- the front that a reader saw is the longest
longest_seen : {X : Type 0} (L : Language X) (file : List ℕ) (n : ℕ) → Faults L file n → IsLongest L file (length file - n)
longest_seen L file n f =
    let whole : length file ≡ length f.seen + length f.left = ap length f.parts ∙ length-append f.seen f.left in
    let place : length file - n ≡ length f.seen = omega (arith, f.count) in
    let front : take (length f.seen) file ≡ f.seen = ap (take (length f.seen)) f.parts ∙ take_at f.seen f.left (length f.seen) refl in
    rw place (record {
      fits = omega arith;
      begins = subst (Begins L) (sym front) f.begins;
      longest = λ k fits begun.
          elim (cases_lt (length f.seen) k) [
            | inl lt ↦
                let t = longer_front f.seen f.left k (omega (arith, length-append f.seen f.left)) lt in
                let here : take k file ≡ (f.seen ++ t.0 ∷ []) ++ t.1 = ap (take k) f.parts ∙ t.4 in
                let text : L begun.0 ((f.seen ++ t.0 ∷ []) ++ (t.1 ++ begun.1)) = subst (L begun.0) (ap (λ (z : List ℕ). z ++ begun.1) here ∙ append_assoc (f.seen ++ t.0 ∷ []) t.1 begun.1) begun.2 in
                absurd (f.stops t.0 t.2 t.3 (begun.0, t.1 ++ begun.1, text))
            | inr le ↦ le
          ];
    })

-- a fault of the reader is that of the file
pub place_of_fault : {X : Type 0} (L : Language X) (r : List ℕ → Read X) → Exact L r → (file : List ℕ) (n : ℕ) → r file ≡ Err n → IsFaultPlace L file (length file - n)
place_of_fault L r e file n h = (
  longest_seen L file n (e.faults file n h),
  λ x text.
      let read : r file ≡ Ok (x, []) = ap r (sym (append-nil file)) ∙ e.again x file [] text in
      absurd cc,
)

pub place_within : {X : Type 0} (L : Language X) (r : List ℕ → Read X) → Exact L r → (file : List ℕ) (n : ℕ) → r file ≡ Err n → IsFaultPlaceWithin L file (length file - n)
place_within L r e file n h = (
  longest_seen L file n (e.faults file n h),
  λ x text rest here parts.
      let read : r file ≡ Ok (x, rest) = ap r parts ∙ e.again x text rest here in
      absurd cc,
)

pub left_within : {X : Type 0} (L : Language X) (r : List ℕ → Read X) → Exact L r → (file : List ℕ) (n : ℕ) → r file ≡ Err n → n ≤ length file
left_within L r e file n h =
    let f = e.faults file n h in
    omega (arith, ap length f.parts, length-append f.seen f.left, f.count)

-- what is left behind a whole text is a fault there
rest_faults : {X : Type 0} (L : Language X) (r : List ℕ → Read X) → Exact L r → (file : List ℕ) (x : X) (rest : List ℕ) → r file ≡ Ok (x, rest) → Faults L file (length rest)
rest_faults L r e file x rest h =
    let t = e.takes file x rest h in
    record {
      seen = t.0;
      left = rest;
      parts = t.2;
      count = refl;
      begins = (x, [], subst (L x) (sym (append-nil t.0)) t.1);
      stops = λ b more split begun.
          let longer : (t.0 ++ b ∷ []) ++ begun.1 ≡ t.0 ++ (b ∷ begun.1) = append_assoc t.0 (b ∷ []) begun.1 in
          let short : r (t.0 ++ (b ∷ begun.1)) ≡ Ok (x, b ∷ begun.1) = e.again x t.0 (b ∷ begun.1) t.1 in
          let all : r (((t.0 ++ b ∷ []) ++ begun.1) ++ []) ≡ Ok (begun.0, []) = e.again begun.0 ((t.0 ++ b ∷ []) ++ begun.1) [] begun.2 in
          let same = ok_parts x begun.0 (b ∷ begun.1) [] (sym short ∙ ap r (sym longer ∙ sym (append-nil ((t.0 ++ b ∷ []) ++ begun.1))) ∙ all) in
          absurd (some_none b begun.1 same.1);
    }
  where
    some_none : (b : ℕ) (more : List ℕ) → b ∷ more ≡ [] → ⊥
    some_none b more e = cc

pub place_of_rest : {X : Type 0} (L : Language X) (r : List ℕ → Read X) → Exact L r → (file : List ℕ) (x : X) (rest : List ℕ) → 0 < length rest → r file ≡ Ok (x, rest) → IsFaultPlace L file (length file - length rest)
place_of_rest L r e file x rest some h = (
  longest_seen L file (length rest) (rest_faults L r e file x rest h),
  λ y text.
      let read : r file ≡ Ok (y, []) = ap r (sym (append-nil file)) ∙ e.again y file [] text in
      let same = ok_parts x y rest [] (sym h ∙ read) in
      let none : length rest ≡ 0 = ap length same.1 in
      absurd (omega arith),
)

-- a file that is read to its end is a text
pub whole_text : {X : Type 0} (L : Language X) (r : List ℕ → Read X) → Exact L r → (file : List ℕ) (x : X) (rest : List ℕ) → length rest ≡ 0 → r file ≡ Ok (x, rest) → L x file
whole_text L r e file x rest none h =
    let t = e.takes file x rest h in
    subst (L x) (sym (t.2 ∙ ap (λ (z : List ℕ). t.0 ++ z) (empty rest none) ∙ append-nil t.0)) t.1
  where
    empty : (xs : List ℕ) → length xs ≡ 0 → xs ≡ []
    empty [] e = refl
    empty (x ∷ xs) e = absurd (omega arith)

-- at most one value has the front of a file as its text
pub one_value : {X : Type 0} (L : Language X) (r : List ℕ → Read X) → Exact L r → (x y : X) (a b rest more : List ℕ) → L x a → L y b → a ++ rest ≡ b ++ more → (x ≡ y) × (rest ≡ more)
one_value L r e x y a b rest more la lb same =
    ok_parts x y rest more (sym (e.again x a rest la) ∙ ap r same ∙ e.again y b more lb)

-- the same places for values of another kind
pub place_as : {X Y : Type 0} (L : Language X) (M : Language Y) → ((x : X) (text : List ℕ) → L x text → (y : Y) × M y text) → ((y : Y) (text : List ℕ) → M y text → (x : X) × L x text) → (file : List ℕ) (n : ℕ) → IsFaultPlace L file n → IsFaultPlace M file n
place_as L M to from file n p = (
  record {
    fits = p.0.fits;
    begins = let b = p.0.begins in let y = to b.0 (take n file ++ b.1) b.2 in (y.0, b.1, y.1);
    longest = λ k fits begun. let x = from begun.0 (take k file ++ begun.1) begun.2 in p.0.longest k fits (x.0, begun.1, x.1);
  },
  λ y text. let x = from y file text in p.1 x.0 x.1,
)

-- at most one place is that of a file
pub one_place : {X : Type 0} (L : Language X) (file : List ℕ) (n k : ℕ) → IsLongest L file n → IsLongest L file k → n ≡ k
one_place L file n k p q = let a = q.longest n p.fits p.begins in let b = p.longest k q.fits q.begins in omega arith
