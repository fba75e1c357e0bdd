-- Lists in the one form: their parts, their joins, and what they are mapped to.
use Rattle.std.proofs.Common.{◌≡◌, zero, suc, ◌<◌, ◌≢◌, [], ◌∷◌, ◌++◌, map, get_or, pos, arith}
use Rattle.std.specs.List.{All, AllPairs}
use Rattle.std.proofs.lemmas.List.Elements.{All-nil, All-cons, All-head, All-tail, All-append, All-weaker}
use Rattle.qz_ring.specs.Exponent.{ExponentBefore}
use Rattle.qz_ring.specs.Terms.{Term, Terms, IsCanonical}
use Rattle.qz_ring.proofs.Order.{ExponentBefore-trans}

-- the exponent of t comes before that of u
abbrev pub TermBefore : Term → Term → Type 0
TermBefore t u = ExponentBefore t.exponent u.exponent

-- the term may stand in a list in the one form
pub record IsNormal (t : Term) : Type 0 where
  pub half_turn : t.exponent.turn < 256
  pub nonzero : t.coefficient ≢ pos 0

-- what holds of a joined list holds of its front
All-front : (P : Term → Type 0) (xs ys : Terms) → All P (xs ++ ys) → All P xs
All-front P [] ys all = All-nil P
All-front P (x ∷ xs) ys all = All-cons P x xs (All-head P x (xs ++ ys) all) (All-front P xs ys (All-tail P x (xs ++ ys) all))

-- and of its back
All-back : (P : Term → Type 0) (xs ys : Terms) → All P (xs ++ ys) → All P ys
All-back P [] ys all = all
All-back P (x ∷ xs) ys all = All-back P xs ys (All-tail P x (xs ++ ys) all)

-- the empty list is in the one form
pub IsCanonical-nil : IsCanonical []
IsCanonical-nil = record { half_turns = All-nil (λ t. t.exponent.turn < 256); nonzero = All-nil (λ t. t.coefficient ≢ pos 0); rising = λ i j d lt in_range. absurd (omega arith) }

-- a normal term may stand before a list whose terms come after it
pub IsCanonical-cons : (t : Term) (ts : Terms) → IsNormal t → All (TermBefore t) ts → IsCanonical ts → IsCanonical (t ∷ ts)
IsCanonical-cons t ts normal after canonical = record {
  half_turns = All-cons (λ t. t.exponent.turn < 256) t ts normal.half_turn canonical.half_turns;
  nonzero = All-cons (λ t. t.coefficient ≢ pos 0) t ts normal.nonzero canonical.nonzero;
  rising = rises;
}
  where
    rises : AllPairs TermBefore (t ∷ ts)
    rises zero zero d lt in_range = absurd (omega arith)
    rises zero (suc j) d lt in_range = after j d (omega arith)
    rises (suc i) zero d lt in_range = absurd (omega arith)
    rises (suc i) (suc j) d lt in_range = canonical.rising i j d (omega arith) (omega arith)

-- the first term is normal
pub head_normal : (t : Term) (ts : Terms) → IsCanonical (t ∷ ts) → IsNormal t
head_normal t ts canonical = record {
  half_turn = All-head (λ t. t.exponent.turn < 256) t ts canonical.half_turns;
  nonzero = All-head (λ t. t.coefficient ≢ pos 0) t ts canonical.nonzero;
}

-- the other terms come after it
pub head_before : (t : Term) (ts : Terms) → IsCanonical (t ∷ ts) → All (TermBefore t) ts
head_before t ts canonical k d in_range = canonical.rising 0 (suc k) d (omega arith) (omega arith)

-- the rest is in the one form
pub IsCanonical-tail : (t : Term) (ts : Terms) → IsCanonical (t ∷ ts) → IsCanonical ts
IsCanonical-tail t ts canonical = record {
  half_turns = All-tail (λ t. t.exponent.turn < 256) t ts canonical.half_turns;
  nonzero = All-tail (λ t. t.coefficient ≢ pos 0) t ts canonical.nonzero;
  rising = λ i j d lt in_range. canonical.rising (suc i) (suc j) d (omega arith) (omega arith);
}

-- both lists are in the one form, and the terms of the first come before those of the second
pub record IsJoin (xs ys : Terms) : Type 0 where
  pub front : IsCanonical xs
  pub back : IsCanonical ys
  pub between : All (λ x. All (TermBefore x) ys) xs

-- a joined list in the one form can be taken apart
pub IsCanonical-split : (xs ys : Terms) → IsCanonical (xs ++ ys) → IsJoin xs ys
IsCanonical-split [] ys canonical = record { front = IsCanonical-nil; back = canonical; between = All-nil (λ x. All (TermBefore x) ys) }
IsCanonical-split (x ∷ xs) ys canonical =
    let rest = IsCanonical-split xs ys (IsCanonical-tail x (xs ++ ys) canonical) in
    let after = head_before x (xs ++ ys) canonical in
    record {
      front = IsCanonical-cons x xs (head_normal x (xs ++ ys) canonical) (All-front (TermBefore x) xs ys after) rest.front;
      back = rest.back;
      between = All-cons (λ x. All (TermBefore x) ys) x xs (All-back (TermBefore x) xs ys after) rest.between;
    }

-- and put together again
pub IsCanonical-join : (xs ys : Terms) → IsJoin xs ys → IsCanonical (xs ++ ys)
IsCanonical-join [] ys join = join.back
IsCanonical-join (x ∷ xs) ys join =
    let rest : IsJoin xs ys = record { front = IsCanonical-tail x xs join.front; back = join.back; between = All-tail (λ x. All (TermBefore x) ys) x xs join.between } in
    IsCanonical-cons x (xs ++ ys) (head_normal x xs join.front) (All-append (TermBefore x) xs ys (head_before x xs join.front) (All-head (λ x. All (TermBefore x) ys) x xs join.between)) (IsCanonical-join xs ys rest)

-- a term that comes before the rest of another list may stand before it
pub canonical_before : (out xs ys : Terms) (x y : Term) → IsCanonical (out ++ x ∷ xs) → IsCanonical (out ++ y ∷ ys) → TermBefore x y → IsCanonical (out ++ x ∷ (y ∷ ys))
canonical_before out xs ys x y first second before =
    let one = IsCanonical-split out (x ∷ xs) first in
    let two = IsCanonical-split out (y ∷ ys) second in
    let later = All-weaker (TermBefore y) (TermBefore x) (λ z after. ExponentBefore-trans x.exponent y.exponent z.exponent before after) ys (head_before y ys two.back) in
    IsCanonical-join out (x ∷ (y ∷ ys)) (record {
      front = one.front;
      back = IsCanonical-cons x (y ∷ ys) (head_normal x xs one.back) (All-cons (TermBefore x) y ys before later) two.back;
      between = λ k d in_range. All-cons (TermBefore (get_or out k d)) x (y ∷ ys) (All-head (TermBefore (get_or out k d)) x xs (one.between k d in_range)) (two.between k d in_range);
    })

-- another coefficient than 0 may stand in a term's place
pub canonical_replaced : (out xs : Terms) (x z : Term) → x.exponent ≡ z.exponent → z.coefficient ≢ pos 0 → IsCanonical (out ++ x ∷ xs) → IsCanonical (out ++ z ∷ xs)
canonical_replaced out xs x z same nonzero canonical =
    let one = IsCanonical-split out (x ∷ xs) canonical in
    let normal = head_normal x xs one.back in
    IsCanonical-join out (z ∷ xs) (record {
      front = one.front;
      back = IsCanonical-cons z xs (record { half_turn = rw (← same) normal.half_turn; nonzero = nonzero }) (rw (← same) (head_before x xs one.back)) (IsCanonical-tail x xs one.back);
      between = λ k d in_range. All-cons (TermBefore (get_or out k d)) z xs (rw (← same) (All-head (TermBefore (get_or out k d)) x xs (one.between k d in_range))) (All-tail (TermBefore (get_or out k d)) x xs (one.between k d in_range));
    })

-- a term may be left out
pub canonical_without : (out xs : Terms) (x : Term) → IsCanonical (out ++ x ∷ xs) → IsCanonical (out ++ xs)
canonical_without out xs x canonical =
    let one = IsCanonical-split out (x ∷ xs) canonical in
    IsCanonical-join out xs (record {
      front = one.front;
      back = IsCanonical-tail x xs one.back;
      between = λ k d in_range. All-tail (TermBefore (get_or out k d)) x xs (one.between k d in_range);
    })

-- a map that keeps terms normal and in order keeps the one form
pub record Keeps (P : Term → Type 0) (f : Term → Term) : Type 0 where
  pub normal : (t : Term) → P t → IsNormal t → IsNormal (f t)
  pub order : (t u : Term) → P t → P u → IsNormal t → IsNormal u → TermBefore t u → TermBefore (f t) (f u)

-- the images of later terms come after the image of the first
before_images : (P : Term → Type 0) (f : Term → Term) → Keeps P f → (t : Term) → P t → IsNormal t → (ts : Terms) → All P ts → IsCanonical ts → All (TermBefore t) ts → All (TermBefore (f t)) (map f ts)
before_images P f keeps t p normal [] all canonical after = All-nil (TermBefore (f t))
before_images P f keeps t p normal (u ∷ us) all canonical after =
    All-cons (TermBefore (f t)) (f u) (map f us)
    (keeps.order t u p (All-head P u us all) normal (head_normal u us canonical) (All-head (TermBefore t) u us after))
    (before_images P f keeps t p normal us (All-tail P u us all) (IsCanonical-tail u us canonical) (All-tail (TermBefore t) u us after))

-- such a map keeps the one form
pub IsCanonical-map : (P : Term → Type 0) (f : Term → Term) → Keeps P f → (ts : Terms) → All P ts → IsCanonical ts → IsCanonical (map f ts)
IsCanonical-map P f keeps [] all canonical = IsCanonical-nil
IsCanonical-map P f keeps (t ∷ ts) all canonical =
    let normal = head_normal t ts canonical in
    let p = All-head P t ts all in
    let tail = IsCanonical-tail t ts canonical in
    IsCanonical-cons (f t) (map f ts) (keeps.normal t p normal)
    (before_images P f keeps t p normal ts (All-tail P t ts all) tail (head_before t ts canonical))
    (IsCanonical-map P f keeps ts (All-tail P t ts all) tail)
