-- Readers that are exact for a language: which values have which texts. Put together, they stay so.
use Rattle.std.proofs.Common.{◌≡◌, ℕ, suc, ◌+◌, List, [], ◌∷◌, ◌++◌, length, Ok, Err, refl, sym, ap, subst, ◌∙◌, ◌⊎◌, inl, inr, append_assoc, arith, length-append}
use Rattle.qz_circ.specs.FirstFault.{◌>>=◌}
use Rattle.qz_circ.specs.FaultPlaces.{Begins}
use Rattle.qz_rulefile.specs.Reading.{Read}

abbrev pub Language : Type 0 → Type 1
Language X = X → List ℕ → Type 0

-- the bytes stop being a lawful front where this many are left
pub record Faults {X : Type 0} (L : Language X) (bytes : List ℕ) (n : ℕ) : Type 0 where
  pub seen : List ℕ
  pub left : List ℕ
  pub parts : bytes ≡ seen ++ left
  pub count : length left ≡ n
  pub begins : Begins L seen
  pub stops : (b : ℕ) (more : List ℕ) → left ≡ b ∷ more → Begins L (seen ++ b ∷ []) → ⊥

-- a reader that takes a text of the language, whatever follows, and else says where the bytes stop being lawful
pub record Exact {X : Type 0} (L : Language X) (r : List ℕ → Read X) : Type 0 where
  pub takes : (bytes : List ℕ) (x : X) (rest : List ℕ) → r bytes ≡ Ok (x, rest) → (text : List ℕ) × L x text × (bytes ≡ text ++ rest)
  pub again : (x : X) (text rest : List ℕ) → L x text → r (text ++ rest) ≡ Ok (x, rest)
  pub faults : (bytes : List ℕ) (n : ℕ) → r bytes ≡ Err n → Faults L bytes n
  pub some : Begins L []

-- ---- two ways to cut one list

pub cuts : (a c p q : List ℕ) → a ++ c ≡ p ++ q → ((r : List ℕ) × (a ≡ p ++ r) × (r ++ c ≡ q)) ⊎ ((h : ℕ) × (r : List ℕ) × (p ≡ a ++ h ∷ r) × (c ≡ h ∷ r ++ q))
cuts a c [] q e = inl (a, refl, e)
cuts [] c (h ∷ r) q e = inr (h, r, refl, e)
cuts (x ∷ a) c (y ∷ p) q e =
    let head : x ≡ y = grind arith in
    let tail : a ++ c ≡ p ++ q = grind arith in
    elim (cuts a c p q tail) [
      | inl s ↦ inl (s.0, ap (λ (z : List ℕ). x ∷ z) s.1 ∙ ap (λ (z : ℕ). z ∷ (p ++ s.0)) head, s.2)
      | inr s ↦ inr (s.0, s.1, ap (λ (z : List ℕ). y ∷ z) s.2 ∙ ap (λ (z : ℕ). z ∷ (a ++ s.0 ∷ s.1)) (sym head), s.3)
    ]

-- what ends before the end of a list with one byte more ends within the list
within_front : (a s r : List ℕ) (h b : ℕ) → s ++ b ∷ [] ≡ a ++ h ∷ r → (t : List ℕ) × (s ≡ a ++ t)
within_front [] s r h b e = (s, refl)
within_front (x ∷ a) [] r h b e =
    let none : [] ≡ a ++ h ∷ r = grind arith in
    let long : 0 ≡ length a + suc (length r) = ap length none ∙ length-append a (h ∷ r) in
    absurd (omega arith)
within_front (x ∷ a) (y ∷ s) r h b e =
    let head : y ≡ x = grind arith in
    let tail : s ++ b ∷ [] ≡ a ++ h ∷ r = grind arith in
    let more = within_front a s r h b tail in
    (more.0, ap (λ (z : List ℕ). y ∷ z) more.1 ∙ ap (λ (z : ℕ). z ∷ (a ++ more.0)) head)

-- ---- one part and then another

abbrev pub Then : {X Z : Type 0} → Language X → (X → Language Z) → Language Z
Then {X} {Z} L M z text = (x : X) × (a : List ℕ) × (c : List ℕ) × L x a × M x z c × (text ≡ a ++ c)

abbrev pub followed : {X Z : Type 0} → (List ℕ → Read X) → (X → List ℕ → Read Z) → List ℕ → Read Z
followed r s bytes = r bytes >>= λ x. s x.0 x.1

pub ok_parts : {X : Type 0} (x y : X) (a b : List ℕ) → ◌≡◌ {A = Read X} (Ok (x, a)) (Ok (y, b)) → (x ≡ y) × (a ≡ b)
ok_parts {X} x y a b e =
    let value : Read X → X = λ r. elim r as (λ _. X) [ Ok p ↦ p.0 | Err _ ↦ x ] in
    let rest : Read X → List ℕ = λ r. elim r as (λ _. List ℕ) [ Ok p ↦ p.1 | Err _ ↦ a ] in
    (ap value e, ap rest e)

then_takes : {X Z : Type 0} (L : Language X) (M : X → Language Z) (r : List ℕ → Read X) (s : X → List ℕ → Read Z) → Exact L r → ((x : X) (a : List ℕ) → L x a → Exact (M x) (s x))
    → (bytes : List ℕ) (z : Z) (rest : List ℕ) (first : Read X) → r bytes ≡ first → (first >>= λ x. s x.0 x.1) ≡ Ok (z, rest) → (text : List ℕ) × Then L M z text × (bytes ≡ text ++ rest)
then_takes L M r s er es bytes z rest (Err n) e h = absurd cc
then_takes L M r s er es bytes z rest (Ok x) e h =
    let t = er.takes bytes x.0 x.1 e in
    let u = (es x.0 t.0 t.1).takes x.1 z rest h in
    (t.0 ++ u.0, (x.0, t.0, u.0, t.1, u.1, refl), t.2 ∙ ap (λ (y : List ℕ). t.0 ++ y) u.2 ∙ sym (append_assoc t.0 u.0 rest))

then_again : {X Z : Type 0} (L : Language X) (M : X → Language Z) (r : List ℕ → Read X) (s : X → List ℕ → Read Z) → Exact L r → ((x : X) (a : List ℕ) → L x a → Exact (M x) (s x))
    → (z : Z) (text rest : List ℕ) → Then L M z text → followed r s (text ++ rest) ≡ Ok (z, rest)
then_again L M r s er es z text rest t =
    let whole : text ++ rest ≡ t.1 ++ (t.2 ++ rest) = ap (λ (y : List ℕ). y ++ rest) t.5 ∙ append_assoc t.1 t.2 rest in
    let first : r (text ++ rest) ≡ Ok (t.0, t.2 ++ rest) = ap r whole ∙ er.again t.0 t.1 (t.2 ++ rest) t.3 in
    ap (λ y. y >>= λ x. s x.0 x.1) first ∙ (es t.0 t.1 t.3).again z t.2 rest t.4

then_faults : {X Z : Type 0} (L : Language X) (M : X → Language Z) (r : List ℕ → Read X) (s : X → List ℕ → Read Z) → Exact L r → ((x : X) (a : List ℕ) → L x a → Exact (M x) (s x))
    → (bytes : List ℕ) (n : ℕ) (first : Read X) → r bytes ≡ first → (first >>= λ x. s x.0 x.1) ≡ Err n → Faults (Then L M) bytes n
then_faults {X} {Z} L M r s er es bytes n (Err k) e h =
    let same : k ≡ n = cc in
    let f = er.faults bytes k e in
    record {
      seen = f.seen;
      left = f.left;
      parts = f.parts;
      count = f.count ∙ same;
      begins =
          let g = f.begins in
          let next = (es g.0 (f.seen ++ g.1) g.2).some in
          (next.0, g.1 ++ next.1, (g.0, f.seen ++ g.1, next.1, g.2, next.2, sym (append_assoc f.seen g.1 next.1)));
      stops = λ b more split begun.
          let t = begun.2 in
          elim (cuts t.1 t.2 (f.seen ++ b ∷ []) begun.1 (sym t.5)) [
            | inl c ↦ f.stops b more split (t.0, c.0, subst (L t.0) c.1 t.3)
            | inr c ↦
                let front = within_front t.1 f.seen c.1 c.0 b c.2 in
                let whole : bytes ≡ t.1 ++ (front.0 ++ f.left) = f.parts ∙ ap (λ (y : List ℕ). y ++ f.left) front.1 ∙ append_assoc t.1 front.0 f.left in
                let found : r bytes ≡ Ok (t.0, front.0 ++ f.left) = ap r whole ∙ er.again t.0 t.1 (front.0 ++ f.left) t.3 in
                absurd cc
          ];
    }
then_faults {X} {Z} L M r s er es bytes n (Ok x) e h =
    let t = er.takes bytes x.0 x.1 e in
    let f = (es x.0 t.0 t.1).faults x.1 n h in
    record {
      seen = t.0 ++ f.seen;
      left = f.left;
      parts = t.2 ∙ ap (λ (y : List ℕ). t.0 ++ y) f.parts ∙ sym (append_assoc t.0 f.seen f.left);
      count = f.count;
      begins = (f.begins.0, f.begins.1, (x.0, t.0, f.seen ++ f.begins.1, t.1, f.begins.2, append_assoc t.0 f.seen f.begins.1));
      stops = λ b more split begun.
          let u = begun.2 in
          let regrouped : ((t.0 ++ f.seen) ++ b ∷ []) ++ begun.1 ≡ t.0 ++ ((f.seen ++ b ∷ []) ++ begun.1) = simp append_assoc in
          let other : r (((t.0 ++ f.seen) ++ b ∷ []) ++ begun.1) ≡ Ok (u.0, u.2) = ap r u.5 ∙ er.again u.0 u.1 u.2 u.3 in
          let this : r (((t.0 ++ f.seen) ++ b ∷ []) ++ begun.1) ≡ Ok (x.0, (f.seen ++ b ∷ []) ++ begun.1) = ap r regrouped ∙ er.again x.0 t.0 ((f.seen ++ b ∷ []) ++ begun.1) t.1 in
          let same = ok_parts u.0 x.0 u.2 ((f.seen ++ b ∷ []) ++ begun.1) (sym other ∙ this) in
          let second : M x.0 begun.0 u.2 = subst (λ (y : X). M y begun.0 u.2) same.0 u.4 in
          f.stops b more split (begun.0, begun.1, subst (M x.0 begun.0) same.1 second);
    }

pub andthen : {X Z : Type 0} (L : Language X) (M : X → Language Z) (r : List ℕ → Read X) (s : X → List ℕ → Read Z) → Exact L r → ((x : X) (a : List ℕ) → L x a → Exact (M x) (s x)) → Exact (Then L M) (followed r s)
andthen L M r s er es = record {
  takes = λ bytes z rest h. then_takes L M r s er es bytes z rest (r bytes) refl h;
  again = λ z text rest t. then_again L M r s er es z text rest t;
  faults = λ bytes n h. then_faults L M r s er es bytes n (r bytes) refl h;
  some =
      let g = er.some in
      let next = (es g.0 g.1 g.2).some in
      (next.0, g.1 ++ next.1, (g.0, g.1, next.1, g.2, next.2, refl));
}

-- ---- nothing more

abbrev pub Now : {X : Type 0} → X → Language X
Now x y text = (y ≡ x) × (text ≡ [])

pub now : {X : Type 0} (x : X) → Exact (Now x) (λ bytes. Ok (x, bytes))
now {X} x = record {
  takes = λ bytes y rest h. let same = ok_parts x y bytes rest h in ([], (sym same.0, refl), same.1);
  again = λ y text rest t. rw (t.0, t.1) refl;
  faults = λ bytes n h. absurd cc;
  some = (x, [], (refl, refl));
}

-- ---- another language with the same texts

pub spelling : {X : Type 0} (L M : Language X) (r : List ℕ → Read X) → ((x : X) (text : List ℕ) → L x text → M x text) → ((x : X) (text : List ℕ) → M x text → L x text) → Exact L r → Exact M r
spelling L M r to from e = record {
  takes = λ bytes x rest h. let t = e.takes bytes x rest h in (t.0, to x t.0 t.1, t.2);
  again = λ x text rest t. e.again x text rest (from x text t);
  faults = λ bytes n h.
      let f = e.faults bytes n h in
      record {
        seen = f.seen;
        left = f.left;
        parts = f.parts;
        count = f.count;
        begins = (f.begins.0, f.begins.1, to f.begins.0 (f.seen ++ f.begins.1) f.begins.2);
        stops = λ b more split begun. f.stops b more split (begun.0, begun.1, from begun.0 ((f.seen ++ b ∷ []) ++ begun.1) begun.2);
      };
  some = (e.some.0, e.some.1, to e.some.0 e.some.1 e.some.2);
}
