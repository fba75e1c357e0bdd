-- Reading the first two lines is exact.
use Rattle.std.proofs.Common.{◌≡◌, ◌≢◌, ℕ, zero, suc, ◌-◌, ◌<◌, Bool, true, false, true≢false, eqb, List, [], ◌∷◌, ◌++◌, length, codes, Ok, Err, Option, Some, None, refl, sym, ap, subst, ◌∙◌, append_assoc, arith}
use Rattle.std.specs.Fmt.{decimal}
use Rattle.std.proofs.lemmas.Bool.{ne_eqb}
use Rattle.std.proofs.lemmas.List.{append-nil}
use Rattle.std.proofs.lemmas.Option.{none-some, same_Some}
use Rattle.qz_circ.specs.FirstFault.{◌>>=◌}
use Rattle.qz_circ.specs.RuleText.{Head, head_text}
use Rattle.qz_circ.specs.RuleFiles.{HasAtMostNineDigits, HasFewDigits, IsHead}
use Rattle.qz_rulefile.specs.Reading.{Read, one_of_at, number_at, head_at, common, shared, first_text, version_at, version_signs, last_numbers_at, head_word, bounds_word}
use Rattle.qz_rulefile.proofs.Exact.{Language, Exact, Then, andthen, Now, now, spelling}
use Rattle.qz_rulefile.proofs.Files.{word_exact, word_is}
use Rattle.qz_rulefile.proofs.Numbers.{IsNumber, number_exact}
use Rattle.qz_rulefile.proofs.OneOf.{OneOf, one_of_exact}

-- ---- the version

-- what stands before the numbers of the second line, by the number of the version among the two
version_word : ℕ → List ℕ
version_word zero = codes "quartz-rules 1\nbounds "
version_word (suc v) = codes "quartz-rules 2\nbounds "

record IsVersion (v : ℕ) (text : List ℕ) : Type 0 where
  few : v < 2
  text_is : text ≡ version_word v

signs_exact : Exact (OneOf version_signs) (one_of_at version_signs)
unfolding version_signs common
signs_exact = one_of_exact ((49 ∷ []) ∷ (50 ∷ []) ∷ []) (omega arith) refl

abbrev version_parts : Language ℕ
version_parts = Then (OneOf (head_word ∷ [])) (λ _. Then (OneOf version_signs) (λ v. Then (OneOf (bounds_word ∷ [])) (λ _. Now v)))

-- a sign between its words
sign_is : (v : ℕ) (sign : List ℕ) → OneOf version_signs v sign → (v < 2) × (head_word ++ (sign ++ (bounds_word ++ [])) ≡ version_word v)
unfolding version_signs head_word bounds_word version_word
sign_is zero sign o = (omega arith, ap (λ (z : List ℕ). head_word ++ (z ++ (bounds_word ++ []))) (sym (same_Some (49 ∷ []) sign o)))
sign_is (suc zero) sign o = (omega arith, ap (λ (z : List ℕ). head_word ++ (z ++ (bounds_word ++ []))) (sym (same_Some (50 ∷ []) sign o)))
sign_is (suc (suc v)) sign o = absurd (none-some sign o)

version_to : (v : ℕ) (text : List ℕ) → version_parts v text → IsVersion v text
version_to v text h =
    let sign = h.4 in
    let word = sign.4 in
    let is = sign_is sign.0 sign.1 sign.3 in
    let behind : sign.2 ≡ bounds_word ++ [] = word.5 ∙ ap (λ (z : List ℕ). z ++ word.2) (word_is bounds_word word.0 word.1 word.3) ∙ ap (λ (z : List ℕ). bounds_word ++ z) word.4.1 in
    let whole : text ≡ head_word ++ (sign.1 ++ (bounds_word ++ [])) = h.5 ∙ ap (λ (z : List ℕ). z ++ h.2) (word_is head_word h.0 h.1 h.3) ∙ ap (λ (z : List ℕ). head_word ++ z) (sign.5 ∙ ap (λ (z : List ℕ). sign.1 ++ z) behind) in
    subst (λ w. IsVersion w text) (sym word.4.0) (record { few = is.0; text_is = whole ∙ is.1 })

version_from : (v : ℕ) (text : List ℕ) → IsVersion v text → version_parts v text
unfolding version_signs head_word bounds_word version_word
version_from zero text h = (0, head_word, (49 ∷ []) ++ (bounds_word ++ []), refl, (0, 49 ∷ [], bounds_word ++ [], refl, (0, bounds_word, [], refl, (refl, refl), refl), refl), h.text_is)
version_from (suc zero) text h = (0, head_word, (50 ∷ []) ++ (bounds_word ++ []), refl, (1, 50 ∷ [], bounds_word ++ [], refl, (0, bounds_word, [], refl, (refl, refl), refl), refl), h.text_is)
version_from (suc (suc v)) text h = absurd (omega (arith, h.few))

version_exact : Exact IsVersion version_at
unfolding version_at
version_exact =
    spelling version_parts IsVersion (λ bytes. one_of_at (head_word ∷ []) bytes >>= λ w. one_of_at version_signs w.1 >>= λ v. one_of_at (bounds_word ∷ []) v.1 >>= λ b. Ok (v.0, b.1))
    version_to version_from
    (andthen (OneOf (head_word ∷ [])) (λ _. Then (OneOf version_signs) (λ v. Then (OneOf (bounds_word ∷ [])) (λ _. Now v))) (one_of_at (head_word ∷ []))
    (λ _ bytes. one_of_at version_signs bytes >>= λ v. one_of_at (bounds_word ∷ []) v.1 >>= λ b. Ok (v.0, b.1)) (word_exact head_word)
    (λ _ a o. andthen (OneOf version_signs) (λ v. Then (OneOf (bounds_word ∷ [])) (λ _. Now v)) (one_of_at version_signs)
    (λ v bytes. one_of_at (bounds_word ∷ []) bytes >>= λ b. Ok (v, b.1)) signs_exact
    (λ v c s. andthen (OneOf (bounds_word ∷ [])) (λ _. Now v) (one_of_at (bounds_word ∷ [])) (λ _ bytes. Ok (v, bytes)) (word_exact bounds_word) (λ _ d t. now v))))

-- ---- the numbers behind those of gates and qubits

abbrev LastNumbers : Bool → ℕ → ℕ → Language Head
LastNumbers true n q = Then (IsNumber 10 0) (λ m. Now (record { n = n; q = q; m = m; grain = None }))
LastNumbers false n q = Then (IsNumber 32 0) (λ m. Then (IsNumber 10 0) (λ grain. Now (record { n = n; q = q; m = m; grain = Some grain })))

last_exact : (first : Bool) (n q : ℕ) → Exact (LastNumbers first n q) (last_numbers_at first n q)
unfolding last_numbers_at
last_exact true n q =
    andthen (IsNumber 10 0) (λ m. Now (record { n = n; q = q; m = m; grain = None })) (number_at 10 0) (λ m bytes. Ok (record { n = n; q = q; m = m; grain = None }, bytes)) (number_exact 10 0 (omega arith) (omega arith))
    (λ m a s. now (record { n = n; q = q; m = m; grain = None }))
last_exact false n q =
    andthen (IsNumber 32 0) (λ m. Then (IsNumber 10 0) (λ grain. Now (record { n = n; q = q; m = m; grain = Some grain }))) (number_at 32 0)
    (λ m bytes. number_at 10 0 bytes >>= λ grain. Ok (record { n = n; q = q; m = m; grain = Some grain.0 }, grain.1)) (number_exact 32 0 (omega arith) (omega arith))
    (λ m a s. andthen (IsNumber 10 0) (λ grain. Now (record { n = n; q = q; m = m; grain = Some grain })) (number_at 10 0) (λ grain bytes. Ok (record { n = n; q = q; m = m; grain = Some grain }, bytes)) (number_exact 10 0 (omega arith) (omega arith))
    (λ grain c t. now (record { n = n; q = q; m = m; grain = Some grain })))

-- the number of the version among the two, by whether it tells a grain
version_of : Option ℕ → ℕ
version_of None = 0
version_of (Some grain) = 1

-- the text of these numbers
last_text : ℕ → Option ℕ → List ℕ
last_text m None = (decimal m ++ 10 ∷ []) ++ []
last_text m (Some grain) = (decimal m ++ 32 ∷ []) ++ ((decimal grain ++ 10 ∷ []) ++ [])

record AreLast (first : Bool) (n q : ℕ) (h : Head) (text : List ℕ) : Type 0 where
  numbers : h ≡ record { n = n; q = q; m = h.m; grain = h.grain }
  params : HasAtMostNineDigits h.m
  grain : HasFewDigits h.grain
  version : first ≡ eqb (version_of h.grain) 0
  text_is : text ≡ last_text h.m h.grain

are_last : (first : Bool) (n q : ℕ) (h : Head) (text : List ℕ) → LastNumbers first n q h text → AreLast first n q h text
unfolding version_of last_text
are_last true n q h text l =
    subst (λ (k : Head). AreLast true n q k text) (sym l.4.0) (record {
      numbers = refl;
      params = l.3.few;
      grain = tt;
      version = refl;
      text_is = l.5 ∙ ap (λ (z : List ℕ). z ++ l.2) l.3.text_is ∙ ap (λ (z : List ℕ). (decimal l.0 ++ 10 ∷ []) ++ z) l.4.1;
    })
are_last false n q h text l =
    let g = l.4 in
    let behind : l.2 ≡ (decimal g.0 ++ 10 ∷ []) ++ [] = g.5 ∙ ap (λ (z : List ℕ). z ++ g.2) g.3.text_is ∙ ap (λ (z : List ℕ). (decimal g.0 ++ 10 ∷ []) ++ z) g.4.1 in
    subst (λ (k : Head). AreLast false n q k text) (sym g.4.0) (record {
      numbers = refl;
      params = l.3.few;
      grain = g.3.few;
      version = refl;
      text_is = l.5 ∙ ap (λ (z : List ℕ). z ++ l.2) l.3.text_is ∙ ap (λ (z : List ℕ). (decimal l.0 ++ 32 ∷ []) ++ z) behind;
    })

-- ---- both lines

abbrev head_parts : Language Head
head_parts = Then IsVersion (λ v. Then (IsNumber 32 0) (λ n. Then (IsNumber 32 0) (λ q. LastNumbers (eqb v 0) n q)))

head_pieces : (n q m : ℕ) (grain : Option ℕ)
    → head_text (record { n = n; q = q; m = m; grain = grain }) ≡ version_word (version_of grain) ++ ((decimal n ++ 32 ∷ []) ++ ((decimal q ++ 32 ∷ []) ++ last_text m grain))
unfolding head_text version_word version_of last_text
head_pieces n q m None = regroup (codes "quartz-rules 1") (10 ∷ []) (codes "bounds ") (decimal n) (32 ∷ []) (decimal q) (decimal m)
  where
    regroup : (v e w n s q m : List ℕ) → (v ++ e) ++ ((w ++ n ++ s ++ q ++ s ++ m ++ []) ++ e) ≡ (v ++ e ++ w) ++ ((n ++ s) ++ ((q ++ s) ++ ((m ++ e) ++ [])))
    regroup v e w n s q m = simp (append_assoc, append-nil)
head_pieces n q m (Some grain) = regroup (codes "quartz-rules 2") (10 ∷ []) (codes "bounds ") (decimal n) (32 ∷ []) (decimal q) (decimal m) (decimal grain)
  where
    regroup : (v e w n s q m g : List ℕ) → (v ++ e) ++ ((w ++ n ++ s ++ q ++ s ++ m ++ (s ++ g)) ++ e) ≡ (v ++ e ++ w) ++ ((n ++ s) ++ ((q ++ s) ++ ((m ++ s) ++ ((g ++ e) ++ []))))
    regroup v e w n s q m g = simp (append_assoc, append-nil)

same_version : (v : ℕ) (grain : Option ℕ) → eqb v 0 ≡ eqb (version_of grain) 0 → version_word v ≡ version_word (version_of grain)
unfolding version_word version_of
same_version zero None e = refl
same_version zero (Some grain) e = absurd (true≢false e)
same_version (suc v) None e = absurd (true≢false (sym e ∙ ne_eqb (suc v) 0 (λ h. omega (arith, h))))
same_version (suc v) (Some grain) e = refl

head_to : (h : Head) (text : List ℕ) → head_parts h text → IsHead h text
head_to h text p =
    let n = p.4 in
    let q = n.4 in
    let last = are_last (eqb p.0 0) n.0 q.0 h q.2 q.4 in
    let word : p.1 ≡ version_word (version_of h.grain) = p.3.text_is ∙ same_version p.0 h.grain last.version in
    let behind_q : n.2 ≡ (decimal q.0 ++ 32 ∷ []) ++ last_text h.m h.grain = q.5 ∙ ap (λ (z : List ℕ). z ++ q.2) q.3.text_is ∙ ap (λ (z : List ℕ). (decimal q.0 ++ 32 ∷ []) ++ z) last.text_is in
    let behind_n : p.2 ≡ (decimal n.0 ++ 32 ∷ []) ++ ((decimal q.0 ++ 32 ∷ []) ++ last_text h.m h.grain) = n.5 ∙ ap (λ (z : List ℕ). z ++ n.2) n.3.text_is ∙ ap (λ (z : List ℕ). (decimal n.0 ++ 32 ∷ []) ++ z) behind_q in
    subst (λ (k : Head). IsHead k text) (sym last.numbers) (record {
      gates = n.3.few;
      qubits = q.3.few;
      params = last.params;
      grain = last.grain;
      text_is = p.5 ∙ ap (λ (z : List ℕ). z ++ p.2) word ∙ ap (λ (z : List ℕ). version_word (version_of h.grain) ++ z) behind_n ∙ sym (head_pieces n.0 q.0 h.m h.grain);
    })

from_numbers : (n q m : ℕ) (grain : Option ℕ) (text : List ℕ) → IsHead (record { n = n; q = q; m = m; grain = grain }) text → head_parts (record { n = n; q = q; m = m; grain = grain }) text
unfolding version_of last_text
from_numbers n q m None text h = (
  0,
  version_word 0,
  (decimal n ++ 32 ∷ []) ++ ((decimal q ++ 32 ∷ []) ++ last_text m None),
  record { few = omega arith; text_is = refl },
  (
    n,
    decimal n ++ 32 ∷ [],
    (decimal q ++ 32 ∷ []) ++ last_text m None,
    record { least = omega arith; few = h.gates; text_is = refl },
    (
      q,
      decimal q ++ 32 ∷ [],
      last_text m None,
      record { least = omega arith; few = h.qubits; text_is = refl },
      (m, decimal m ++ 10 ∷ [], [], record { least = omega arith; few = h.params; text_is = refl }, (refl, refl), refl),
      refl,
    ),
    refl,
  ),
  h.text_is ∙ head_pieces n q m None,
)
from_numbers n q m (Some grain) text h = (
  1,
  version_word 1,
  (decimal n ++ 32 ∷ []) ++ ((decimal q ++ 32 ∷ []) ++ last_text m (Some grain)),
  record { few = omega arith; text_is = refl },
  (
    n,
    decimal n ++ 32 ∷ [],
    (decimal q ++ 32 ∷ []) ++ last_text m (Some grain),
    record { least = omega arith; few = h.gates; text_is = refl },
    (
      q,
      decimal q ++ 32 ∷ [],
      last_text m (Some grain),
      record { least = omega arith; few = h.qubits; text_is = refl },
      (
        m,
        decimal m ++ 32 ∷ [],
        (decimal grain ++ 10 ∷ []) ++ [],
        record { least = omega arith; few = h.params; text_is = refl },
        (grain, decimal grain ++ 10 ∷ [], [], record { least = omega arith; few = h.grain; text_is = refl }, (refl, refl), refl),
        refl,
      ),
      refl,
    ),
    refl,
  ),
  h.text_is ∙ head_pieces n q m (Some grain),
)

-- the first two lines are read exactly
pub head_exact : Exact IsHead head_at
unfolding head_at
head_exact =
    spelling head_parts IsHead (λ bytes. version_at bytes >>= λ v. number_at 32 0 v.1 >>= λ n. number_at 32 0 n.1 >>= λ q. last_numbers_at (eqb v.0 0) n.0 q.0 q.1)
    head_to (λ h text i. from_numbers h.n h.q h.m h.grain text i)
    (andthen IsVersion (λ v. Then (IsNumber 32 0) (λ n. Then (IsNumber 32 0) (λ q. LastNumbers (eqb v 0) n q))) version_at
    (λ v bytes. number_at 32 0 bytes >>= λ n. number_at 32 0 n.1 >>= λ q. last_numbers_at (eqb v 0) n.0 q.0 q.1) version_exact
    (λ v a i. andthen (IsNumber 32 0) (λ n. Then (IsNumber 32 0) (λ q. LastNumbers (eqb v 0) n q)) (number_at 32 0)
    (λ n bytes. number_at 32 0 bytes >>= λ q. last_numbers_at (eqb v 0) n q.0 q.1) (number_exact 32 0 (omega arith) (omega arith))
    (λ n c s. andthen (IsNumber 32 0) (λ q. LastNumbers (eqb v 0) n q) (number_at 32 0)
    (λ q bytes. last_numbers_at (eqb v 0) n q bytes) (number_exact 32 0 (omega arith) (omega arith))
    (λ q d t. last_exact (eqb v 0) n q))))

-- ---- the sign of the version

pub no_sign_left : (bytes : List ℕ) → length bytes ≡ 0 → one_of_at version_signs bytes ≡ Err 0
unfolding version_signs one_of_at first_text common shared
no_sign_left [] e = refl
no_sign_left (b ∷ bytes) e = absurd (omega (arith, e))

pub first_sign : (bytes : List ℕ) (b : ℕ) (rest : List ℕ) → bytes ≡ b ∷ rest → b ≡ 49 → one_of_at version_signs bytes ≡ Ok (0, rest)
unfolding version_signs one_of_at first_text common
first_sign bytes b rest e is = rw (e, is) refl

pub second_sign : (bytes : List ℕ) (b : ℕ) (rest : List ℕ) → bytes ≡ b ∷ rest → b ≡ 50 → one_of_at version_signs bytes ≡ Ok (1, rest)
unfolding version_signs one_of_at first_text common
second_sign bytes b rest e is = rw (e, is) refl

pub other_sign : (bytes : List ℕ) (b : ℕ) (rest : List ℕ) → bytes ≡ b ∷ rest → b ≢ 49 → b ≢ 50 → one_of_at version_signs bytes ≡ Err (length bytes)
unfolding version_signs one_of_at first_text common shared
other_sign bytes b rest e one two =
    let whole : suc (length rest) - 0 ≡ suc (length rest) = omega arith in
    rw (e, ne_eqb 49 b (λ h. one (sym h)), ne_eqb 50 b (λ h. two (sym h))) (ap (λ n. Err n) whole)
