-- Reading classes and whole rule files is exact, with the ranks of the members as the value.
use Rattle.std.proofs.Common.{◌≡◌, ℕ, zero, suc, ◌≤◌, ◌<◌, List, [], ◌∷◌, ◌++◌, length, map, Ok, refl, sym, ap, subst, ◌∙◌, append_assoc, arith, codes}
use Rattle.std.specs.List.{AllByRecursion, flat_map}
use Rattle.std.specs.Fmt.{decimal}
use Rattle.std.proofs.lemmas.List.{append-nil, length-map}
use Rattle.std.proofs.lemmas.List.Folds.{flat_map-map}
use Rattle.std.proofs.lemmas.Option.{none-some, same_Some}
use Rattle.qz_circ.specs.Circuit.{Limits}
use Rattle.qz_circ.specs.Bounds.{IsLawful}
use Rattle.qz_circ.specs.Order.{circuit_at, all_circuits}
use Rattle.qz_circ.specs.FirstFault.{◌>>=◌}
use Rattle.qz_circ.specs.Joined.{circuits_of_ranks}
use Rattle.qz_circ.specs.RuleText.{member_text, class_text, classes_text, head_text}
use Rattle.qz_circ.specs.RuleFiles.{IsHead}
use Rattle.qz_rulefile.specs.Reading.{Read, one_of_at, number_at, times_at, member_at, class_at, classes_at, head_at, count_at, head_word, classes_word, class_word, end_word}
use Rattle.qz_rulefile.proofs.Exact.{Language, Exact, Then, andthen, Now, now, spelling}
use Rattle.qz_rulefile.proofs.OneOf.{OneOf, one_of_exact}
use Rattle.qz_rulefile.proofs.Numbers.{IsNumber, number_exact}
use Rattle.qz_rulefile.proofs.Members.{IsMember, member_exact}

-- ---- so many parts

-- a value has one text, where a fact holds of it
pub record Spelled {X : Type 0} (W : X → Type 0) (t : X → List ℕ) (x : X) (text : List ℕ) : Type 0 where
  pub fit : W x
  pub text_is : text ≡ t x

-- so many values, each spelled, one text after the other
pub record SpelledTimes {X : Type 0} (W : X → Type 0) (t : X → List ℕ) (k : ℕ) (xs : List X) (text : List ℕ) : Type 0 where
  pub count : length xs ≡ k
  pub fit : AllByRecursion W xs
  pub text_is : text ≡ flat_map t xs

one_then : {X : Type 0} (W : X → Type 0) (t : X → List ℕ) (k : ℕ) → Language (List X)
one_then {X} W t k = Then (Spelled W t) (λ x. Then (SpelledTimes W t k) (λ xs. Now (x ∷ xs)))

times_to : {X : Type 0} (W : X → Type 0) (t : X → List ℕ) (k : ℕ) (xs : List X) (text : List ℕ) → one_then W t k xs text → SpelledTimes W t (suc k) xs text
unfolding one_then
times_to W t k xs text h =
    let rest = h.4 in
    let done : xs ≡ h.0 ∷ rest.0 = rest.4.0 in
    let written : text ≡ t h.0 ++ flat_map t rest.0 = h.5 ∙ ap (λ (z : List ℕ). z ++ h.2) h.3.text_is ∙ ap (λ (z : List ℕ). t h.0 ++ z) (rest.5 ∙ ap (λ (z : List ℕ). rest.1 ++ z) rest.4.1 ∙ append-nil rest.1 ∙ rest.3.text_is) in
    subst (λ (ys : List _). SpelledTimes W t (suc k) ys text) (sym done) (record { count = ap (λ (n : ℕ). suc n) rest.3.count; fit = (h.3.fit, rest.3.fit); text_is = written })

times_from : {X : Type 0} (W : X → Type 0) (t : X → List ℕ) (k : ℕ) (xs : List X) (text : List ℕ) → SpelledTimes W t (suc k) xs text → one_then W t k xs text
unfolding one_then
times_from W t k [] text h = absurd (omega (arith, h.count))
times_from W t k (x ∷ xs) text h = (
  x,
  t x,
  flat_map t xs,
  record { fit = h.fit.0; text_is = refl },
  (xs, flat_map t xs, [], record { count = omega (arith, h.count); fit = h.fit.1; text_is = refl }, (refl, refl), sym (append-nil (flat_map t xs))),
  h.text_is,
)

times_exact : {X : Type 0} (W : X → Type 0) (t : X → List ℕ) (part : List ℕ → Read X) → Exact (Spelled W t) part → (k : ℕ) → Exact (SpelledTimes W t k) (times_at part k)
unfolding times_at one_then
times_exact {X} W t part e zero =
    spelling (Now []) (SpelledTimes W t zero) (λ bytes. Ok ([], bytes))
    (λ xs text n. none xs text n.0 n.1) (λ xs text s. nothing xs text s) (now [])
  where
    none : (xs : List X) (text : List ℕ) → xs ≡ [] → text ≡ [] → SpelledTimes W t zero xs text
    none xs text e f = subst (λ (ys : List X). SpelledTimes W t zero ys text) (sym e) (record { count = refl; fit = tt; text_is = f })

    nothing : (xs : List X) (text : List ℕ) → SpelledTimes W t zero xs text → Now [] xs text
    nothing [] text s = (refl, s.text_is)
    nothing (x ∷ xs) text s = absurd (omega (arith, s.count))
times_exact {X} W t part e (suc k) =
    spelling (one_then W t k) (SpelledTimes W t (suc k)) (λ bytes. part bytes >>= λ x. times_at part k x.1 >>= λ xs. Ok (x.0 ∷ xs.0, xs.1))
    (times_to W t k) (times_from W t k) (both (times_exact W t part e k))
  where
    both : Exact (SpelledTimes W t k) (times_at part k) → Exact (one_then W t k) (λ bytes. part bytes >>= λ x. times_at part k x.1 >>= λ xs. Ok (x.0 ∷ xs.0, xs.1))
    both rest =
        andthen (Spelled W t) (λ x. Then (SpelledTimes W t k) (λ xs. Now (x ∷ xs))) part (λ x bytes. times_at part k bytes >>= λ xs. Ok (x ∷ xs.0, xs.1)) e
        (λ x a s. andthen (SpelledTimes W t k) (λ xs. Now (x ∷ xs)) (times_at part k) (λ xs bytes. Ok (x ∷ xs, bytes)) rest (λ xs c r. now (x ∷ xs)))

-- ---- words

-- one word
pub word_exact : (word : List ℕ) → Exact (OneOf (word ∷ [])) (one_of_at (word ∷ []))
word_exact word = one_of_exact (word ∷ []) (omega arith) refl

pub word_is : (word : List ℕ) (j : ℕ) (text : List ℕ) → OneOf (word ∷ []) j text → text ≡ word
word_is word zero text o = sym (same_Some word text o)
word_is word (suc j) text o = absurd (none-some text o)

-- ---- a word and a number

-- a word, a number no less than low, and a line feed
pub record IsCount (letters : List ℕ) (low k : ℕ) (text : List ℕ) : Type 0 where
  pub least : low ≤ k
  pub few : k < 1000000000
  pub text_is : text ≡ letters ++ (decimal k ++ 10 ∷ [])

count_exact : (letters : List ℕ) (low : ℕ) → low ≤ 10 → Exact (IsCount letters low) (count_at letters low)
unfolding count_at
count_exact letters low small =
    spelling (Then (OneOf (letters ∷ [])) (λ _. IsNumber 10 low)) (IsCount letters low) (λ bytes. one_of_at (letters ∷ []) bytes >>= λ w. number_at 10 low w.1)
    (λ k text h. record { least = h.4.least; few = h.4.few; text_is = h.5 ∙ ap (λ (z : List ℕ). z ++ h.2) (word_is letters h.0 h.1 h.3) ∙ ap (λ (z : List ℕ). letters ++ z) h.4.text_is })
    (λ k text c. (0, letters, decimal k ++ 10 ∷ [], refl, record { least = c.least; few = c.few; text_is = refl }, c.text_is))
    (andthen (OneOf (letters ∷ [])) (λ _. IsNumber 10 low) (one_of_at (letters ∷ [])) (λ _. number_at 10 low) (word_exact letters) (λ _ a o. number_exact 10 low (omega arith) small))

-- ---- classes

-- the rank is that of a circuit within the limits
abbrev pub IsRank : Limits → ℕ → Type 0
IsRank b r = r < length (all_circuits b)

abbrev pub rank_line : Limits → ℕ → List ℕ
rank_line b r = member_text b.grain (circuit_at b r)

line_exact : (b : Limits) → IsLawful b → Exact (Spelled (IsRank b) (rank_line b)) (member_at b)
line_exact b h = spelling (IsMember b) (Spelled (IsRank b) (rank_line b)) (member_at b) (λ r text m. record { fit = m.listed; text_is = m.text_is }) (λ r text s. record { listed = s.fit; text_is = s.text_is }) (member_exact b h)

-- two ranks or more, and not too many
pub record AreMembers (b : Limits) (ranks : List ℕ) : Type 0 where
  pub several : 2 ≤ length ranks
  pub few : length ranks < 1000000000
  pub listed : AllByRecursion (IsRank b) ranks

abbrev pub ranks_text : Limits → List ℕ → List ℕ
ranks_text b ranks = class_text b.grain (map (circuit_at b) ranks)

-- the text of a class, by its pieces
class_pieces : (b : Limits) (ranks : List ℕ) → ranks_text b ranks ≡ (class_word ++ (decimal (length ranks) ++ 10 ∷ [])) ++ flat_map (rank_line b) ranks
unfolding class_text class_word
class_pieces b ranks =
    rw (length-map ranks (circuit_at b), flat_map-map (member_text b.grain) (circuit_at b) ranks) (regroup (codes "class ") (decimal (length ranks)) (10 ∷ []) (flat_map (rank_line b) ranks))
  where
    regroup : (w n e m : List ℕ) → ((w ++ n) ++ e) ++ m ≡ (w ++ (n ++ e)) ++ m
    regroup w n e m = simp append_assoc

abbrev class_parts : Limits → Language (List ℕ)
class_parts b = Then (IsCount class_word 2) (λ k. SpelledTimes (IsRank b) (rank_line b) k)

class_to : (b : Limits) (ranks : List ℕ) (text : List ℕ) → class_parts b ranks text → Spelled (AreMembers b) (ranks_text b) ranks text
class_to b ranks text n =
    let s = n.4 in
    let number : n.1 ≡ class_word ++ (decimal (length ranks) ++ 10 ∷ []) = n.3.text_is ∙ ap (λ z. class_word ++ (decimal z ++ 10 ∷ [])) (sym s.count) in
    record {
      fit = record { several = omega (arith, n.3.least, s.count); few = omega (arith, n.3.few, s.count); listed = s.fit };
      text_is = n.5 ∙ ap (λ (z : List ℕ). z ++ n.2) number ∙ ap (λ (z : List ℕ). (class_word ++ (decimal (length ranks) ++ 10 ∷ [])) ++ z) s.text_is ∙ sym (class_pieces b ranks);
    }

class_from : (b : Limits) (ranks : List ℕ) (text : List ℕ) → Spelled (AreMembers b) (ranks_text b) ranks text → class_parts b ranks text
class_from b ranks text s = (
  length ranks,
  class_word ++ (decimal (length ranks) ++ 10 ∷ []),
  flat_map (rank_line b) ranks,
  record { least = s.fit.several; few = s.fit.few; text_is = refl },
  record { count = refl; fit = s.fit.listed; text_is = refl },
  s.text_is ∙ class_pieces b ranks,
)

-- a class is read exactly
class_exact : (b : Limits) → IsLawful b → Exact (Spelled (AreMembers b) (ranks_text b)) (class_at b)
unfolding class_at
class_exact b h =
    spelling (class_parts b) (Spelled (AreMembers b) (ranks_text b)) (λ bytes. count_at class_word 2 bytes >>= λ n. times_at (member_at b) n.0 n.1)
    (class_to b) (class_from b)
    (andthen (IsCount class_word 2) (λ k. SpelledTimes (IsRank b) (rank_line b) k) (count_at class_word 2) (times_at (member_at b)) (count_exact class_word 2 (omega arith))
    (λ k c n. times_exact (IsRank b) (rank_line b) (member_at b) (line_exact b h) k))

-- ---- all classes

-- such classes, not too many
pub record AreRankClasses (b : Limits) (lists : List (List ℕ)) : Type 0 where
  pub few : length lists < 1000000000
  pub each : AllByRecursion (AreMembers b) lists

abbrev pub lists_text : Limits → List (List ℕ) → List ℕ
lists_text b lists = classes_text b.grain (circuits_of_ranks b lists)

lists_pieces : (b : Limits) (lists : List (List ℕ)) → lists_text b lists ≡ (classes_word ++ (decimal (length lists) ++ 10 ∷ [])) ++ (flat_map (ranks_text b) lists ++ (end_word ++ []))
unfolding classes_text classes_word end_word
lists_pieces b lists =
    rw (length-map lists (map (circuit_at b)), flat_map-map (class_text b.grain) (map (circuit_at b)) lists) (regroup (codes "classes ") (decimal (length lists)) (10 ∷ []) (flat_map (ranks_text b) lists) (codes "end\n"))
  where
    regroup : (w n e m t : List ℕ) → ((w ++ n) ++ e) ++ m ++ t ≡ (w ++ (n ++ e)) ++ (m ++ (t ++ []))
    regroup w n e m t = simp (append_assoc, append-nil)

abbrev lists_parts : Limits → Language (List (List ℕ))
lists_parts b = Then (IsCount classes_word 0) (λ k. Then (SpelledTimes (AreMembers b) (ranks_text b) k) (λ lists. Then (OneOf (end_word ∷ [])) (λ _. Now lists)))

lists_to : (b : Limits) (lists : List (List ℕ)) (text : List ℕ) → lists_parts b lists text → Spelled (AreRankClasses b) (lists_text b) lists text
lists_to b lists text n =
    let s = n.4 in
    let e = s.4 in
    let end = word_is end_word e.0 e.1 e.3 in
    let same : lists ≡ s.0 = e.4.0 in
    let count : length lists ≡ n.0 = ap length same ∙ s.3.count in
    let number : n.1 ≡ classes_word ++ (decimal (length lists) ++ 10 ∷ []) = n.3.text_is ∙ ap (λ z. classes_word ++ (decimal z ++ 10 ∷ [])) (sym count) in
    let tail : e.1 ++ e.2 ≡ end_word ++ [] = ap (λ (z : List ℕ). z ++ e.2) end ∙ ap (λ (z : List ℕ). end_word ++ z) e.4.1 in
    let members : s.1 ≡ flat_map (ranks_text b) lists = s.3.text_is ∙ ap (flat_map (ranks_text b)) (sym same) in
    record {
      fit = record { few = omega (arith, n.3.few, count); each = subst (AllByRecursion (AreMembers b)) (sym same) s.3.fit };
      text_is =
          n.5 ∙ ap (λ (z : List ℕ). z ++ n.2) number
          ∙ ap (λ (z : List ℕ). (classes_word ++ (decimal (length lists) ++ 10 ∷ [])) ++ z) (s.5 ∙ ap (λ (z : List ℕ). z ++ s.2) members ∙ ap (λ (z : List ℕ). flat_map (ranks_text b) lists ++ z) (e.5 ∙ tail))
          ∙ sym (lists_pieces b lists);
    }

lists_from : (b : Limits) (lists : List (List ℕ)) (text : List ℕ) → Spelled (AreRankClasses b) (lists_text b) lists text → lists_parts b lists text
lists_from b lists text s = (
  length lists,
  classes_word ++ (decimal (length lists) ++ 10 ∷ []),
  flat_map (ranks_text b) lists ++ (end_word ++ []),
  record { least = omega arith; few = s.fit.few; text_is = refl },
  (
    lists,
    flat_map (ranks_text b) lists,
    end_word ++ [],
    record { count = refl; fit = s.fit.each; text_is = refl },
    (0, end_word, [], refl, (refl, refl), refl),
    refl,
  ),
  s.text_is ∙ lists_pieces b lists,
)

-- the classes and the end of a file are read exactly
pub classes_exact : (b : Limits) → IsLawful b → Exact (Spelled (AreRankClasses b) (lists_text b)) (classes_at b)
unfolding classes_at
classes_exact b h =
    spelling (lists_parts b) (Spelled (AreRankClasses b) (lists_text b)) (λ bytes. count_at classes_word 0 bytes >>= λ n. times_at (class_at b) n.0 n.1 >>= λ c. one_of_at (end_word ∷ []) c.1 >>= λ e. Ok (c.0, e.1))
    (lists_to b) (lists_from b)
    (andthen (IsCount classes_word 0) (λ k. Then (SpelledTimes (AreMembers b) (ranks_text b) k) (λ lists. Then (OneOf (end_word ∷ [])) (λ _. Now lists))) (count_at classes_word 0)
    (λ k bytes. times_at (class_at b) k bytes >>= λ c. one_of_at (end_word ∷ []) c.1 >>= λ e. Ok (c.0, e.1)) (count_exact classes_word 0 (omega arith))
    (λ k c n. andthen (SpelledTimes (AreMembers b) (ranks_text b) k) (λ lists. Then (OneOf (end_word ∷ [])) (λ _. Now lists)) (times_at (class_at b) k)
    (λ lists bytes. one_of_at (end_word ∷ []) bytes >>= λ e. Ok (lists, e.1)) (times_exact (AreMembers b) (ranks_text b) (class_at b) (class_exact b h) k)
    (λ lists d s. andthen (OneOf (end_word ∷ [])) (λ _. Now lists) (one_of_at (end_word ∷ [])) (λ _ bytes. Ok (lists, bytes)) (word_exact end_word) (λ _ t e. now lists))))
