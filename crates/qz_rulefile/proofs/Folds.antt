-- Many parts, one after the other, as a loop reads them.
use Rattle.std.proofs.Common.{◌≡◌, ℕ, suc, ◌+◌, ◌-◌, ◌≤◌, ◌<◌, List, [], ◌∷◌, ◌++◌, length, Ok, Err, refl, sym, ap, ◌∙◌, append_assoc, arith}
use Rattle.std.proofs.lemmas.List.{append-nil}
use Rattle.qz_circ.specs.FirstFault.{◌>>=◌}
use Rattle.qz_rulefile.specs.Reading.{Read, one_of_at, times_at, class_at, classes_at, member_at, count_at, class_word, classes_word, end_word}
use Rattle.qz_rulefile.specs.Flat.{after_each, folded_at, one_more, Kept, with_class, class_onto, Fails, flat, kept_at}
use Rattle.qz_rulefile.specs.declared.faults.ReadError.{ReadError}
use Rattle.qz_rulefile.specs.declared.faults.ReadError.TheVariants.{Memory, Left}
use Rattle.qz_circ.specs.Circuit.{Limits}
use Rattle.qz_rulefile.proofs.Exact.{ok_parts}

abbrev consed : {X : Type 0} → X → Read (List X) → Read (List X)
consed x read = read >>= λ xs. Ok (x ∷ xs.0, xs.1)

abbrev ended : {S X : Type 0} → (S → X → S) → S → Read (List X) → Read S
ended step s read = read >>= λ xs. Ok (after_each step s xs.0, xs.1)

same_end : {S X : Type 0} (step : S → X → S) (s : S) (x : X) (read : Read (List X)) → ended step s (consed x read) ≡ ended step (step s x) read
same_end step s x (Ok xs) = refl
same_end step s x (Err n) = refl

-- one part is read
pub folded_next : {S X : Type 0} (step : S → X → S) (s : S) (part : List ℕ → Read X) (count i : ℕ) (bytes : List ℕ) (x : X) (rest : List ℕ) → i < count → part bytes ≡ Ok (x, rest) → folded_at step s part (count - i) bytes ≡ folded_at step (step s x) part (count - (i + 1)) rest
unfolding folded_at times_at
folded_next step s part count i bytes x rest lt e =
    let k : count - i ≡ suc (count - (i + 1)) = omega arith in
    rw (k, e) (same_end step s x (times_at part (count - (i + 1)) rest))

-- one part has a fault
pub folded_fails : {S X : Type 0} (step : S → X → S) (s : S) (part : List ℕ → Read X) (count i : ℕ) (bytes : List ℕ) (n : ℕ) → i < count → part bytes ≡ Err n → folded_at step s part (count - i) bytes ≡ Err n
unfolding folded_at times_at
folded_fails step s part count i bytes n lt e =
    let k : count - i ≡ suc (count - (i + 1)) = omega arith in
    rw (k, e) refl

-- all parts are read
pub folded_done : {S X : Type 0} (step : S → X → S) (s : S) (part : List ℕ → Read X) (count i : ℕ) (bytes : List ℕ) → count ≤ i → folded_at step s part (count - i) bytes ≡ Ok (s, bytes)
unfolding folded_at times_at
folded_done step s part count i bytes le =
    let k : count - i ≡ 0 = omega arith in
    rw k refl

-- at the start of a loop
pub folded_all : {S X : Type 0} (step : S → X → S) (s : S) (part : List ℕ → Read X) (count : ℕ) (bytes : List ℕ) → folded_at step s part (count - 0) bytes ≡ folded_at step s part count bytes
folded_all step s part count bytes = let k : count - 0 ≡ count = omega arith in ap (λ n. folded_at step s part n bytes) k

-- all members go to the end of the list
all_appended : (xs ys : List ℕ) → after_each one_more xs ys ≡ xs ++ ys
all_appended xs [] = sym (append-nil xs)
all_appended xs (y ∷ ys) = all_appended (xs ++ y ∷ []) ys ∙ append_assoc xs (y ∷ []) ys

abbrev onto : Kept → Read (List ℕ) → Read Kept
onto kept read = read >>= λ ranks. Ok (with_class kept ranks.0, ranks.1)

-- what a class leaves behind what was kept, once its members are read
pub class_kept : (kept : Kept) (part : List ℕ → Read ℕ) (count : ℕ) (bytes members rest : List ℕ) → folded_at one_more kept.members part count bytes ≡ Ok (members, rest) → class_onto kept (times_at part count bytes) ≡ Ok (record { members = members; ends = kept.ends ++ length members ∷ [] }, rest)
unfolding folded_at class_onto
class_kept kept part count bytes members rest e = by_times (times_at part count bytes) e
  where
    by_times : (read : Read (List ℕ)) → ended one_more kept.members read ≡ Ok (members, rest) → onto kept read ≡ Ok (record { members = members; ends = kept.ends ++ length members ∷ [] }, rest)
    by_times (Ok xs) e =
        let parts = ok_parts (after_each one_more kept.members xs.0) members xs.1 rest e in
        let all : kept.members ++ xs.0 ≡ members = sym (all_appended kept.members xs.0) ∙ parts.0 in
        ap (λ (m : List ℕ). Ok (record { members = m; ends = kept.ends ++ length m ∷ [] }, xs.1)) all ∙ ap (λ (r : List ℕ). Ok (record { members = members; ends = kept.ends ++ length members ∷ [] }, r)) parts.1
    by_times (Err n) e = absurd cc

pub class_fails : (kept : Kept) (part : List ℕ → Read ℕ) (count : ℕ) (bytes : List ℕ) (n : ℕ) → folded_at one_more kept.members part count bytes ≡ Err n → class_onto kept (times_at part count bytes) ≡ Err n
unfolding folded_at class_onto
class_fails kept part count bytes n e = by_times (times_at part count bytes) e
  where
    by_times : (read : Read (List ℕ)) → ended one_more kept.members read ≡ Err n → onto kept read ≡ Err n
    by_times (Ok xs) e = absurd cc
    by_times (Err m) e = grind arith

-- the count and then the members
pub class_read : (b : Limits) (bytes rest : List ℕ) (count : ℕ) → count_at class_word 2 bytes ≡ Ok (count, rest) → class_at b bytes ≡ times_at (member_at b) count rest
unfolding class_at
class_read b bytes rest count e = rw e refl

pub class_uncounted : (b : Limits) (kept : Kept) (bytes : List ℕ) (n : ℕ) → count_at class_word 2 bytes ≡ Err n → class_onto kept (class_at b bytes) ≡ Err n
unfolding class_at class_onto
class_uncounted b kept bytes n e = rw e refl

-- a class is put behind what was kept
pub next_class : (kept next : Kept) (read : Read (List ℕ)) (rest : List ℕ) → class_onto kept read ≡ Ok (next, rest) → (ranks : List ℕ) × (read ≡ Ok (ranks, rest)) × (with_class kept ranks ≡ next)
unfolding class_onto
next_class kept next (Ok xs) rest e = let parts = ok_parts (with_class kept xs.0) next xs.1 rest e in (xs.0, ap (λ (r : List ℕ). Ok (xs.0, r)) parts.1, parts.0)
next_class kept next (Err n) rest e = absurd cc

pub no_class : (kept : Kept) (read : Read (List ℕ)) (n : ℕ) → class_onto kept read ≡ Err n → read ≡ Err n
unfolding class_onto
no_class kept (Ok xs) n e = absurd cc
no_class kept (Err m) n e = grind arith

-- a fault that is handed on
pub handed_on : {Y Z : Type 0} (fault : ReadError) (r : Read Y) (s : Read Z) → Fails fault r → ((n : ℕ) → r ≡ Err n → s ≡ Err n) → Fails fault s
handed_on Memory r s f on = tt
handed_on (Left n) r s f on = on n f

-- ---- the classes and the end of a file

pub kept_uncounted : (b : Limits) (bytes : List ℕ) (n : ℕ) → count_at classes_word 0 bytes ≡ Err n → kept_at b bytes ≡ Err n
unfolding kept_at classes_at
kept_uncounted b bytes n e = rw e refl

abbrev to_end : Read (List (List ℕ)) → Read (List (List ℕ))
to_end read = read >>= λ c. one_of_at (end_word ∷ []) c.1 >>= λ e. Ok (c.0, e.1)

abbrev flattened : Read (List (List ℕ)) → Read Kept
flattened read = read >>= λ lists. Ok (flat lists.0, lists.1)

pub kept_fails : (b : Limits) (bytes rest : List ℕ) (count n : ℕ) → count_at classes_word 0 bytes ≡ Ok (count, rest) → folded_at with_class (record { members = []; ends = [] }) (class_at b) count rest ≡ Err n → kept_at b bytes ≡ Err n
unfolding kept_at classes_at folded_at
kept_fails b bytes rest count n e f = rw e (by_times (times_at (class_at b) count rest) f)
  where
    by_times : (read : Read (List (List ℕ))) → ended with_class (record { members = []; ends = [] }) read ≡ Err n → flattened (to_end read) ≡ Err n
    by_times (Ok x) f = absurd cc
    by_times (Err m) f = grind arith

pub kept_unended : (b : Limits) (bytes rest behind : List ℕ) (count n : ℕ) (kept : Kept) → count_at classes_word 0 bytes ≡ Ok (count, rest) → folded_at with_class (record { members = []; ends = [] }) (class_at b) count rest ≡ Ok (kept, behind) → one_of_at (end_word ∷ []) behind ≡ Err n → kept_at b bytes ≡ Err n
unfolding kept_at classes_at folded_at
kept_unended b bytes rest behind count n kept e f g = rw e (by_times (times_at (class_at b) count rest) f)
  where
    by_times : (read : Read (List (List ℕ))) → ended with_class (record { members = []; ends = [] }) read ≡ Ok (kept, behind) → flattened (to_end read) ≡ Err n
    by_times (Ok x) f =
        let parts = ok_parts (flat x.0) kept x.1 behind f in
        let last : one_of_at (end_word ∷ []) x.1 ≡ Err n = ap (one_of_at (end_word ∷ [])) parts.1 ∙ g in
        rw last refl
    by_times (Err m) f = absurd cc

pub kept_whole : (b : Limits) (bytes rest behind after : List ℕ) (count j : ℕ) (kept : Kept) → count_at classes_word 0 bytes ≡ Ok (count, rest) → folded_at with_class (record { members = []; ends = [] }) (class_at b) count rest ≡ Ok (kept, behind) → one_of_at (end_word ∷ []) behind ≡ Ok (j, after) → kept_at b bytes ≡ Ok (kept, after)
unfolding kept_at classes_at folded_at
kept_whole b bytes rest behind after count j kept e f g = rw e (by_times (times_at (class_at b) count rest) f)
  where
    by_times : (read : Read (List (List ℕ))) → ended with_class (record { members = []; ends = [] }) read ≡ Ok (kept, behind) → flattened (to_end read) ≡ Ok (kept, after)
    by_times (Ok x) f =
        let parts = ok_parts (flat x.0) kept x.1 behind f in
        let last : one_of_at (end_word ∷ []) x.1 ≡ Ok (j, after) = ap (one_of_at (end_word ∷ [])) parts.1 ∙ g in
        rw last (ap (λ (k : Kept). Ok (k, after)) parts.0)
    by_times (Err m) f = absurd cc

-- what is kept is what is read
pub kept_are : (b : Limits) (bytes rest : List ℕ) (kept : Kept) → kept_at b bytes ≡ Ok (kept, rest) → (lists : List (List ℕ)) × (classes_at b bytes ≡ Ok (lists, rest)) × (flat lists ≡ kept)
unfolding kept_at
kept_are b bytes rest kept e = by_read (classes_at b bytes) e
  where
    by_read : (read : Read (List (List ℕ))) → flattened read ≡ Ok (kept, rest) → (lists : List (List ℕ)) × (read ≡ Ok (lists, rest)) × (flat lists ≡ kept)
    by_read (Ok x) e = let parts = ok_parts (flat x.0) kept x.1 rest e in (x.0, ap (λ (r : List ℕ). Ok (x.0, r)) parts.1, parts.0)
    by_read (Err n) e = absurd cc

pub kept_fault : (b : Limits) (bytes : List ℕ) (n : ℕ) → kept_at b bytes ≡ Err n → classes_at b bytes ≡ Err n
unfolding kept_at
kept_fault b bytes n e = by_read (classes_at b bytes) e
  where
    by_read : (read : Read (List (List ℕ))) → flattened read ≡ Err n → read ≡ Err n
    by_read (Ok x) e = absurd cc
    by_read (Err m) e = grind arith
