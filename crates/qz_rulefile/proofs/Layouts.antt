-- The classes that are kept as one list of ranks are those that were read.
use Rattle.std.proofs.Common.{◌≡◌, ℕ, zero, suc, ◌+◌, ◌-◌, ◌≤◌, ◌<◌, List, [], ◌∷◌, ◌++◌, length, map, drop, get_or, refl, sym, ap, subst, ◌∙◌, append_assoc, arith, length-append, length-drop, length-take, All}
use Rattle.std.specs.List.{AllByRecursion, slice_range}
use Rattle.std.proofs.lemmas.List.{append-nil, drop_at, take_all, take-append-le, drop-append-le, length-map, get_or-map, get_or-drop, get_or-take}
use Rattle.std.proofs.lemmas.List.Elements.{All-from_recursion, All-append}
use Rattle.qz_circ.specs.Circuit.{Circuit, Limits}
use Rattle.qz_circ.specs.Order.{circuit_at}
use Rattle.qz_circ.specs.Joined.{circuits_of_ranks}
use Rattle.qz_circ.specs.RuleFiles.{RuleClasses, IsClass, AreClasses, numbered_class, numbered_member}
use Rattle.qz_rulefile.specs.Layout.{parts_from, parts, AreEnds, start_of}
use Rattle.qz_rulefile.specs.Flat.{after_each, Kept, with_class, flat}

-- ---- one class more

ends_within : (start : ℕ) (ends : List ℕ) (len : ℕ) → AreEnds start ends len → start ≤ len
ends_within start [] len e = omega arith
ends_within start (end ∷ ends) len e = omega (arith, e.0, ends_within end ends len e.1)

-- a part within a list is a part of it with more behind it
same_part : {A : Type 0} (xs more : List A) (i j : ℕ) → i ≤ j → j ≤ length xs → slice_range (xs ++ more) i j ≡ slice_range xs i j
same_part xs more i j le within =
    let rest : j - i ≤ length (drop i xs) = omega (arith, length-drop i xs) in
    rw (drop-append-le i xs more (omega arith)) (take-append-le (j - i) (drop i xs) more rest)

part_behind : {A : Type 0} (xs more : List A) (i j : ℕ) → i ≡ length xs → j ≡ length (xs ++ more) → slice_range (xs ++ more) i j ≡ more
part_behind xs more i j start end =
    let len : j - i ≡ length more = omega (arith, length-append xs more) in
    rw (drop_at xs more i (sym start)) (take_all (j - i) more (omega arith))

one_part_more : {A : Type 0} (start : ℕ) (ends : List ℕ) (xs more : List A) → AreEnds start ends (length xs) → parts_from start (ends ++ length (xs ++ more) ∷ []) (xs ++ more) ≡ parts_from start ends xs ++ more ∷ []
one_part_more start [] xs more e = ap (λ (p : List _). p ∷ []) (part_behind xs more start (length (xs ++ more)) e refl)
one_part_more start (end ∷ ends) xs more e =
    ap (λ (p : List _). p ∷ parts_from end (ends ++ length (xs ++ more) ∷ []) (xs ++ more)) (same_part xs more start end e.0 (ends_within end ends (length xs) e.1))
    ∙ ap (λ (ps : List (List _)). slice_range xs start end ∷ ps) (one_part_more end ends xs more e.1)

more_ends : {A : Type 0} (start : ℕ) (ends : List ℕ) (xs more : List A) → AreEnds start ends (length xs) → AreEnds start (ends ++ length (xs ++ more) ∷ []) (length (xs ++ more))
more_ends start [] xs more e = (omega (arith, length-append xs more), refl)
more_ends start (end ∷ ends) xs more e = (e.0, more_ends end ends xs more e.1)

-- ---- all classes

pub record KeepsLists (P : ℕ → Type 0) (kept : Kept) (lists : List (List ℕ)) : Type 0 where
  pub ends : AreEnds 0 kept.ends (length kept.members)
  pub parts_are : parts kept.ends kept.members ≡ lists
  pub each : All P kept.members

keeps_more : (P : ℕ → Type 0) (kept : Kept) (done lists : List (List ℕ)) → KeepsLists P kept done → AllByRecursion (λ list. AllByRecursion P list) lists → KeepsLists P (after_each with_class kept lists) (done ++ lists)
keeps_more P kept done [] k h = subst (KeepsLists P kept) (sym (append-nil done)) k
keeps_more P kept done (list ∷ lists) k h =
    let next : KeepsLists P (with_class kept list) (done ++ list ∷ []) = record {
      ends = more_ends 0 kept.ends kept.members list k.ends;
      parts_are = one_part_more 0 kept.ends kept.members list k.ends ∙ ap (λ (ps : List (List ℕ)). ps ++ list ∷ []) k.parts_are;
      each = All-append P kept.members list k.each (All-from_recursion P list h.0);
    } in
    subst (KeepsLists P (after_each with_class (with_class kept list) lists)) (append_assoc done (list ∷ []) lists) (keeps_more P (with_class kept list) (done ++ list ∷ []) lists next h.1)

pub flat_keeps : (P : ℕ → Type 0) (lists : List (List ℕ)) → AllByRecursion (λ list. AllByRecursion P list) lists → KeepsLists P (flat lists) lists
flat_keeps P lists h = keeps_more P (record { members = []; ends = [] }) [] lists (record { ends = refl; parts_are = refl; each = λ i d lt. absurd (omega arith) }) h

-- ---- a class and its members by their numbers

pub start_behind : (start : ℕ) (ends : List ℕ) (c : ℕ) → (c ≡ 0 → ⊥) → get_or ends (c - 1) 0 ≡ start_of start ends c
start_behind start ends zero ne = absurd (ne refl)
start_behind start ends (suc c) ne = let before : suc c - 1 ≡ c = omega arith in ap (λ k. get_or ends k 0) before

pub start_first : (start : ℕ) (ends : List ℕ) (c : ℕ) → c ≡ 0 → start ≡ start_of start ends c
start_first start ends zero e = refl
start_first start ends (suc c) e = absurd (omega arith)

record Part (A : Type 0) (start : ℕ) (ends : List ℕ) (xs : List A) (c : ℕ) : Type 0 where
  pub is : get_or (parts_from start ends xs) c [] ≡ slice_range xs (start_of start ends c) (get_or ends c 0)
  pub from : start_of start ends c ≤ get_or ends c 0
  pub within : get_or ends c 0 ≤ length xs

part_at : {A : Type 0} (start : ℕ) (ends : List ℕ) (xs : List A) (c : ℕ) → AreEnds start ends (length xs) → c < length ends → Part A start ends xs c
part_at start [] xs c e lt = absurd (omega arith)
part_at start (end ∷ ends) xs zero e lt = record { is = refl; from = e.0; within = ends_within end ends (length xs) e.1 }
part_at start (end ∷ ends) xs (suc zero) e lt = let p = part_at end ends xs 0 e.1 (omega arith) in record { is = p.is; from = p.from; within = p.within }
part_at start (end ∷ ends) xs (suc (suc c)) e lt = let p = part_at end ends xs (suc c) e.1 (omega arith) in record { is = p.is; from = p.from; within = p.within }

length-parts : {A : Type 0} (start : ℕ) (ends : List ℕ) (xs : List A) → length (parts_from start ends xs) ≡ length ends
length-parts start [] xs = refl
length-parts start (end ∷ ends) xs = ap (λ n. suc n) (length-parts end ends xs)

-- a class of circuits, by the ranks that are kept
pub record ClassKept (b : Limits) (ends members : List ℕ) (c start end : ℕ) : Type 0 where
  pub from : start ≤ end
  pub within : end ≤ length members
  pub len : length (numbered_class (circuits_of_ranks b (parts ends members)) c) ≡ end - start
  pub member : (k : ℕ) → k < end - start → numbered_member (circuits_of_ranks b (parts ends members)) c k ≡ circuit_at b (get_or members (start + k) 0)

class_kept_at : (b : Limits) (ends members : List ℕ) (c start end : ℕ) → AreEnds 0 ends (length members) → c < length ends → start ≡ start_of 0 ends c → end ≡ get_or ends c 0 → ClassKept b ends members c start end
class_kept_at b ends members c start end e lt s t =
    let p = part_at 0 ends members c e lt in
    let ranks = slice_range members start end in
    let listed : c < length (parts ends members) = omega (arith, length-parts 0 ends members) in
    let here : get_or (parts ends members) c [] ≡ ranks = rw (s, t) p.is in
    let class : numbered_class (circuits_of_ranks b (parts ends members)) c ≡ map (circuit_at b) ranks = get_or-map (map (circuit_at b)) (parts ends members) c [] [] listed ∙ ap (map (circuit_at b)) here in
    let count : length ranks ≡ end - start = omega (arith, length-take (end - start) (drop start members), length-drop start members, p.from, p.within, s, t) in
    record {
      from = omega (arith, p.from, s, t);
      within = omega (arith, p.within, t);
      len = ap length class ∙ length-map ranks (circuit_at b) ∙ count;
      member = λ k lk.
          ap (λ (cs : List Circuit). get_or cs k []) class ∙ get_or-map (circuit_at b) ranks k 0 [] (omega (arith, count))
          ∙ ap (circuit_at b) (get_or-take (end - start) (drop start members) k 0 lk ∙ get_or-drop start members k 0);
    }

pub kept_len : (b : Limits) (ends members : List ℕ) → length (circuits_of_ranks b (parts ends members)) ≡ length ends
kept_len b ends members = length-map (parts ends members) (map (circuit_at b)) ∙ length-parts 0 ends members

-- each class has two members or more, and not too many
class_fit : (b : Limits) (classes : List (List Circuit)) (c : ℕ) → AreClasses b classes → c < length classes → IsClass b (numbered_class classes c)
class_fit b classes c f lt = All-from_recursion (IsClass b) classes f.each c [] lt

-- ---- seen as a value

-- what is kept, as a value
abbrev pub seen_as : Limits → List ℕ → List ℕ → RuleClasses
seen_as b ends members = record { bounds = b; classes = circuits_of_ranks b (parts ends members) }

pub in_ends : (b : Limits) (ends members : List ℕ) (v : RuleClasses) (c : ℕ) → seen_as b ends members ≡ v → c < length v.classes → c < length ends
in_ends b ends members v c e lt =
    let same : length (circuits_of_ranks b (parts ends members)) ≡ length v.classes = ap (λ (w : RuleClasses). length w.classes) e in
    omega (arith, kept_len b ends members)

-- a class of the value, by the ranks that are kept
pub record ClassOf (v : RuleClasses) (b : Limits) (ends members : List ℕ) (c start end : ℕ) : Type 0 where
  pub from : start ≤ end
  pub within : end ≤ length members
  pub len : length (numbered_class v.classes c) ≡ end - start
  pub several : 2 ≤ end - start
  pub few : end - start < 1000000000
  pub member : (k : ℕ) → k < end - start → numbered_member v.classes c k ≡ circuit_at b (get_or members (start + k) 0)

pub class_of : (b : Limits) (ends members : List ℕ) (v : RuleClasses) (c start end : ℕ) → seen_as b ends members ≡ v → AreEnds 0 ends (length members) → AreClasses b (circuits_of_ranks b (parts ends members)) → c < length v.classes → start ≡ start_of 0 ends c → end ≡ get_or ends c 0 → ClassOf v b ends members c start end
class_of b ends members v c start end e are fit lt s t =
    let lt_ends = in_ends b ends members v c e lt in
    let k = class_kept_at b ends members c start end are lt_ends s t in
    let f = class_fit b (circuits_of_ranks b (parts ends members)) c fit (omega (arith, kept_len b ends members, lt_ends)) in
    let same : numbered_class (circuits_of_ranks b (parts ends members)) c ≡ numbered_class v.classes c = ap (λ (w : RuleClasses). numbered_class w.classes c) e in
    record {
      from = k.from;
      within = k.within;
      len = sym (ap length same) ∙ k.len;
      several = omega (arith, k.len, f.several);
      few = omega (arith, k.len, f.few);
      member = λ j lj. sym (ap (λ (cs : List Circuit). get_or cs j []) same) ∙ k.member j lj;
    }

-- a member of the value, by its rank
pub record MemberOf (v : RuleClasses) (b : Limits) (members : List ℕ) (c k place : ℕ) : Type 0 where
  pub within : place < length members
  pub circuit : circuit_at b (get_or members place 0) ≡ numbered_member v.classes c k

pub member_of : (b : Limits) (ends members : List ℕ) (v : RuleClasses) (c k start : ℕ) → seen_as b ends members ≡ v → AreEnds 0 ends (length members) → AreClasses b (circuits_of_ranks b (parts ends members)) → c < length v.classes → k < length (numbered_class v.classes c) → start ≡ start_of 0 ends c → MemberOf v b members c k (start + k)
member_of b ends members v c k start e are fit lt lk s =
    let class = class_of b ends members v c start (get_or ends c 0) e are fit lt s refl in
    let inside : k < get_or ends c 0 - start = omega (arith, class.len) in
    record { within = omega (arith, class.within, class.from); circuit = sym (class.member k inside) }
