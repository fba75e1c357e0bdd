-- The text of a rule file, piece by piece.
use Rattle.std.proofs.Common.{◌≡◌, ◌≢◌, ℕ, ◌+◌, ◌<◌, ◌≤◌, List, [], ◌∷◌, ◌++◌, map, length, take, codes, slice_get, Some, refl, ap, ◌∙◌, append_assoc, arith, add-one}
use Rattle.std.specs.Fmt.{decimal}
use Rattle.std.specs.List.{flat_map, join_with_byte}
use Rattle.std.proofs.lemmas.List.{append-nil, flat_map_more, length-map}
use Rattle.std.proofs.lemmas.Bool.{eq-eqb, ne_eqb}
use Rattle.std.proofs.lemmas.List.Folds.{flat_map-map}
use Rattle.std.proofs.lemmas.Option.{slice_get_within, get_or_from_slice_get}
use Rattle.std.proofs.Math.Seq.{take-suc}
use Rattle.qz_circ.specs.Circuit.{Circuit, Limits}
use Rattle.qz_circ.specs.Order.{circuit_at}
use Rattle.qz_circ.specs.Lines.{line}
use Rattle.qz_circ.specs.RuleText.{gate_text, circuit_text, member_text, class_text, head_of, head_text, classes_text, rule_text}

-- where there is a gate, the gates are joined by semicolons
pub gates_joined : (grain : ℕ) (c : Circuit) → 1 ≤ length c → circuit_text grain c ≡ join_with_byte 59 (map (gate_text grain) c)
unfolding circuit_text
gates_joined grain [] some = absurd (omega arith)
gates_joined grain (g ∷ rest) some = refl

-- the class with this number is what the classes up to it have more
taken_more : {A : Type 0} (xs : List A) (i : ℕ) (x : A) → slice_get xs i ≡ Some x → take (i + 1) xs ≡ take i xs ++ x ∷ []
taken_more xs i x h =
    let within : i < length xs = slice_get_within xs i x h in
    rw add-one (take-suc xs i x within ∙ ap (λ y. take i xs ++ y ∷ []) (get_or_from_slice_get xs i x x h))

-- the text of one class more behind those before it
pub class_appended : (f : List ℕ → List ℕ) (classes : List (List ℕ)) (members : List ℕ) (i : ℕ) (o a n : List ℕ) → slice_get classes i ≡ Some members → a ≡ o ++ flat_map f (take i classes) → n ≡ a ++ f members → n ≡ o ++ flat_map f (take (i + 1) classes)
class_appended f classes members i o a n h before now =
    rw (now, before, taken_more classes i members h) (flat_map_more f o (take i classes) members)

-- end to end, grouped as they are written and as they are defined
regroup : (o v bs n s q m nl : List ℕ) → o ++ (v ++ nl) ++ bs ++ n ++ s ++ q ++ s ++ m ++ nl ≡ o ++ ((v ++ nl) ++ ((bs ++ n ++ s ++ q ++ s ++ m ++ []) ++ nl))
regroup o v bs n s q m nl = simp (append_assoc, append-nil)

regroup_told : (o v bs n s q m g nl : List ℕ) → o ++ (v ++ nl) ++ bs ++ n ++ s ++ q ++ s ++ m ++ s ++ g ++ nl ≡ o ++ ((v ++ nl) ++ ((bs ++ n ++ s ++ q ++ s ++ m ++ (s ++ g)) ++ nl))
regroup_told o v bs n s q m g nl = simp append_assoc

-- the pieces of the head in order, where the grain isn't told
pub head_pieces : (b : Limits) (o a c f : List ℕ) → b.grain ≡ 4 → a ≡ o ++ line (codes "quartz-rules 1") → c ≡ a ++ codes "bounds " ++ decimal b.n ++ codes " " ++ decimal b.q ++ codes " " ++ decimal b.m → f ≡ c ++ 10 ∷ [] → f ≡ o ++ head_text (head_of b)
unfolding head_text
head_pieces b o a c f four ea ec ef =
    rw (ef, ec, ea, eq-eqb b.grain 4 four) (regroup o (codes "quartz-rules 1") (codes "bounds ") (decimal b.n) (codes " ") (decimal b.q) (decimal b.m) (10 ∷ []))

-- and where it is
pub head_pieces_told : (b : Limits) (o a c d f : List ℕ) → b.grain ≢ 4 → a ≡ o ++ line (codes "quartz-rules 2") → c ≡ a ++ codes "bounds " ++ decimal b.n ++ codes " " ++ decimal b.q ++ codes " " ++ decimal b.m → d ≡ c ++ codes " " ++ decimal b.grain → f ≡ d ++ 10 ∷ [] → f ≡ o ++ head_text (head_of b)
unfolding head_text
head_pieces_told b o a c d f other ea ec ed ef =
    rw (ef, ed, ec, ea, ne_eqb b.grain 4 other) (regroup_told o (codes "quartz-rules 2") (codes "bounds ") (decimal b.n) (codes " ") (decimal b.q) (decimal b.m) (decimal b.grain) (10 ∷ []))

file_regroup : (o h c m e : List ℕ) → o ++ h ++ c ++ m ++ e ≡ o ++ (h ++ (c ++ m ++ e))
file_regroup o h c m e = simp append_assoc

-- how many members a class has, and the line of each
pub class_pieces : (b : Limits) (ranks : List ℕ) (o a l : List ℕ) → a ≡ o ++ line (codes "class " ++ decimal (length ranks)) → l ≡ a ++ flat_map (λ r. member_text b.grain (circuit_at b r)) ranks → l ≡ o ++ class_text b.grain (map (circuit_at b) ranks)
unfolding class_text
class_pieces b ranks o a l counted members =
    rw (members, counted, length-map, flat_map-map (member_text b.grain) (circuit_at b) ranks) (append_assoc o _ _)

-- the head, how many classes there are, the text of each, and the end
pub file_pieces : (b : Limits) (classes : List (List ℕ)) (o a c d e : List ℕ) → a ≡ o ++ head_text (head_of b) → c ≡ a ++ line (codes "classes " ++ decimal (length classes)) → d ≡ c ++ flat_map (λ ranks. class_text b.grain (map (circuit_at b) ranks)) classes → e ≡ d ++ line (codes "end") → e ≡ o ++ rule_text b classes
unfolding classes_text rule_text
file_pieces b classes o a c d e head counted each ended =
    rw (ended, each, counted, head, length-map, flat_map-map (class_text b.grain) (map (circuit_at b)) classes)
    (file_regroup o (head_text (head_of b)) (line (codes "classes " ++ decimal (length classes))) (flat_map (λ ranks. class_text b.grain (map (circuit_at b) ranks)) classes) (line (codes "end")))
