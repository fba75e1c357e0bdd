-- The rules of a class, left side by left side.
use Rattle.std.proofs.Common.{◌≡◌, ◌≢◌, ℕ, zero, suc, ◌+◌, ◌<◌, ◌≤◌, ◌==◌, ◌&&◌, Bool, true, false, not, cond, List, [], ◌∷◌, ◌++◌, filter, length, get_or, append-nil, append_assoc, refl, sym, ap, subst, ◌∙◌, nat_lt, arith}
use Rattle.std.specs.List.{AllByRecursion, flat_map, range_with_len}
use Rattle.std.proofs.lemmas.Bool.{eq-eqb, ne_eqb}
use Rattle.qz_circ.specs.Circuit.{Circuit, IsOn, below}
use Rattle.qz_circ.specs.Places.{is_connected}
use Rattle.qz_circ.specs.ProgramCircuits.{ProgramCircuit, IsProgramGate}
use Rattle.qz_circ.specs.Replacement.{numbered, children_by, children_in}
use Rattle.qz_circ.proofs.RisingLists.{each_weaker, each-filter, each-range}
use Rattle.qz_circ.proofs.TwoPlaces.{flat_map-below}
use Rattle.std.specs.Global.{Vec}
use Rattle.std.proofs.lemmas.List.{length-map}
use Rattle.qz_circ.specs.declared.circuit.Op.{Op}
use Rattle.qz_search.specs.declared.renaming.Renaming.{Renaming}
use Rattle.qz_search.specs.declared.table.Side.{Side}
use Rattle.qz_circ.specs.Vectors.{lists_of}
use Rattle.qz_search.specs.Classes.{AreRuleSides, children_of_some, children_with}
use Rattle.qz_search.specs.Renamings.{circuit_by}
use Rattle.qz_search.specs.Tables.{AreRights, IsRightAdded, IsTable}
use Rattle.qz_search.proofs.Alike.{alike_same, flat_map-one}
use Rattle.qz_search.proofs.ClassLimits.{at_number}
use Rattle.qz_search.proofs.RenamedRules.{named_on, named_short, named_same}
use Rattle.qz_search.proofs.TableLaws.{right_added, rights_as, nothing_walked, table_as}

-- ---- members that are held in vectors

pub member_is : (vs : List (Vec Op)) (i : ℕ) (v : Vec Op) → i < length vs → v ≡ get_or vs i v → v.items ≡ numbered (lists_of vs) i
member_is [] i v less e = absurd (omega arith)
member_is (w ∷ vs) zero v less e = ap (λ u. u.items) e
member_is (w ∷ vs) (suc i) v less e = member_is vs i v (omega arith) e

pub within_circuits : (vs : List (Vec Op)) (i : ℕ) → i < length vs → i < length (lists_of vs)
within_circuits vs i less = omega (arith, length-map vs (λ v. v.items))

pub side_at : (vs : List (Vec Op)) (i : ℕ) → i < length vs → AreRuleSides (lists_of vs) → IsOn 3 3 (numbered (lists_of vs) i) × (length (numbered (lists_of vs) i) ≤ 6)
side_at vs i less fit =
    at_number (λ a. IsOn 3 3 a × (length a ≤ 6)) [] (lists_of vs) i fit (within_circuits vs i less)

pub member_on : (members : List Circuit) (i : ℕ) → i < length members → AreRuleSides members → IsOn 3 3 (numbered members i) × (length (numbered members i) ≤ 6)
member_on members i less fit = at_number (λ a. IsOn 3 3 a × (length a ≤ 6)) [] members i fit less

-- ---- one more number

range-more : (a n : ℕ) → range_with_len a (suc n) ≡ range_with_len a n ++ (a + n) ∷ []
range-more a zero = let same : a ≡ a + 0 = omega arith in ap (λ k. k ∷ []) same
range-more a (suc n) =
    let same : (a + 1) + n ≡ a + suc n = omega arith in
    ap (λ zs. a ∷ zs) (range-more (a + 1) n ∙ ap (λ k. range_with_len (a + 1) n ++ k ∷ []) same)

below-more : (n : ℕ) → below (n + 1) ≡ below n ++ n ∷ []
below-more n =
    let one : n + 1 ≡ suc n = omega arith in
    let same : 0 + n ≡ n = omega arith in
    ap below one ∙ range-more 0 n ∙ ap (λ k. range_with_len 0 n ++ k ∷ []) same

filter-one : {A : Type 0} (p : A → Bool) (xs : List A) (x : A) → filter p (xs ++ x ∷ []) ≡ filter p xs ++ cond (p x) (x ∷ []) []
filter-one p [] x = refl
filter-one {A} p (y ∷ xs) x = by (p y) (filter-one p xs x)
  where
    by : (b : Bool) → filter p (xs ++ x ∷ []) ≡ filter p xs ++ cond (p x) (x ∷ []) [] → cond b (y ∷ filter p (xs ++ x ∷ [])) (filter p (xs ++ x ∷ [])) ≡ cond b (y ∷ filter p xs) (filter p xs) ++ cond (p x) (x ∷ []) []
    by true ih = ap (λ zs. y ∷ zs) ih
    by false ih = ih

others_more : (i j : ℕ) (b : Bool) → (j == i) ≡ b → filter (λ j. not (j == i)) (below (j + 1)) ≡ filter (λ j. not (j == i)) (below j) ++ cond (not b) (j ∷ []) []
others_more i j b e =
    ap (filter (λ j. not (j == i))) (below-more j) ∙ filter-one (λ j. not (j == i)) (below j) j ∙ ap (λ d. filter (λ j. not (j == i)) (below j) ++ cond (not d) (j ∷ []) []) e

-- the member itself is passed over
pub passed_over : (members : List Circuit) (i j : ℕ) (c : ProgramCircuit) → j ≡ i → children_of_some members i (below j) c ≡ children_of_some members i (below (j + 1)) c
passed_over members i j c e =
    ap (flat_map (λ k. children_by (numbered members i) (numbered members k) c)) (sym (append-nil (filter (λ k. not (k == i)) (below j))) ∙ sym (others_more i j true (eq-eqb j i e)))

-- and each other one is taken
pub taken_in : (members : List Circuit) (i j : ℕ) (c : ProgramCircuit) → j ≢ i → children_of_some members i (below j) c ++ children_by (numbered members i) (numbered members j) c ≡ children_of_some members i (below (j + 1)) c
taken_in members i j c n =
    let by : ℕ → List ProgramCircuit = λ k. children_by (numbered members i) (numbered members k) c in
    sym (flat_map-one by (filter (λ k. not (k == i)) (below j)) j) ∙ ap (flat_map by) (sym (others_more i j false (ne_eqb j i n)))

-- ---- rows

pub row_passed : (circuits : List Circuit) (left : Circuit) (members : List Circuit) (i j : ℕ) (rights : List ℕ) → j ≡ i → AreRights circuits left rights (children_of_some members i (below j)) → AreRights circuits left rights (children_of_some members i (below (j + 1)))
row_passed circuits left members i j rights e h =
    rights_as circuits left rights (children_of_some members i (below j)) (children_of_some members i (below (j + 1))) (λ c. passed_over members i j c e) h

pub row_taken : (old new : List Circuit) (names : Renaming) (members : List Circuit) (i j : ℕ) (left right : Circuit) (rights after : List ℕ) → j ≢ i → i < length members → j < length members → AreRuleSides members → left ≡ circuit_by names (numbered members i)
    → right ≡ circuit_by names (numbered members j) → IsRightAdded left right old new rights after → AreRights old left rights (children_of_some members i (below j)) → AreRights new left after (children_of_some members i (below (j + 1)))
row_taken old new names members i j left right rights after n first second fit left_is right_is added h =
    let by : ProgramCircuit → List ProgramCircuit = λ c. children_by (numbered members i) (numbered members j) c in
    rights_as new left after (λ c. children_of_some members i (below j) c ++ by c) (children_of_some members i (below (j + 1))) (λ c. taken_in members i j c n)
    (right_added old new left right rights after (children_of_some members i (below j)) by
    (λ c lawful. (λ k. children_by (left_is k) (right_is k) c) ∙ named_same names (numbered members i) (numbered members j) c (member_on members i first fit).0 (member_on members j second fit).0 lawful) h added)

-- the circuit of a member, renamed
pub named_member : (names : Renaming) (vs : List (Vec Op)) (j : ℕ) (v : Vec Op) (now named : Circuit) → j < length vs → v ≡ get_or vs j v → now ≡ v.items → named ≡ circuit_by names now → named ≡ circuit_by names (numbered (lists_of vs) j)
named_member names vs j v now named less is same e = e ∙ ap (circuit_by names) (same ∙ member_is vs j v less is)

pub named_fits : (names : Renaming) (vs : List (Vec Op)) (j : ℕ) (named : Circuit) → j < length vs → AreRuleSides (lists_of vs) → named ≡ circuit_by names (numbered (lists_of vs) j) → IsOn 3 3 named × (length named ≤ 6)
named_fits names vs j named less fit e =
    let own = side_at vs j less fit in
    (subst (IsOn 3 3) (sym e) (named_on names (numbered (lists_of vs) j) own.0), subst (λ a. length a ≤ 6) (sym e) (named_short names (numbered (lists_of vs) j) own.1))

pub all_of_some : (circuits : List Circuit) (left : Circuit) (vs : List (Vec Op)) (i : ℕ) (rights : List ℕ) → AreRights circuits left rights (children_of_some (lists_of vs) i (below (length vs))) → AreRights circuits left rights (children_with (lists_of vs) i)
all_of_some circuits left vs i rights h =
    subst (λ n. AreRights circuits left rights (children_of_some (lists_of vs) i (below n))) (sym (length-map vs (λ v. v.items))) h

-- a member over which there is no walk is no left side
none_comes : {A B : Type 0} (f : A → List B) (xs : List A) → AllByRecursion (λ x. f x ≡ []) xs → flat_map f xs ≡ []
none_comes f [] h = refl
none_comes f (x ∷ xs) h = λ i. h.0 i ++ none_comes f xs h.1 i

row_empty : (names : Renaming) (members : List Circuit) (i : ℕ) (c : ProgramCircuit) → i < length members → AreRuleSides members → AllByRecursion (IsProgramGate 64) c
    → false ≡ (nat_lt 0 (length (circuit_by names (numbered members i))) && is_connected (circuit_by names (numbered members i))) → children_with members i c ≡ []
row_empty names members i c within fit lawful walked =
    none_comes (λ j. children_by (numbered members i) (numbered members j) c) (filter (λ j. not (j == i)) (below (length members)))
    (each_weaker (λ j. ((0 ≤ j) × (j < 0 + length members)) × (not (j == i) ≡ true)) (λ j. children_by (numbered members i) (numbered members j) c ≡ []) (λ j h. by j h.0.1) (filter (λ j. not (j == i)) (below (length members)))
    (each-filter (λ j. (0 ≤ j) × (j < 0 + length members)) (λ j. not (j == i)) (below (length members)) (each-range 0 (length members))))
  where
    on : (k : ℕ) → k < length members → IsOn 3 3 (numbered members k)
    on k less = (at_number (λ a. IsOn 3 3 a × (length a ≤ 6)) [] members k fit less).0

    by : (j : ℕ) → j < 0 + length members → children_by (numbered members i) (numbered members j) c ≡ []
    by j less =
        let also : j < length members = omega arith in
        sym (named_same names (numbered members i) (numbered members j) c (on i within) (on j also) lawful) ∙ nothing_walked (circuit_by names (numbered members i)) (circuit_by names (numbered members j)) c walked

pub row_skipped : (circuits : List Circuit) (sides : List Side) (names : Renaming) (members : List Circuit) (i : ℕ) (left : Circuit) (before : ProgramCircuit → List ProgramCircuit) → i < length members → AreRuleSides members → left ≡ circuit_by names (numbered members i)
    → false ≡ (nat_lt 0 (length left) && is_connected left) → IsTable circuits sides before → IsTable circuits sides (λ c. before c ++ children_with members i c)
row_skipped circuits sides names members i left before within fit left_is walked table =
    table_as circuits sides before (λ c. before c ++ children_with members i c)
    (alike_same before (λ c. before c ++ children_with members i c) (λ c lawful. sym (append-nil (before c)) ∙ ap (λ cs. before c ++ cs) (sym (row_empty names members i c within fit lawful (subst (λ a. false ≡ (nat_lt 0 (length a) && is_connected a)) left_is walked))))) table

-- ---- classes

pub rows_more : (members : List Circuit) (i : ℕ) (before : ProgramCircuit → List ProgramCircuit) (c : ProgramCircuit) → (before c ++ flat_map (λ k. children_with members k c) (below i)) ++ children_with members i c ≡ before c ++ flat_map (λ k. children_with members k c) (below (i + 1))
rows_more members i before c =
    let one : i + 1 ≡ suc i = omega arith in
    append_assoc (before c) (flat_map (λ k. children_with members k c) (below i)) (children_with members i c)
    ∙ ap (λ cs. before c ++ cs) (sym (flat_map-below (λ k. children_with members k c) i) ∙ ap (λ n. flat_map (λ k. children_with members k c) (below n)) (sym one))

pub rows_all : (members : List Circuit) (c : ProgramCircuit) → flat_map (λ k. children_with members k c) (below (length members)) ≡ children_in members c
unfolding children_in
rows_all members c = refl
