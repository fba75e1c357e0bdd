-- Tables of rules: programs become by them what they become by the classes.
use Rattle.std.proofs.Common.{◌≡◌, ◌↔◌, ℕ, ◌<◌, ◌≤◌, ◌⊎◌, inl, inr, ◌&&◌, Bool, true, false, List, [], ◌∷◌, ◌++◌, length, nat_lt, Contains, append-nil, append_assoc, refl, sym, ap, subst, ◌∙◌, arith}
use Rattle.std.specs.List.{AllByRecursion}
use Rattle.std.specs.List.Sorted.{IsPermutation}
use Rattle.std.proofs.lemmas.Bool.{and_parts}
use Rattle.std.proofs.lemmas.List.{length-append}
use Rattle.std.proofs.lemmas.List.Sorted.{IsPermutation-sym}
use Rattle.qz_circ.specs.Circuit.{Circuit, IsOn}
use Rattle.qz_circ.specs.Places.{is_connected, places, all_places}
use Rattle.qz_circ.specs.ProgramCircuits.{ProgramCircuit, IsProgramGate}
use Rattle.qz_circ.specs.Replacement.{numbered, children_by}
use Rattle.qz_circ.proofs.RisingLists.{each_weaker, each-append}
use Rattle.qz_match.specs.Occurring.{occur_in}
use Rattle.qz_match.specs.Walks.{IsWalk}
use Rattle.qz_match.proofs.UsableRules.{its_places, is_usable-is, usable-yes, walked_some}
use Rattle.qz_rewrite.proofs.RenamedUsable.{unusable_childless}
use Rattle.qz_queue.proofs.DifferentOnes.{Has}
use Rattle.qz_search.specs.declared.table.Side.{Side}
use Rattle.qz_search.specs.Circuits.{IsLonger}
use Rattle.qz_search.specs.Tables.{IsRule, AreAlike, IsRight, IsSide, IsTable, IsRightAdded, AreRights, IsTwinTaken, AreTwinsTaken, children_by_numbers, children_of, children_of_all}
use Rattle.qz_search.proofs.Members.{has_flat_map, flat_map_has}
use Rattle.qz_search.proofs.Alike.{said, has_at, at_has, each_of, of_each, each_front, each_back, alike_same, alike_then, alike_flip, alike_behind, alike_before, alike_swapped, each_sorted, has_sorted, flat_map-one, flat_map-append}
use Rattle.qz_search.proofs.Numbers.{longer_length, number_kept}

-- ---- circuits that get numbers

pub right_kept : (old new : List Circuit) (left : Circuit) (k : ℕ) → IsLonger old new → IsRight old left k → IsRight new left k
right_kept old new left k h right =
    (longer_length old new k h right.0, subst (IsRule left) (sym (number_kept old new k h right.0)) right.1)

pub rights_kept : (old new : List Circuit) (left : Circuit) (rights : List ℕ) → IsLonger old new → AllByRecursion (IsRight old left) rights → AllByRecursion (IsRight new left) rights
rights_kept old new left rights h each = each_weaker (IsRight old left) (IsRight new left) (λ k right. right_kept old new left k h right) rights each

side_kept : (old new : List Circuit) (side : Side) → IsLonger old new → IsSide old side → IsSide new side
side_kept old new side h s =
    record { some = s.some; short = s.short; on = s.on; walk = s.walk; rights = rights_kept old new side.left.items side.rights.items h s.rights }

numbers_kept : (old new : List Circuit) (left : Circuit) (rights : List ℕ) (c : ProgramCircuit) → IsLonger old new → AllByRecursion (IsRight old left) rights → children_by_numbers new left rights c ≡ children_by_numbers old left rights c
numbers_kept old new left [] c h each = refl
numbers_kept old new left (k ∷ rights) c h each =
    λ i. children_by left (number_kept old new k h each.0.0 i) c ++ numbers_kept old new left rights c h each.1 i

sides_kept : (old new : List Circuit) (sides : List Side) (c : ProgramCircuit) → IsLonger old new → AllByRecursion (IsSide old) sides → children_of_all new sides c ≡ children_of_all old sides c
sides_kept old new [] c h each = refl
sides_kept old new (side ∷ sides) c h each =
    λ i. numbers_kept old new side.left.items side.rights.items c h each.0.rights i ++ sides_kept old new sides c h each.1 i

pub table_kept : (old new : List Circuit) (sides : List Side) (children : ProgramCircuit → List ProgramCircuit) → IsLonger old new → IsTable old sides children → IsTable new sides children
table_kept old new sides children h table =
    record {
      each = each_weaker (IsSide old) (IsSide new) (λ side s. side_kept old new side h s) sides table.each;
      alike = alike_then (children_of_all new sides) (children_of_all old sides) children (alike_same _ _ (λ c lawful. sides_kept old new sides c h table.each)) table.alike;
    }

-- ---- right sides

pub no_rights : (circuits : List Circuit) (left : Circuit) → AreRights circuits left [] (λ c. [])
no_rights circuits left = record { each = tt; same = λ c lawful. refl }

pub rights_as : (circuits : List Circuit) (left : Circuit) (rights : List ℕ) (f g : ProgramCircuit → List ProgramCircuit) → ((c : ProgramCircuit) → f c ≡ g c) → AreRights circuits left rights f → AreRights circuits left rights g
rights_as circuits left rights f g e h = record { each = h.each; same = λ c lawful. h.same c lawful ∙ e c }

-- one more, or one by which nothing comes
pub right_added : (old new : List Circuit) (left right : Circuit) (rights after : List ℕ) (f g : ProgramCircuit → List ProgramCircuit) → ((c : ProgramCircuit) → AllByRecursion (IsProgramGate 64) c → children_by left right c ≡ g c)
    → AreRights old left rights f → IsRightAdded left right old new rights after → AreRights new left after (λ c. f c ++ g c)
right_added old new left right rights after f g same h added = by added.added
  where
    kept : (c : ProgramCircuit) → AllByRecursion (IsProgramGate 64) c → children_by_numbers new left rights c ≡ f c
    kept c lawful = numbers_kept old new left rights c added.longer h.each ∙ h.same c lawful

    by : ((after ≡ rights) × ((c : ProgramCircuit) → children_by left right c ≡ [])) ⊎ ((k : ℕ) × (after ≡ rights ++ k ∷ []) × (numbered new k ≡ right) × IsRight new left k) → AreRights new left after (λ c. f c ++ g c)
    by (inl none) =
        record {
          each = subst (AllByRecursion (IsRight new left)) (sym none.0) (rights_kept old new left rights added.longer h.each);
          same = λ c lawful. ap (λ ks. children_by_numbers new left ks c) none.0 ∙ kept c lawful ∙ sym (append-nil (f c)) ∙ ap (λ cs. f c ++ cs) (sym (none.1 c) ∙ same c lawful);
        }
    by (inr more) =
        record {
          each = subst (AllByRecursion (IsRight new left)) (sym more.1) (each-append (IsRight new left) rights (more.0 ∷ []) (rights_kept old new left rights added.longer h.each) (more.3, tt));
          same = λ c lawful. ap (λ ks. children_by_numbers new left ks c) more.1 ∙ flat_map-one (λ k. children_by left (numbered new k) c) rights more.0 ∙ (λ i. kept c lawful i ++ children_by left (more.2 i) c) ∙ ap (λ cs. f c ++ cs) (same c lawful);
        }

-- a rule is one where left has a walk and right has nothing that left doesn't have
pub is_rule : (left right : Circuit) → IsOn 3 3 left → length left ≤ 6 → IsOn 3 3 right → length right ≤ 6 → true ≡ (nat_lt 0 (length left) && is_connected left) → true ≡ occur_in left right → IsRule left right
is_rule left right left_on left_short right_on right_short walked covered =
    record {
      left_on = left_on;
      right_on = right_on;
      left_short = left_short;
      right_short = right_short;
      usable = sym (usable-yes left right true walked covered);
    }

-- else nothing comes by it
pub nothing_covered : (left right : Circuit) (c : ProgramCircuit) → false ≡ occur_in left right → children_by left right c ≡ []
nothing_covered left right c e = unusable_childless left right c (is_usable-is left right ∙ ap (λ b. (nat_lt 0 (length left) && is_connected left) && b) (sym e) ∙ and_false (nat_lt 0 (length left) && is_connected left))
  where
    and_false : (b : Bool) → (b && false) ≡ false
    and_false true = refl
    and_false false = refl

pub nothing_walked : (left right : Circuit) (c : ProgramCircuit) → false ≡ (nat_lt 0 (length left) && is_connected left) → children_by left right c ≡ []
nothing_walked left right c e =
    unusable_childless left right c (is_usable-is left right ∙ ap (λ b. b && occur_in left right) (sym e))

pub usable_walked : (left right : Circuit) → IsRule left right → true ≡ (nat_lt 0 (length left) && is_connected left)
usable_walked left right h =
    sym (and_parts (nat_lt 0 (length left) && is_connected left) (occur_in left right) (sym (is_usable-is left right) ∙ h.usable)).0

pub usable_occur : (left right : Circuit) → IsRule left right → true ≡ occur_in left right
usable_occur left right h =
    sym (and_parts (nat_lt 0 (length left) && is_connected left) (occur_in left right) (sym (is_usable-is left right) ∙ h.usable)).1

pub right_places : (left right : Circuit) (c : ProgramCircuit) → IsRule left right → places left right c ≡ all_places left c
right_places left right c h = its_places left right c (usable_walked left right h) (usable_occur left right h)

-- ---- sides

pub no_sides : (circuits : List Circuit) → IsTable circuits [] (λ c. [])
no_sides circuits = record { each = tt; alike = alike_same (children_of_all circuits []) (λ c. []) (λ c lawful. refl) }

pub table_as : (circuits : List Circuit) (sides : List Side) (f g : ProgramCircuit → List ProgramCircuit) → AreAlike f g → IsTable circuits sides f → IsTable circuits sides g
table_as circuits sides f g h table =
    record { each = table.each; alike = alike_then (children_of_all circuits sides) f g table.alike h }

pub side_of : (circuits : List Circuit) (side : Side) (f : ProgramCircuit → List ProgramCircuit) → IsOn 3 3 side.left.items → length side.left.items ≤ 6 → true ≡ (nat_lt 0 (length side.left.items) && is_connected side.left.items) → IsWalk side.left.items side.walk
    → AreRights circuits side.left.items side.rights.items f → IsSide circuits side
side_of circuits side f on short walked walk rights =
    record { some = walked_some side.left.items walked; short = short; on = on; walk = walk; rights = rights.each }

pub side_added : (circuits : List Circuit) (sides : List Side) (side : Side) (before f : ProgramCircuit → List ProgramCircuit) → IsSide circuits side → AreRights circuits side.left.items side.rights.items f → IsTable circuits sides before
    → IsTable circuits (sides ++ side ∷ []) (λ c. before c ++ f c)
side_added circuits sides side before f s rights table =
    record {
      each = each-append (IsSide circuits) sides (side ∷ []) table.each (s, tt);
      alike =
          alike_then (children_of_all circuits (sides ++ side ∷ [])) (λ c. children_of_all circuits sides c ++ f c) (λ c. before c ++ f c)
          (alike_same _ _ (λ c lawful. flat_map-one (λ s. children_of circuits s c) sides side ∙ ap (λ cs. children_of_all circuits sides c ++ cs) (rights.same c lawful)))
          (alike_before (children_of_all circuits sides) before f table.alike);
    }

-- ---- sides with the same left side

pub none_taken : (left : Circuit) (rights : List ℕ) (sides : List Side) → AreTwinsTaken left rights rights sides sides
none_taken left rights sides =
    record { each = λ circuits h. h; rights = λ circuits h k. k; alike = λ circuits. alike_same _ _ (λ c lawful. refl); fewer = omega arith }

pub taken_as : (left : Circuit) (before after : List ℕ) (old rest new : List Side) → new ≡ rest → AreTwinsTaken left before after old rest → AreTwinsTaken left before after old new
taken_as left before after old rest new e h = subst (AreTwinsTaken left before after old) (sym e) h

pub one_taken : (left : Circuit) (before rights after more : List ℕ) (old sides new : List Side) → AreTwinsTaken left before rights old sides → IsTwinTaken left more sides new → after ≡ rights ++ more → AreTwinsTaken left before after old new
one_taken left before rights after more old sides new h taken e =
    record {
      each = λ circuits all. each_front (IsSide circuits) new (taken.side ∷ []) (parts circuits all);
      rights = λ circuits all each. subst (AllByRecursion (IsRight circuits left)) (sym e) (each-append (IsRight circuits left) rights more (h.rights circuits all each)
          (subst (λ l. AllByRecursion (IsRight circuits l) more) taken.left_is (subst (λ ks. AllByRecursion (IsRight circuits taken.side.left.items) ks) taken.rights_are (each_back (IsSide circuits) new (taken.side ∷ []) (parts circuits all)).0.rights)));
      alike = λ circuits. alike_then _ (λ c. children_of_all circuits sides c ++ children_by_numbers circuits left rights c) _ (h.alike circuits)
          (alike_then _ (λ c. (children_of_all circuits new c ++ children_by_numbers circuits left more c) ++ children_by_numbers circuits left rights c) _ (alike_same _ _ (λ c lawful i. last circuits c i ++ children_by_numbers circuits left rights c))
          (alike_then _ (λ c. (children_of_all circuits new c ++ children_by_numbers circuits left rights c) ++ children_by_numbers circuits left more c) _ (alike_swapped (children_of_all circuits new) (children_by_numbers circuits left more) (children_by_numbers circuits left rights))
          (alike_same _ _ (λ c lawful. both circuits c))));
      fewer = omega (arith, h.fewer, ap length taken.parts, length-append new (taken.side ∷ []));
    }
  where
    parts : (circuits : List Circuit) → AllByRecursion (IsSide circuits) old → AllByRecursion (IsSide circuits) (new ++ taken.side ∷ [])
    parts circuits all = subst (AllByRecursion (IsSide circuits)) taken.parts (h.each circuits all)

    last : (circuits : List Circuit) (c : ProgramCircuit) → children_of_all circuits sides c ≡ children_of_all circuits new c ++ children_by_numbers circuits left more c
    last circuits c =
        ap (λ ss. children_of_all circuits ss c) taken.parts ∙ flat_map-one (λ s. children_of circuits s c) new taken.side ∙ (λ i. children_of_all circuits new c ++ children_by_numbers circuits (taken.left_is i) (taken.rights_are i) c)

    both : (circuits : List Circuit) (c : ProgramCircuit) → (children_of_all circuits new c ++ children_by_numbers circuits left rights c) ++ children_by_numbers circuits left more c ≡ children_of_all circuits new c ++ children_by_numbers circuits left after c
    both circuits c =
        append_assoc (children_of_all circuits new c) (children_by_numbers circuits left rights c) (children_by_numbers circuits left more c)
        ∙ ap (λ cs. children_of_all circuits new c ++ cs) (sym (flat_map-append (λ k. children_by left (numbered circuits k) c) rights more) ∙ ap (λ ks. children_by_numbers circuits left ks c) (sym e))

-- the same numbers, in whichever order and however often
numbers_alike : (circuits : List Circuit) (left : Circuit) (rights once : List ℕ) → ((k : ℕ) → Contains once k ↔ Contains rights k) → AreAlike (children_by_numbers circuits left rights) (children_by_numbers circuits left once)
numbers_alike circuits left rights once h =
    said (children_by_numbers circuits left rights) (children_by_numbers circuits left once) (record {
      there = λ c lawful x m. moved c x rights once (λ k g. has_at once k ((h k).1 (at_has rights k g))) m;
      back = λ c lawful x m. moved c x once rights (λ k g. has_at rights k ((h k).0 (at_has once k g))) m;
    })
  where
    moved : (c x : ProgramCircuit) (ks js : List ℕ) → ((k : ℕ) → Has ks k → Has js k) → Has (children_by_numbers circuits left ks c) x → Has (children_by_numbers circuits left js c) x
    moved c x ks js f m =
        let by : ℕ → List ProgramCircuit = λ k. children_by left (numbered circuits k) c in
        let found = flat_map_has by ks x m in
        has_flat_map by js found.0 x (f found.0 found.1) found.2

pub joined_rest : (circuits : List Circuit) (side : Side) (after : List ℕ) (old new : List Side) → AreTwinsTaken side.left.items side.rights.items after old new → AllByRecursion (IsSide circuits) (old ++ side ∷ []) → AllByRecursion (IsSide circuits) new
joined_rest circuits side after old new h all = h.each circuits (each_front (IsSide circuits) old (side ∷ []) all)

pub joined_side : (circuits : List Circuit) (side whole : Side) (after : List ℕ) (old new : List Side) → whole.left ≡ side.left → whole.walk ≡ side.walk → ((k : ℕ) → Contains whole.rights.items k ↔ Contains after k)
    → AreTwinsTaken side.left.items side.rights.items after old new → AllByRecursion (IsSide circuits) (old ++ side ∷ []) → IsSide circuits whole
joined_side circuits side whole after old new left_is walk_is once h all =
    let own : IsSide circuits side = (each_back (IsSide circuits) old (side ∷ []) all).0 in
    let each = h.rights circuits (each_front (IsSide circuits) old (side ∷ []) all) own.rights in
    let there : AllByRecursion (IsRight circuits side.left.items) whole.rights.items = each_of (IsRight circuits side.left.items) whole.rights.items (λ k m. of_each (IsRight circuits side.left.items) after k each (has_at after k ((once k).0 (at_has whole.rights.items k m)))) in
    record {
      some = subst (λ l. 0 < length l) (λ i. (sym left_is i).items) own.some;
      short = subst (λ l. length l ≤ 6) (λ i. (sym left_is i).items) own.short;
      on = subst (IsOn 3 3) (λ i. (sym left_is i).items) own.on;
      walk = subst (λ w. IsWalk whole.left.items w) (sym walk_is) (subst (λ l. IsWalk l side.walk) (λ i. (sym left_is i).items) own.walk);
      rights = subst (λ l. AllByRecursion (IsRight circuits l) whole.rights.items) (λ i. (sym left_is i).items) there;
    }

pub joined_alike : (circuits : List Circuit) (side whole : Side) (after : List ℕ) (old new : List Side) → whole.left ≡ side.left → ((k : ℕ) → Contains whole.rights.items k ↔ Contains after k)
    → AreTwinsTaken side.left.items side.rights.items after old new → AreAlike (λ c. children_of_all circuits old c ++ children_of circuits side c) (λ c. children_of_all circuits new c ++ children_of circuits whole c)
joined_alike circuits side whole after old new left_is once h =
    alike_then _ (λ c. children_of_all circuits new c ++ children_by_numbers circuits side.left.items after c) _ (h.alike circuits)
    (alike_behind (children_of_all circuits new) (children_by_numbers circuits side.left.items after) (children_of circuits whole)
    (alike_then (children_by_numbers circuits side.left.items after) (children_by_numbers circuits side.left.items whole.rights.items) (children_of circuits whole)
    (numbers_alike circuits side.left.items after whole.rights.items once) (alike_same _ _ (λ c lawful i. children_by_numbers circuits (sym left_is i).items whole.rights.items c))))

-- ---- sides in another order

pub table_sorted : (circuits : List Circuit) (sides sorted : List Side) (children : ProgramCircuit → List ProgramCircuit) → IsPermutation sides sorted → IsTable circuits sides children → IsTable circuits sorted children
table_sorted circuits sides sorted children h table =
    record {
      each = each_sorted (IsSide circuits) sides sorted h table.each;
      alike = alike_then (children_of_all circuits sorted) (children_of_all circuits sides) children
          (said (children_of_all circuits sorted) (children_of_all circuits sides) (record {
            there = λ c lawful x m. moved c x sorted sides (IsPermutation-sym sides sorted h) m;
            back = λ c lawful x m. moved c x sides sorted h m;
          })) table.alike;
    }
  where
    moved : (c x : ProgramCircuit) (ss ts : List Side) → IsPermutation ss ts → Has (children_of_all circuits ss c) x → Has (children_of_all circuits ts c) x
    moved c x ss ts p m =
        let found = flat_map_has (λ s. children_of circuits s c) ss x m in
        has_flat_map (λ s. children_of circuits s c) ts found.0 x (has_sorted ss ts found.0 p found.1) found.2

-- ---- the table, side by side

-- programs become by these sides and those that are left what they become in this way
pub record IsJoining (circuits : List Circuit) (table rest : List Side) (children : ProgramCircuit → List ProgramCircuit) : Type 0 where
  pub each : AllByRecursion (IsSide circuits) table
  pub left : AllByRecursion (IsSide circuits) rest
  pub alike : AreAlike (λ c. children_of_all circuits table c ++ children_of_all circuits rest c) children

pub joining_start : (circuits : List Circuit) (sides : List Side) (children : ProgramCircuit → List ProgramCircuit) → IsTable circuits sides children → IsJoining circuits [] sides children
joining_start circuits sides children table = record { each = tt; left = table.each; alike = table.alike }

pub joining_step : (circuits : List Circuit) (table rest new : List Side) (side whole : Side) (children : ProgramCircuit → List ProgramCircuit) → IsSide circuits whole → AllByRecursion (IsSide circuits) new
    → AreAlike (λ c. children_of_all circuits rest c ++ children_of circuits side c) (λ c. children_of_all circuits new c ++ children_of circuits whole c) → IsJoining circuits table (rest ++ side ∷ []) children → IsJoining circuits (table ++ whole ∷ []) new children
joining_step circuits table rest new side whole children own each h joining =
    record {
      each = each-append (IsSide circuits) table (whole ∷ []) joining.each (own, tt);
      left = each;
      alike =
          alike_then _ (λ c. (children_of_all circuits table c ++ children_of circuits whole c) ++ children_of_all circuits new c) _ (alike_same _ _ (λ c lawful i. flat_map-one (λ s. children_of circuits s c) table whole i ++ children_of_all circuits new c))
          (alike_then _ (λ c. (children_of_all circuits table c ++ children_of_all circuits new c) ++ children_of circuits whole c) _ (alike_swapped (children_of_all circuits table) (children_of circuits whole) (children_of_all circuits new))
          (alike_then _ (λ c. children_of_all circuits table c ++ (children_of_all circuits new c ++ children_of circuits whole c)) _ (alike_same _ _ (λ c lawful. append_assoc (children_of_all circuits table c) (children_of_all circuits new c) (children_of circuits whole c)))
          (alike_then _ (λ c. children_of_all circuits table c ++ (children_of_all circuits rest c ++ children_of circuits side c)) _
          (alike_behind (children_of_all circuits table) (λ c. children_of_all circuits new c ++ children_of circuits whole c) (λ c. children_of_all circuits rest c ++ children_of circuits side c) (alike_flip _ _ h))
          (alike_then _ (λ c. children_of_all circuits table c ++ children_of_all circuits (rest ++ side ∷ []) c) _ (alike_same _ _ (λ c lawful. ap (λ cs. children_of_all circuits table c ++ cs) (sym (flat_map-one (λ s. children_of circuits s c) rest side))))
          joining.alike))));
    }

pub joining_end : (circuits : List Circuit) (table rest : List Side) (children : ProgramCircuit → List ProgramCircuit) → rest ≡ [] → IsJoining circuits table rest children → IsTable circuits table children
joining_end circuits table rest children none joining =
    record {
      each = joining.each;
      alike = alike_then (children_of_all circuits table) (λ c. children_of_all circuits table c ++ children_of_all circuits rest c) children
          (alike_same _ _ (λ c lawful. sym (append-nil (children_of_all circuits table c)) ∙ (λ i. children_of_all circuits table c ++ children_of_all circuits (sym none i) c))) joining.alike;
    }
