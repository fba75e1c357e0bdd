-- From the bytes behind the first two lines to the whole file.
use Rattle.std.proofs.Common.{◌≡◌, ℕ, ◌-◌, ◌≤◌, ◌<◌, List, [], ◌∷◌, ◌++◌, length, Ok, Err, refl, sym, ap, subst, ◌∙◌, arith, length-append}
use Rattle.std.specs.List.{AllByRecursion}
use Rattle.qz_circ.specs.Circuit.{Limits}
use Rattle.qz_circ.specs.Bounds.{IsLawful}
use Rattle.qz_circ.specs.FaultPlaces.{IsFaultPlace}
use Rattle.qz_circ.specs.Joined.{circuits_of_ranks}
use Rattle.qz_circ.specs.RuleText.{Head, head_of}
use Rattle.qz_circ.specs.RuleFiles.{AreClasses, IsFile, IsHead, HasHead}
use Rattle.qz_rulefile.specs.Layout.{parts}
use Rattle.qz_rulefile.specs.Flat.{Kept, kept_at, folded_at, with_class, Fails}
use Rattle.qz_rulefile.specs.Forms.{TellsClasses}
use Rattle.qz_rulefile.specs.declared.faults.ReadError.{ReadError}
use Rattle.qz_rulefile.specs.declared.faults.ReadError.TheVariants.{Memory, Left}
use Rattle.qz_rulefile.specs.Reading.{classes_at, class_at, head_at}
use Rattle.qz_rulefile.proofs.Files.{Spelled, IsRank, AreMembers, AreRankClasses, lists_text, classes_exact}
use Rattle.qz_rulefile.proofs.Heads.{head_exact}
use Rattle.qz_rulefile.proofs.Folds.{kept_are, kept_fault}
use Rattle.qz_rulefile.proofs.Layouts.{KeepsLists, flat_keeps}
use Rattle.qz_rulefile.proofs.Places.{place_of_fault, place_of_rest, left_within, whole_text, place_as}
use Rattle.qz_rulefile.proofs.RankedFiles.{IsRankFile, file_at, file_exact, behind_head, classes_of_ranks, file_of_ranks, ranks_of_file}

-- the classes that are kept, as they were read
pub record KeptClasses (b : Limits) (bytes rest members ends : List ℕ) : Type 0 where
  pub lists : List (List ℕ)
  pub read : classes_at b bytes ≡ Ok (lists, rest)
  pub fit : AreRankClasses b lists
  pub keeps : KeepsLists (IsRank b) (record { members = members; ends = ends }) lists

each_listed : (b : Limits) (lists : List (List ℕ)) → AllByRecursion (AreMembers b) lists → AllByRecursion (λ list. AllByRecursion (IsRank b) list) lists
each_listed b [] h = tt
each_listed b (list ∷ lists) h = (h.0.listed, each_listed b lists h.1)

pub kept_classes : (b : Limits) → IsLawful b → (bytes rest members ends : List ℕ) → kept_at b bytes ≡ Ok (record { members = members; ends = ends }, rest) → KeptClasses b bytes rest members ends
kept_classes b h bytes rest members ends e =
    let k = kept_are b bytes rest (record { members = members; ends = ends }) e in
    let t = (classes_exact b h).takes bytes k.0 rest k.1 in
    record {
      lists = k.0;
      read = k.1;
      fit = t.1.fit;
      keeps = subst (λ (kept : Kept). KeepsLists (IsRank b) kept k.0) k.2 (flat_keeps (IsRank b) k.0 (each_listed b k.0 t.1.fit.each));
    }

pub kept_fit : (b : Limits) (bytes rest members ends : List ℕ) → KeptClasses b bytes rest members ends → AreClasses b (circuits_of_ranks b (parts ends members))
kept_fit b bytes rest members ends k = subst (λ (ps : List (List ℕ)). AreClasses b (circuits_of_ranks b ps)) (sym k.keeps.parts_are) (classes_of_ranks b k.lists k.fit)

-- read to its end the file is that of the classes
pub kept_file : (b : Limits) → IsLawful b → (bytes rest members ends head : List ℕ) → KeptClasses b bytes rest members ends → length rest ≡ 0 → IsHead (head_of b) head → IsFile b (circuits_of_ranks b (parts ends members)) (head ++ bytes)
kept_file b h bytes rest members ends head k none is_head =
    let read : file_at b (head ++ bytes) ≡ Ok (k.lists, rest) = behind_head b head bytes (head ++ bytes) is_head refl ∙ k.read in
    let whole = whole_text (IsRankFile b) (file_at b) (file_exact b h) (head ++ bytes) k.lists rest none read in
    subst (λ (ps : List (List ℕ)). IsFile b (circuits_of_ranks b ps) (head ++ bytes)) (sym k.keeps.parts_are) (file_of_ranks b k.lists (head ++ bytes) whole)

-- places among files of ranks are those among files of circuits
place_of_circuits : (b : Limits) → IsLawful b → (file : List ℕ) (n : ℕ) → IsFaultPlace (IsRankFile b) file n → IsFaultPlace (IsFile b) file n
place_of_circuits b h file n p =
    place_as (IsRankFile b) (IsFile b) (λ lists text f. (circuits_of_ranks b lists, file_of_ranks b lists text f)) (λ classes text f. let r = ranks_of_file b h classes text f in (r.0, r.1)) file n p

-- bytes behind the end are a fault
pub rest_place : (b : Limits) → IsLawful b → (bytes rest members ends head : List ℕ) → KeptClasses b bytes rest members ends → 0 < length rest → IsHead (head_of b) head → IsFaultPlace (IsFile b) (head ++ bytes) (length (head ++ bytes) - length rest)
rest_place b h bytes rest members ends head k some is_head =
    let read : file_at b (head ++ bytes) ≡ Ok (k.lists, rest) = behind_head b head bytes (head ++ bytes) is_head refl ∙ k.read in
    place_of_circuits b h (head ++ bytes) (length (head ++ bytes) - length rest) (place_of_rest (IsRankFile b) (file_at b) (file_exact b h) (head ++ bytes) k.lists rest some read)

pub rest_within : (b : Limits) → IsLawful b → (bytes rest members ends : List ℕ) → KeptClasses b bytes rest members ends → length rest ≤ length bytes
rest_within b h bytes rest members ends k =
    let t = (classes_exact b h).takes bytes k.lists rest k.read in
    omega (arith, ap length t.2, length-append t.0 rest)

-- a fault behind the first two lines
pub fault_place : (b : Limits) → IsLawful b → (bytes head : List ℕ) (n : ℕ) → kept_at b bytes ≡ Err n → IsHead (head_of b) head → IsFaultPlace (IsFile b) (head ++ bytes) (length (head ++ bytes) - n)
fault_place b h bytes head n e is_head =
    let read : file_at b (head ++ bytes) ≡ Err n = behind_head b head bytes (head ++ bytes) is_head refl ∙ kept_fault b bytes n e in
    place_of_circuits b h (head ++ bytes) (length (head ++ bytes) - n) (place_of_fault (IsRankFile b) (file_at b) (file_exact b h) (head ++ bytes) n read)

fault_within : (b : Limits) → IsLawful b → (bytes : List ℕ) (n : ℕ) → kept_at b bytes ≡ Err n → n ≤ length bytes
fault_within b h bytes n e = left_within (Spelled (AreRankClasses b) (lists_text b)) (classes_at b) (classes_exact b h) bytes n (kept_fault b bytes n e)

-- the first two lines that were read
pub head_read : (h : Head) (file rest : List ℕ) → head_at file ≡ Ok (h, rest) → (head : List ℕ) × IsHead h head × (file ≡ head ++ rest)
head_read h file rest e = head_exact.takes file h rest e

pub has_head : (h : Head) (file rest : List ℕ) → head_at file ≡ Ok (h, rest) → HasHead h file
has_head h file rest e = let t = head_read h file rest e in record { head = t.0; rest = rest; is_head = t.1; parts = t.2 }

-- the classes as they are read into empty lists
pub from_empty : (b : Limits) (members ends bytes : List ℕ) (count : ℕ) → members ≡ [] → ends ≡ [] → folded_at with_class (record { members = members; ends = ends }) (class_at b) count bytes ≡ folded_at with_class (record { members = []; ends = [] }) (class_at b) count bytes
from_empty b members ends bytes count none no_ends = λ i. folded_at with_class (record { members = none i; ends = no_ends i }) (class_at b) count bytes

-- a fault behind the first two lines, handed on
pub behind_fails : (b : Limits) → IsLawful b → (bytes : List ℕ) (fault : ReadError) → Fails fault (kept_at b bytes) → TellsClasses b bytes (Err fault)
behind_fails b h bytes Memory f = tt
behind_fails b h bytes (Left n) f = (fault_within b h bytes n f, λ head is_head. fault_place b h bytes head n f is_head)
