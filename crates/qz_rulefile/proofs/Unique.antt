-- A file has one reading.
use Rattle.std.proofs.Common.{◌≡◌, ℕ, ◌<◌, List, [], None, Some, Result, Ok, Err, refl, sym, ap, subst, ◌∙◌, inl, inr, arith}
use Rattle.std.proofs.lemmas.Bool.{cases_lt}
use Rattle.std.proofs.lemmas.Option.{none-some, same_Some}
use Rattle.qz_circ.specs.declared.fault.LimitFault.{LimitFault}
use Rattle.qz_circ.specs.declared.fault.RuleFault.{RuleFault}
use Rattle.qz_circ.specs.declared.fault.RuleFault.TheVariants.{Syntax, Limit, Unsound, Memory}
use Rattle.qz_circ.specs.Circuit.{Circuit, Limits}
use Rattle.qz_circ.specs.Bounds.{IsLawful}
use Rattle.qz_circ.specs.FaultPlaces.{IsFaultPlace, IsFaultPlaceWithin}
use Rattle.qz_circ.specs.Joined.{circuits_of_ranks}
use Rattle.qz_circ.specs.RuleText.{Head, head_of, head_text, classes_text}
use Rattle.qz_circ.specs.RuleFiles.{RuleClasses, IsFile, IsHead, HasHead, limits_of, head_refusal, AreSound, IsSoundAt, IsFirstUnsound, Reads}
use Rattle.qz_circ.proofs.BoundsLemmas.{in_range}
use Rattle.qz_rulefile.specs.Reading.{head_at}
use Rattle.qz_rulefile.proofs.Heads.{head_exact}
use Rattle.qz_rulefile.proofs.HeadLaws.{tells, limits_back, head_lawful}
use Rattle.qz_rulefile.proofs.Places.{one_value, one_place}
use Rattle.qz_rulefile.proofs.RankedFiles.{IsRankFile, file_at, file_exact, ranks_of_file}

-- two heads of one file are the same
same_head : (file : List ℕ) (b c : Head) → HasHead b file → HasHead c file → b ≡ c
same_head file b c h k = (one_value IsHead head_at head_exact b c h.head k.head h.rest k.rest h.is_head k.is_head (sym h.parts ∙ k.parts)).0

-- a whole file begins with its head
head_of_file : (b : Limits) (classes : List (List Circuit)) (file : List ℕ) → IsLawful b → IsFile b classes file → HasHead (head_of b) file
head_of_file b classes file h f =
    let range = in_range b h in
    record {
      head = head_text (head_of b);
      rest = classes_text b.grain classes;
      is_head = record { gates = omega (arith, range.gates); qubits = omega (arith, range.qubits); params = omega (arith, range.params); grain = (tells b.grain range.grain).few; text_is = refl };
      parts = f.text_is;
    }

-- two values with the same limits of one file are the same
same_classes : (b : Limits) (classes others : List (List Circuit)) (file : List ℕ) → IsLawful b → IsFile b classes file → IsFile b others file → classes ≡ others
same_classes b classes others file h f g =
    let r = ranks_of_file b h classes file f in
    let s = ranks_of_file b h others file g in
    let same = one_value (IsRankFile b) (file_at b) (file_exact b h) r.0 s.0 file file [] [] r.1 s.1 refl in
    sym r.2 ∙ ap (circuits_of_ranks b) same.0 ∙ s.2

-- a file that begins with a head has no fault within it
no_fault_within : (file : List ℕ) (b : Head) (place : ℕ) → HasHead b file → IsFaultPlaceWithin IsHead file place → ⊥
no_fault_within file b place h p = p.1 b h.head h.rest h.is_head h.parts

-- two heads of one file are refused alike
lawful_or_not : (file : List ℕ) (h k : Head) (fault : LimitFault) → HasHead h file → HasHead k file → head_refusal h ≡ None → head_refusal k ≡ Some fault → ⊥
lawful_or_not file h k fault a b lawful refused = none-some fault (sym lawful ∙ ap head_refusal (same_head file h k a b) ∙ refused)

-- a sound value has no unsound member
sound_or_not : (q : ℕ) (classes : List (List Circuit)) (class member : ℕ) → AreSound q classes → IsFirstUnsound q classes class member → ⊥
sound_or_not q classes class member sound u = u.unsound (sound u.c u.k u.in_classes u.in_class)

-- the first unsound member is one
same_unsound : (q : ℕ) (classes : List (List Circuit)) (class member other place : ℕ) → IsFirstUnsound q classes class member → IsFirstUnsound q classes other place → (class ≡ other) × (member ≡ place)
same_unsound q classes class member other place u v =
    let no_less : u.c < v.c → ⊥ = λ lt. u.unsound (v.classes_before u.c u.k lt u.in_class) in
    let no_more : v.c < u.c → ⊥ = λ lt. v.unsound (u.classes_before v.c v.k lt v.in_class) in
    let same : u.c ≡ v.c = neither u.c v.c no_less no_more in
    let no_less_in : u.k < v.k → ⊥ = λ lt. u.unsound (subst (λ d. IsSoundAt q classes d u.k) (sym same) (v.members_before u.k lt)) in
    let no_more_in : v.k < u.k → ⊥ = λ lt. v.unsound (subst (λ d. IsSoundAt q classes d v.k) same (u.members_before v.k lt)) in
    let same_in : u.k ≡ v.k = neither u.k v.k no_less_in no_more_in in
    (omega (arith, u.class_is, v.class_is), omega (arith, u.member_is, v.member_is))
  where
    neither : (i j : ℕ) → (i < j → ⊥) → (j < i → ⊥) → i ≡ j
    neither i j less more = elim (cases_lt i j) [ inl lt ↦ absurd (less lt) | inr le ↦ elim (cases_lt j i) [ inl lt ↦ absurd (more lt) | inr ge ↦ omega arith ] ]

-- ---- what a reading that got past the first two lines says of limits

-- the places of faults of one file
same_place : (file : List ℕ) (p r : ℕ) → Reads file (Err (Syntax p)) → Reads file (Err (Syntax r)) → p ≡ r
same_place file p r (inl a) (inl b) = one_place IsHead file p r a.0 b.0
same_place file p r (inl a) (inr b) = absurd (no_fault_within file b.0 p b.1 a)
same_place file p r (inr a) (inl b) = absurd (no_fault_within file a.0 r a.1 b)
same_place file p r (inr a) (inr b) =
    let same = same_head file a.0 b.0 a.1 b.1 in
    one_place (IsFile (limits_of b.0)) file p r (subst (λ c. IsFaultPlace (IsFile (limits_of c)) file p) same a.3).0 b.3.0

-- a file with such a fault isn't the text of classes
no_file : (file : List ℕ) (p : ℕ) (b : Limits) (classes : List (List Circuit)) → Reads file (Err (Syntax p)) → IsLawful b → IsFile b classes file → ⊥
no_file file p b classes (inl a) h f = no_fault_within file (head_of b) p (head_of_file b classes file h f) a
no_file file p b classes (inr a) h f =
    let same = ap limits_of (same_head file a.0 (head_of b) a.1 (head_of_file b classes file h f)) ∙ limits_back b h in
    (subst (λ c. IsFaultPlace (IsFile c) file p) same a.3).1 classes f

-- a file that is refused for its limits has no other fault, and isn't the text of classes
no_syntax : (file : List ℕ) (p : ℕ) (fault : LimitFault) → Reads file (Err (Syntax p)) → Reads file (Err (Limit fault)) → ⊥
no_syntax file p fault (inl a) l = no_fault_within file l.0 p l.1 a
no_syntax file p fault (inr a) l = lawful_or_not file a.0 l.0 fault a.1 l.1 a.2 l.2

no_text : (file : List ℕ) (fault : LimitFault) (b : Limits) (classes : List (List Circuit)) → Reads file (Err (Limit fault)) → IsLawful b → IsFile b classes file → ⊥
no_text file fault b classes l h f = lawful_or_not file (head_of b) l.0 fault (head_of_file b classes file h f) l.1 (head_lawful b h) l.2

same_limit : (file : List ℕ) (f g : LimitFault) → Reads file (Err (Limit f)) → Reads file (Err (Limit g)) → f ≡ g
same_limit file f g a b = same_Some f g (sym a.2 ∙ ap head_refusal (same_head file a.0 b.0 a.1 b.1) ∙ b.2)

-- two values of a file are the same
same_value : (file : List ℕ) (b c : Limits) (classes others : List (List Circuit)) → IsLawful b → IsLawful c → IsFile b classes file → IsFile c others file → (b ≡ c) × (classes ≡ others)
same_value file b c classes others h k f g =
    let same = sym (limits_back b h) ∙ ap limits_of (same_head file (head_of b) (head_of c) (head_of_file b classes file h f) (head_of_file c others file k g)) ∙ limits_back c k in
    (same, same_classes c classes others file k (subst (λ d. IsFile d classes file) same f) g)

unsound_or_sound : (file : List ℕ) (v : RuleClasses) (class member : ℕ) → Reads file (Ok v) → Reads file (Err (Unsound class member)) → ⊥
unsound_or_sound file v class member r u =
    let same = same_value file v.bounds u.0 v.classes u.1 r.0 u.2 r.1 u.3 in
    let sound : AreSound u.0.q v.classes = subst (λ (b : Limits). AreSound b.q v.classes) same.0 r.2 in
    sound_or_not u.0.q u.1 class member (subst (AreSound u.0.q) same.1 sound) u.4

both_unsound : (file : List ℕ) (c m d n : ℕ) → Reads file (Err (Unsound c m)) → Reads file (Err (Unsound d n)) → (c ≡ d) × (m ≡ n)
both_unsound file c m d n u w =
    let same = same_value file u.0 w.0 u.1 w.1 u.2 w.2 u.3 w.3 in
    let first : IsFirstUnsound w.0.q u.1 c m = subst (λ (b : Limits). IsFirstUnsound b.q u.1 c m) same.0 u.4 in
    same_unsound w.0.q w.1 c m d n (subst (λ cs. IsFirstUnsound w.0.q cs c m) same.1 first) w.4

abbrev Answer : Type 0
Answer = Result RuleClasses RuleFault

both_ok : (file : List ℕ) (v w : RuleClasses) → Reads file (Ok v) → Reads file (Ok w) → v ≡ w
both_ok file v w r s =
    let same = same_value file v.bounds w.bounds v.classes w.classes r.0 s.0 r.1 s.1 in
    ap (λ (b : Limits). record { bounds = b; classes = v.classes }) same.0 ∙ ap (λ (cs : List (List Circuit)). record { bounds = w.bounds; classes = cs }) same.1

pub one_reading : (file : List ℕ) (a b : Answer) → Reads file a → Reads file b → a ≡ b
one_reading file (Ok v) (Ok w) r s = ap (λ (x : RuleClasses). Ok x) (both_ok file v w r s)
one_reading file (Ok v) (Err (Syntax p)) r s = absurd (no_file file p v.bounds v.classes s r.0 r.1)
one_reading file (Ok v) (Err (Limit f)) r s = absurd (no_text file f v.bounds v.classes s r.0 r.1)
one_reading file (Ok v) (Err (Unsound c m)) r s = absurd (unsound_or_sound file v c m r s)
one_reading file (Ok v) (Err Memory) r s = absurd s
one_reading file (Err (Syntax p)) (Ok w) r s = absurd (no_file file p w.bounds w.classes r s.0 s.1)
one_reading file (Err (Syntax p)) (Err (Syntax t)) r s = ap (λ k. Err (Syntax k)) (same_place file p t r s)
one_reading file (Err (Syntax p)) (Err (Limit f)) r s = absurd (no_syntax file p f r s)
one_reading file (Err (Syntax p)) (Err (Unsound c m)) r s = absurd (no_file file p s.0 s.1 r s.2 s.3)
one_reading file (Err (Syntax p)) (Err Memory) r s = absurd s
one_reading file (Err (Limit f)) (Ok w) r s = absurd (no_text file f w.bounds w.classes r s.0 s.1)
one_reading file (Err (Limit f)) (Err (Syntax t)) r s = absurd (no_syntax file t f s r)
one_reading file (Err (Limit f)) (Err (Limit g)) r s = ap (λ k. Err (Limit k)) (same_limit file f g r s)
one_reading file (Err (Limit f)) (Err (Unsound c m)) r s = absurd (no_text file f s.0 s.1 r s.2 s.3)
one_reading file (Err (Limit f)) (Err Memory) r s = absurd s
one_reading file (Err (Unsound c m)) (Ok w) r s = absurd (unsound_or_sound file w c m s r)
one_reading file (Err (Unsound c m)) (Err (Syntax t)) r s = absurd (no_file file t r.0 r.1 s r.2 r.3)
one_reading file (Err (Unsound c m)) (Err (Limit g)) r s = absurd (no_text file g r.0 r.1 s r.2 r.3)
one_reading file (Err (Unsound c m)) (Err (Unsound d n)) r s =
    let same = both_unsound file c m d n r s in
    ap (λ k. Err (Unsound k m)) same.0 ∙ ap (λ k. Err (Unsound d k)) same.1
one_reading file (Err (Unsound c m)) (Err Memory) r s = absurd s
one_reading file (Err Memory) b r s = absurd r
