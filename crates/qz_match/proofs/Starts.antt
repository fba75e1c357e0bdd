-- Rising lists of positions by their first position, and the one that may be a place.
use Rattle.std.proofs.Common.{◌≡◌, ◌≢◌, ℕ, zero, suc, ◌+◌, ◌-◌, ◌<◌, ◌≤◌, Bool, true, false, if◌then◌else◌, List, [], ◌∷◌, ◌++◌, map, length, take, Option, Some, None, refl, sym, ap, ◌∙◌, subst, arith, ◌⊎◌, inl, inr}
use Rattle.std.specs.List.{filter_map, flat_map, range_with_len, cons_option}
use Rattle.std.specs.Option.{option_map, option_to_list}
use Rattle.std.proofs.lemmas.Bool.{cases_eq}
use Rattle.std.proofs.lemmas.List.{length-take, append-nil}
use Rattle.std.proofs.lemmas.List.Elements.{filter_map-append}
use Rattle.qz_circ.specs.Circuit.{Circuit, below}
use Rattle.qz_circ.specs.ProgramCircuits.{ProgramCircuit}
use Rattle.qz_circ.specs.declared.binding.Binding.{Binding}
use Rattle.qz_circ.specs.Places.{PlaceParts, match_at, place_at, rising_lists, all_places}
use Rattle.qz_match.specs.Starts.{starting, rises, tested, Matches, AreOnly}
use Rattle.qz_match.proofs.Gaps.{RiseFrom, rise_lower}
use Rattle.qz_match.proofs.GatherSteps.{rises-from}
use Rattle.qz_match.proofs.Matching.{rises-so}

-- ---- by first positions

filter_map-map : {A B C : Type 0} (f : B → Option C) (h : A → B) (xs : List A) → filter_map f (map h xs) ≡ filter_map (λ x. f (h x)) xs
filter_map-map f h [] = refl
filter_map-map f h (x ∷ xs) = ap (cons_option (f (h x))) (filter_map-map f h xs)

filter_map-flat_map : {A B C : Type 0} (f : B → Option C) (h : A → List B) (xs : List A) → filter_map f (flat_map h xs) ≡ flat_map (λ x. filter_map f (h x)) xs
filter_map-flat_map f h [] = refl
filter_map-flat_map f h (x ∷ xs) = filter_map-append f (h x) (flat_map h xs) ∙ ap (λ ys. filter_map f (h x) ++ ys) (filter_map-flat_map f h xs)

rising_lists-starts : (k m n a : ℕ) → m ≡ a + n → rising_lists (suc k) a n ≡ flat_map (λ p. map (λ ps. p ∷ ps) (rising_lists k (suc p) (m - suc p))) (range_with_len a n)
unfolding rising_lists
rising_lists-starts k m zero a size = refl
rising_lists-starts k m (suc n) a size =
    let left_over : n ≡ m - suc a = omega arith in
    let next : suc a ≡ a + 1 = omega arith in
    ap (λ l. map (λ ps. a ∷ ps) (rising_lists k (suc a) l) ++ rising_lists (suc k) (suc a) n) left_over ∙
    ap (λ ys. map (λ ps. a ∷ ps) (rising_lists k (suc a) (m - suc a)) ++ ys) (rising_lists-starts k m n (suc a) (omega arith) ∙ ap (λ b. flat_map (λ p. map (λ ps. p ∷ ps) (rising_lists k (suc p) (m - suc p))) (range_with_len b n)) next)

pub all_places-starts : (left : Circuit) (c : ProgramCircuit) → 0 < length left → all_places left c ≡ flat_map (starting left c) (below (length c))
unfolding all_places starting
all_places-starts [] c some = absurd (omega arith)
all_places-starts (f ∷ left) c some =
    let shorter : length (f ∷ left) - 1 ≡ length left = omega arith in
    ap (filter_map (place_at (f ∷ left) c)) (rising_lists-starts (length left) (length c) (length c) 0 (omega arith)) ∙
    filter_map-flat_map (place_at (f ∷ left) c) (λ p. map (λ ps. p ∷ ps) (rising_lists (length left) (suc p) (length c - suc p))) (below (length c)) ∙
    ap (λ k. flat_map (λ p. filter_map (place_at (f ∷ left) c) (map (λ ps. p ∷ ps) (rising_lists k (suc p) (length c - suc p)))) (below (length c))) (sym shorter)

-- ---- the only one that passes

-- no list that rises passes
none_found : {C : Type 0} (f : List ℕ → Option C) (k m n a : ℕ) → m ≡ a + n → ((ps : List ℕ) → RiseFrom a m ps → length ps ≡ k → (x : C) → f ps ≡ Some x → ⊥) → filter_map f (rising_lists k a n) ≡ []
unfolding rising_lists
none_found {C} f zero m n a size none = by (f []) refl
  where
    by : (o : Option C) → f [] ≡ o → cons_option (f []) [] ≡ []
    by None e = rw e
    by (Some x) e = absurd (none [] tt refl x e)
none_found f (suc k) m zero a size none = refl
none_found f (suc k) m (suc n) a size none =
    filter_map-append f (map (λ ps. a ∷ ps) (rising_lists k (suc a) n)) (rising_lists (suc k) (suc a) n) ∙
    ap (λ ys. ys ++ filter_map f (rising_lists (suc k) (suc a) n)) (filter_map-map f (λ ps. a ∷ ps) (rising_lists k (suc a) n) ∙ none_found (λ ps. f (a ∷ ps)) k m n (suc a) (omega arith) (λ ps rise l x e. none (a ∷ ps) (omega arith, omega arith, rise) (ap suc l) x e)) ∙
    none_found f (suc k) m n (suc a) (omega arith) (λ ps rise l x e. none ps (rise_lower a (suc a) m ps (omega arith) rise) l x e)

-- only one may pass
one_found : {C : Type 0} (f : List ℕ → Option C) (k m n a : ℕ) → m ≡ a + n → (t : List ℕ) → RiseFrom a m t → length t ≡ k → ((ps : List ℕ) → RiseFrom a m ps → length ps ≡ k → (x : C) → f ps ≡ Some x → ps ≡ t) → filter_map f (rising_lists k a n) ≡ option_to_list (f t)
unfolding rising_lists
one_found {C} f zero m n a size [] rise l only = by (f [])
  where
    by : (o : Option C) → cons_option o [] ≡ option_to_list o
    by None = refl
    by (Some x) = refl
one_found f zero m n a size (p ∷ t) rise l only = absurd (omega arith)
one_found f (suc k) m zero a size [] rise l only = absurd (omega arith)
one_found f (suc k) m zero a size (p ∷ t) rise l only = let low = rise.0 in let high = rise.1 in absurd (omega arith)
one_found f (suc k) m (suc n) a size [] rise l only = absurd (omega arith)
one_found {C} f (suc k) m (suc n) a size (p ∷ t) rise l only =
    filter_map-append f (map (λ ps. a ∷ ps) (rising_lists k (suc a) n)) (rising_lists (suc k) (suc a) n) ∙
    by (λ g o. filter_map-map f (λ ps. a ∷ ps) (rising_lists k (suc a) n) ∙ one_found (λ ps. f (a ∷ ps)) k m n (suc a) (omega arith) t g (omega arith) o)
    (λ g o. one_found f (suc k) m n (suc a) (omega arith) (p ∷ t) g l o) (cases_eq p a)
  where
    Only : (List ℕ → Option C) → ℕ → ℕ → List ℕ → Type 0
    Only g b j u = (ps : List ℕ) → RiseFrom b m ps → length ps ≡ j → (x : C) → g ps ≡ Some x → ps ≡ u

    by : (RiseFrom (suc a) m t → Only (λ ps. f (a ∷ ps)) (suc a) k t → filter_map f (map (λ ps. a ∷ ps) (rising_lists k (suc a) n)) ≡ option_to_list (f (a ∷ t))) →
        (RiseFrom (suc a) m (p ∷ t) → Only f (suc a) (suc k) (p ∷ t) → filter_map f (rising_lists (suc k) (suc a) n) ≡ option_to_list (f (p ∷ t))) →
        (p ≡ a) ⊎ (p ≢ a) → filter_map f (map (λ ps. a ∷ ps) (rising_lists k (suc a) n)) ++ filter_map f (rising_lists (suc k) (suc a) n) ≡ option_to_list (f (p ∷ t))
    by first later (inl same) =
        let up : RiseFrom (suc a) m t = subst (λ j. RiseFrom (suc j) m t) same rise.2 in
        let here = first up (λ ps r j x e. let all : a ∷ ps ≡ p ∷ t = only (a ∷ ps) (omega arith, omega arith, r) (ap suc j) x e in cc) in
        let none = none_found f (suc k) m n (suc a) (omega arith) (λ ps r j x e.
        let all : ps ≡ p ∷ t = only ps (rise_lower a (suc a) m ps (omega arith) r) j x e in
        let low = (subst (λ qs. RiseFrom (suc a) m qs) all r).0 in omega arith) in
        ap (λ ys. ys ++ filter_map f (rising_lists (suc k) (suc a) n)) here ∙ ap (λ ys. option_to_list (f (a ∷ t)) ++ ys) none ∙ append-nil (option_to_list (f (a ∷ t))) ∙ ap (λ j. option_to_list (f (j ∷ t))) (sym same)
    by first later (inr other) =
        let none = none_found (λ ps. f (a ∷ ps)) k m n (suc a) (omega arith) (λ ps r j x e. let all : a ∷ ps ≡ p ∷ t = only (a ∷ ps) (omega arith, omega arith, r) (ap suc j) x e in let same : p ≡ a = cc in other same) in
        ap (λ ys. ys ++ filter_map f (rising_lists (suc k) (suc a) n)) (filter_map-map f (λ ps. a ∷ ps) (rising_lists k (suc a) n) ∙ none) ∙
        later (let low = rise.0 in (omega arith, rise.1, rise.2)) (λ ps r j x e. only ps (rise_lower a (suc a) m ps (omega arith) r) j x e)

-- ---- the places that begin at one position

-- a place is a match
place_matches : (left : Circuit) (c : ProgramCircuit) (p : ℕ) (ps : List ℕ) (x : PlaceParts) → p < length c → RiseFrom (suc p) (length c) ps → place_at left c (p ∷ ps) ≡ Some x → Matches left c p ps
place_matches left c p ps x l rise h = by (match_at left c (p ∷ ps)) refl h
  where
    by : (o : Option Binding) → match_at left c (p ∷ ps) ≡ o → option_map (λ bind. record { positions = p ∷ ps; binding = bind }) o ≡ Some x → Matches left c p ps
    by None e k = absurd (let none : None ≡ Some x = k in cc)
    by (Some bind) e k = record { rising = rises-so 0 (length c) (p ∷ ps) (omega arith, l, rise); binding = bind; match = e }

head_of : (n p : ℕ) (xs : List ℕ) → 0 < n → take 1 xs ≡ p ∷ [] → (t : List ℕ) × (take n xs ≡ p ∷ t)
head_of zero p xs some h = absurd (omega arith)
head_of (suc n) p [] some h = absurd (let none : [] ≡ p ∷ [] = h in cc)
head_of (suc n) p (x ∷ xs) some h = (take n xs, let same : x ≡ p = cc in ap (λ y. y ∷ take n xs) same)

pub starting_none : (left : Circuit) (c : ProgramCircuit) (p : ℕ) → 0 < length left → p < length c → AreOnly left c p None → starting left c p ≡ []
unfolding starting
starting_none left c p some l only =
    let rest : length c ≡ suc p + (length c - suc p) = omega arith in
    filter_map-map (place_at left c) (λ ps. p ∷ ps) (rising_lists (length left - 1) (suc p) (length c - suc p)) ∙
    none_found (λ ps. place_at left c (p ∷ ps)) (length left - 1) (length c) (length c - suc p) (suc p) rest (λ ps rise j x e. only ps (place_matches left c p ps x l rise e))

pub starting_some : (left : Circuit) (c : ProgramCircuit) (p : ℕ) (found : List ℕ) → 0 < length left → length left ≤ 6 → p < length c → AreOnly left c p (Some found) → starting left c p ≡ option_to_list (tested left c (take (length left) found))
unfolding starting
starting_some left c p found some short l only = by (head_of (length left) p found some only.2)
  where
    rest : length c ≡ suc p + (length c - suc p)
    rest = omega arith

    by : (t : List ℕ) × (take (length left) found ≡ p ∷ t) → filter_map (place_at left c) (map (λ ps. p ∷ ps) (rising_lists (length left - 1) (suc p) (length c - suc p))) ≡ option_to_list (tested left c (take (length left) found))
    by (t, whole) =
        filter_map-map (place_at left c) (λ ps. p ∷ ps) (rising_lists (length left - 1) (suc p) (length c - suc p)) ∙ at (rises 0 (length c) (p ∷ t)) refl ∙ ap (λ ps. option_to_list (tested left c ps)) (sym whole)
      where
        size : length t ≡ length left - 1
        size = let six = only.0 in let sized : length (p ∷ t) ≡ length (take (length left) found) = ap length (sym whole) in omega (arith, length-take (length left) found)

        at : (b : Bool) → rises 0 (length c) (p ∷ t) ≡ b → filter_map (λ ps. place_at left c (p ∷ ps)) (rising_lists (length left - 1) (suc p) (length c - suc p)) ≡ option_to_list (if rises 0 (length c) (p ∷ t) then place_at left c (p ∷ t) else None)
        at true e =
            one_found (λ ps. place_at left c (p ∷ ps)) (length left - 1) (length c) (length c - suc p) (suc p) rest t (rises-from 0 (length c) (p ∷ t) e).2 size
            (λ ps rise j x k. let all : p ∷ t ≡ p ∷ ps = sym whole ∙ only.1 ps (place_matches left c p ps x l rise k) in cc) ∙
            ap (λ b. option_to_list (if b then place_at left c (p ∷ t) else None)) (sym e)
        at false e =
            none_found (λ ps. place_at left c (p ∷ ps)) (length left - 1) (length c) (length c - suc p) (suc p) rest
            (λ ps rise j x k.
            let m = place_matches left c p ps x l rise k in
            let all : p ∷ t ≡ p ∷ ps = sym whole ∙ only.1 ps m in
            let up : rises 0 (length c) (p ∷ t) ≡ true = ap (rises 0 (length c)) all ∙ m.rising in
            let wrong : true ≡ false = sym up ∙ e in cc) ∙
            ap (λ b. option_to_list (if b then place_at left c (p ∷ t) else None)) (sym e)
