-- The places of circuits in the list of all circuits within limits.
use Rattle.std.proofs.Common.{◌≡◌, ℕ, zero, suc, ◌+◌, ◌*◌, ◌<◌, ◌≤◌, List, [], ◌∷◌, ◌++◌, map, length, get_or, take, drop, Contains, refl, sym, ap, ◌∙◌, arith, add-one, zero-add, lt_of_mul-lt-mul_right}
use Rattle.std.specs.List.{flat_map, range_with_len, AllByRecursion}
use Rattle.std.proofs.lemmas.List.{length-map, get_or-map, map-append, get_or_append_left, length-take-le, length-take, length-drop}
use Rattle.std.proofs.lemmas.List.Concat.{flat_map-append, get_or-flat_map}
use Rattle.std.proofs.lemmas.List.Folds.{flat_map-map, length-flat_map-take}
use Rattle.std.proofs.lemmas.List.FromFn.{length-range_with_len, get_or-range_with_len}
use Rattle.std.proofs.lemmas.List.Elements.{All-from_recursion, recursion_from_All, All-contains_itself, All-drop, All-take}
use Rattle.std.proofs.Math.Nat.{pow-suc, pow-zero, pow-succ'}
use Rattle.qz_circ.specs.declared.circuit.Op.{Op}
use Rattle.qz_circ.specs.declared.circuit.Op.TheVariants.{H}
use Rattle.qz_circ.specs.Circuit.{Circuit, Limits, Within, gates_of, below}
use Rattle.qz_circ.specs.Bounds.{gate_count}
use Rattle.qz_circ.specs.Order.{circuits_of, all_circuits, circuit_at}
use Rattle.qz_circ.proofs.CircuitLists.{length_of_pieces, shorter}
use Rattle.qz_circ.proofs.RisingLists.{each_weaker, each-map, each-flat_map, each-range}

-- ---- pieces end to end

-- a function of each element of pieces end to end
map-flat_map : {A B C : Type 0} (g : B → C) (f : A → List B) (xs : List A) → map g (flat_map f xs) ≡ flat_map (λ x. map g (f x)) xs
map-flat_map g f [] = refl
map-flat_map g f (x ∷ xs) = map-append g (f x) (flat_map f xs) ∙ ap (λ rest. map g (f x) ++ rest) (map-flat_map g f xs)

-- pieces of pieces
flat_map-flat_map : {A B C : Type 0} (g : B → List C) (f : A → List B) (xs : List A) → flat_map g (flat_map f xs) ≡ flat_map (λ x. flat_map g (f x)) xs
flat_map-flat_map g f [] = refl
flat_map-flat_map g f (x ∷ xs) = flat_map-append g (f x) (flat_map f xs) ∙ ap (λ rest. flat_map g (f x) ++ rest) (flat_map-flat_map g f xs)

-- two functions that agree give the same list
flat_map-agree : {A B : Type 0} (f g : A → List B) → ((x : A) → f x ≡ g x) → (xs : List A) → flat_map f xs ≡ flat_map g xs
flat_map-agree f g h [] = refl
flat_map-agree f g h (x ∷ xs) = λ i. h x i ++ flat_map-agree f g h xs i

-- one function after another
map-map : {A B C : Type 0} (g : B → C) (f : A → B) (xs : List A) → map g (map f xs) ≡ map (λ x. g (f x)) xs
map-map g f [] = refl
map-map g f (x ∷ xs) = ap (λ rest. g (f x) ∷ rest) (map-map g f xs)

-- the j-th element of the i-th piece, where the pieces have one length
place_in_pieces : {A B : Type 0} (f : A → List B) (n : ℕ) → ((x : A) → length (f x) ≡ n) → (xs : List A) (i j : ℕ) (e : A) (d : B) → i < length xs → j < n → get_or (flat_map f xs) (i * n + j) d ≡ get_or (f (get_or xs i e)) j d
place_in_pieces f n same xs i j e d h k =
    let front : length (flat_map f (take i xs)) ≡ i * n = length_of_pieces f n same (take i xs) ∙ ap (λ m. m * n) (length-take-le i xs (omega arith)) in
    let inside : j < length (f (get_or xs i e)) = omega (arith, same (get_or xs i e)) in
    ap (λ m. get_or (flat_map f xs) (m + j) d) (sym front) ∙ get_or-flat_map f xs i j e d h inside

-- what a function gives of an element stands in the list that it gives
pub Contains-map : {A B : Type 0} (f : A → B) (xs : List A) (x : A) → Contains xs x → Contains (map f xs) (f x)
Contains-map f xs x (k, within, is) = (k, omega (arith, length-map xs f), get_or-map f xs k x (f x) within ∙ ap f is)

-- what stands in a piece stands among the pieces
pub Contains-flat_map : {A B : Type 0} (f : A → List B) (xs : List A) (x : A) (y : B) → Contains xs x → Contains (f x) y → Contains (flat_map f xs) y
Contains-flat_map f xs x y (i, within, is) (j, inside, there) =
    let piece : f (get_or xs i x) ≡ f x = ap f is in
    let inside_piece : j < length (f (get_or xs i x)) = rw is inside in
    (length (flat_map f (take i xs)) + j, omega (arith, length-flat_map-take f xs i x within), get_or-flat_map f xs i j x y within inside_piece ∙ ap (λ ys. get_or ys j y) piece ∙ there)

-- a range in two parts
pub range-append : (a n k : ℕ) → range_with_len a (n + k) ≡ range_with_len a n ++ range_with_len (a + n) k
range-append a zero k = λ i. range_with_len (a_is i) (zero-add k i)
  where
    a_is : a ≡ a + 0
    a_is = omega arith
range-append a (suc n) k =
    let longer : suc n + k ≡ suc (n + k) = omega arith in
    let shifted : a + 1 + n ≡ a + suc n = omega arith in
    rw longer (ap (λ rest. a ∷ rest) (range-append (a + 1) n k ∙ ap (λ m. range_with_len (a + 1) n ++ range_with_len m k) shifted))

-- a range that begins one later
flat_map-range_later : {B : Type 0} (f : ℕ → List B) (a n : ℕ) → flat_map f (range_with_len (a + 1) n) ≡ flat_map (λ k. f (suc k)) (range_with_len a n)
flat_map-range_later f a zero = refl
flat_map-range_later f a (suc n) = λ i. f (add-one a i) ++ flat_map-range_later f (a + 1) n i

-- ---- circuits by their last gate

-- the circuit with each of the gates after it
abbrev pub with_last : List Op → Circuit → List Circuit
with_last gates c = map (λ g. c ++ g ∷ []) gates

-- the circuits of one gate more are those of one fewer with each gate after them
circuits-with_last : (gates : List Op) (k : ℕ) → circuits_of gates (suc k) ≡ flat_map (with_last gates) (circuits_of gates k)
unfolding circuits_of
circuits-with_last gates zero = first gates ∙ sym (append-nil' (map (λ g. [] ++ g ∷ []) gates))
  where
    append-nil' : (xs : List Circuit) → xs ++ [] ≡ xs
    append-nil' [] = refl
    append-nil' (x ∷ xs) = ap (λ rest. x ∷ rest) (append-nil' xs)

    first : (gs : List Op) → flat_map (λ g. map (λ c. g ∷ c) ([] ∷ [])) gs ≡ map (λ g. [] ++ g ∷ []) gs
    first [] = refl
    first (g ∷ gs) = ap (λ rest. (g ∷ []) ∷ rest) (first gs)
circuits-with_last gates (suc k) =
    let each = λ (g : Op). ap (map (λ c. g ∷ c)) (circuits-with_last gates k) ∙ more g in
    let before = flat_map-agree (λ g. map (λ c. g ∷ c) (circuits_of gates (suc k))) (λ g. flat_map (λ c. with_last gates (g ∷ c)) (circuits_of gates k)) each gates in
    let after = flat_map-flat_map (with_last gates) (λ g. map (λ c. g ∷ c) (circuits_of gates k)) gates in
    let inner = flat_map-agree (λ g. flat_map (with_last gates) (map (λ c. g ∷ c) (circuits_of gates k))) (λ g. flat_map (λ c. with_last gates (g ∷ c)) (circuits_of gates k)) (λ g. flat_map-map (with_last gates) (λ c. g ∷ c) (circuits_of gates k)) gates in
    before ∙ sym (after ∙ inner)
  where
    more : (g : Op) → map (λ c. g ∷ c) (flat_map (with_last gates) (circuits_of gates k)) ≡ flat_map (λ c. with_last gates (g ∷ c)) (circuits_of gates k)
    more g = map-flat_map (λ c. g ∷ c) (with_last gates) (circuits_of gates k) ∙ flat_map-agree (λ c. map (λ d. g ∷ d) (with_last gates c)) (λ c. with_last gates (g ∷ c)) (λ c. map-map (λ d. g ∷ d) (λ h. c ++ h ∷ []) gates) (circuits_of gates k)

-- every circuit of fewer than n of the gates
abbrev circuits_below : List Op → ℕ → List Circuit
circuits_below gates n = flat_map (circuits_of gates) (below n)

-- the circuits of fewer gates, each with one gate more, and the empty circuit
circuits_below-with_last : (gates : List Op) (n : ℕ) → circuits_below gates (suc n) ≡ [] ∷ flat_map (with_last gates) (circuits_below gates n)
unfolding circuits_of
circuits_below-with_last gates n = ap (λ rest. [] ∷ rest)
    (flat_map-range_later (circuits_of gates) 0 n ∙ flat_map-agree (λ k. circuits_of gates (suc k)) (λ k. flat_map (with_last gates) (circuits_of gates k)) (circuits-with_last gates) (below n)
    ∙ sym (flat_map-flat_map (with_last gates) (circuits_of gates) (below n)))

-- longer circuits come after, so the places of the others stay
circuits_below-longer : (gates : List Op) (n k r : ℕ) → r < length (circuits_below gates n) → get_or (circuits_below gates (n + k)) r [] ≡ get_or (circuits_below gates n) r []
circuits_below-longer gates n k r h =
    let parts : circuits_below gates (n + k) ≡ circuits_below gates n ++ flat_map (circuits_of gates) (range_with_len (0 + n) k) = ap (flat_map (circuits_of gates)) (range-append 0 n k) ∙ flat_map-append (circuits_of gates) (below n) (range_with_len (0 + n) k) in
    ap (λ cs. get_or cs r []) parts ∙ get_or_append_left (circuits_below gates n) (flat_map (circuits_of gates) (range_with_len (0 + n) k)) [] r h

-- ---- places among all circuits within limits

-- one gate more at the end: the number of fewer gates in base `gates`, and one for the empty circuit
pub shorter-with_last : (gates k : ℕ) → shorter gates (suc k) ≡ shorter gates k * gates + 1
shorter-with_last gates zero = omega (arith, pow-zero gates)
shorter-with_last gates (suc k) = omega (arith, shorter-with_last gates k, pow-succ' gates k, pow-suc gates k)

-- there are more circuits below a greater length
pub shorter-monotone : (gates i k : ℕ) → shorter gates i ≤ shorter gates (i + k)
shorter-monotone gates i zero = let same : i + 0 ≡ i = omega arith in rw same (omega arith)
shorter-monotone gates i (suc k) =
    let longer : i + suc k ≡ suc (i + k) = omega arith in
    rw longer (omega (arith, shorter-monotone gates i k))

-- the circuits within limits have at most n gates
all_circuits_is : (b : Limits) → all_circuits b ≡ circuits_below (gates_of b) (suc b.n)
unfolding all_circuits
all_circuits_is b = refl

-- a circuit by its place in that list
circuit_at_is : (b : Limits) (r : ℕ) → circuit_at b r ≡ get_or (circuits_below (gates_of b) (suc b.n)) r []
unfolding circuit_at all_circuits
circuit_at_is b r = refl

-- the first circuit is the empty one
pub circuit_at-zero : (b : Limits) → circuit_at b 0 ≡ []
circuit_at-zero b = circuit_at_is b 0 ∙ ap (λ cs. get_or cs 0 []) (circuits_below-with_last (gates_of b) b.n)

-- the place of a circuit tells that of the same circuit with one gate more
pub circuit_at-with_last : (b : Limits) (s d r : ℕ) → r ≡ s * gate_count b + d + 1 → d < gate_count b → r < length (all_circuits b) → circuit_at b r ≡ circuit_at b s ++ get_or (gates_of b) d (H 0) ∷ []
unfolding gate_count
circuit_at-with_last b s d r place digit within =
    let gates = gates_of b in
    let earlier = circuits_below gates b.n in
    let pieces = λ (c : Circuit). length-map gates (λ g. c ++ g ∷ []) in
    let all : length (all_circuits b) ≡ length earlier * length gates + 1 = omega (arith, ap length (all_circuits_is b ∙ circuits_below-with_last gates b.n), length_of_pieces (with_last gates) (length gates) pieces earlier) in
    let inside : s < length earlier = lt_of_mul-lt-mul_right (length gates) (omega arith) in
    let after_first : r ≡ suc (s * length gates + d) = omega arith in
    let at : get_or (circuits_below gates (suc b.n)) r [] ≡ get_or (flat_map (with_last gates) earlier) (s * length gates + d) [] = rw (circuits_below-with_last gates b.n, after_first) refl in
    let piece = place_in_pieces (with_last gates) (length gates) pieces earlier s d [] [] inside digit in
    let last : get_or (with_last gates (get_or earlier s [])) d [] ≡ get_or earlier s [] ++ get_or gates d (H 0) ∷ [] = get_or-map (λ g. get_or earlier s [] ++ g ∷ []) gates d (H 0) [] digit in
    let same : circuit_at b s ≡ get_or earlier s [] = circuit_at_is b s ∙ ap (λ n. get_or (circuits_below gates n) s []) (sym (add-one b.n)) ∙ circuits_below-longer gates b.n 1 s inside in
    circuit_at_is b r ∙ at ∙ piece ∙ last ∙ ap (λ c. c ++ get_or gates d (H 0) ∷ []) (sym same)

-- ---- which circuits are listed

-- the circuits of k gates have k gates, each of them one of the gates
pub circuits_within : (gates : List Op) (k : ℕ) → AllByRecursion (λ c. (length c ≡ k) × AllByRecursion (Contains gates) c) (circuits_of gates k)
unfolding circuits_of
circuits_within gates zero = ((refl, tt), tt)
circuits_within gates (suc k) =
    each-flat_map (λ c. (length c ≡ suc k) × AllByRecursion (Contains gates) c) (λ g. map (λ c. g ∷ c) (circuits_of gates k)) gates
    (each_weaker (Contains gates) (λ g. AllByRecursion (λ c. (length c ≡ suc k) × AllByRecursion (Contains gates) c) (map (λ c. g ∷ c) (circuits_of gates k)))
    (λ g h. each-map (λ c. (length c ≡ suc k) × AllByRecursion (Contains gates) c) (λ c. g ∷ c) (circuits_of gates k)
    (each_weaker (λ c. (length c ≡ k) × AllByRecursion (Contains gates) c) (λ c. (length (g ∷ c) ≡ suc k) × AllByRecursion (Contains gates) (g ∷ c)) (λ c w. (ap suc w.0, (h, w.1))) (circuits_of gates k) (circuits_within gates k)))
    gates (recursion_from_All (Contains gates) gates (All-contains_itself gates)))

-- each circuit of the list is within the limits
pub all_within : (b : Limits) → AllByRecursion (Within b) (all_circuits b)
unfolding all_circuits
all_within b =
    each-flat_map (Within b) (circuits_of (gates_of b)) (below (suc b.n))
    (each_weaker (λ k. (0 ≤ k) × (k < 0 + suc b.n)) (λ k. AllByRecursion (Within b) (circuits_of (gates_of b) k))
    (λ k h. each_weaker (λ c. (length c ≡ k) × AllByRecursion (Contains (gates_of b)) c) (Within b) (λ c w. record { short = omega (arith, h.1, w.0); gates = w.1 }) (circuits_of (gates_of b) k) (circuits_within (gates_of b) k))
    (below (suc b.n)) (each-range 0 (suc b.n)))

-- a circuit of the gates is listed with those of its length
circuits_of-contains : (gates : List Op) (c : Circuit) → AllByRecursion (Contains gates) c → Contains (circuits_of gates (length c)) c
unfolding circuits_of
circuits_of-contains gates [] h = (0, omega arith, refl)
circuits_of-contains gates (g ∷ c) h =
    Contains-flat_map (λ f. map (λ d. f ∷ d) (circuits_of gates (length c))) gates g (g ∷ c) h.0
    (Contains-map (λ d. g ∷ d) (circuits_of gates (length c)) c (circuits_of-contains gates c h.1))

-- each circuit within the limits is in the list
pub all_contains : (b : Limits) (c : Circuit) → Within b c → Contains (all_circuits b) c
unfolding all_circuits
all_contains b c w =
    let below_n : length c < suc b.n = omega (arith, w.short) in
    Contains-flat_map (circuits_of (gates_of b)) (below (suc b.n)) (length c) c
    (length c, omega (arith, length-range_with_len 0 (suc b.n)), get_or-range_with_len 0 (suc b.n) (length c) (length c) below_n ∙ zero-add (length c))
    (circuits_of-contains (gates_of b) c w.gates)

-- the circuit at a place is within the limits
pub circuit_at-within : (b : Limits) (r : ℕ) → r < length (all_circuits b) → Within b (circuit_at b r)
unfolding circuit_at
circuit_at-within b r h = All-from_recursion (Within b) (all_circuits b) (all_within b) r [] h

-- parts of a circuit within limits are within limits
pub within-drop : (b : Limits) (n : ℕ) (c : Circuit) → Within b c → Within b (drop n c)
within-drop b n c w =
    let all = All-drop (Contains (gates_of b)) n c (All-from_recursion (Contains (gates_of b)) c w.gates) in
    record { short = omega (arith, length-drop n c, w.short); gates = recursion_from_All (Contains (gates_of b)) (drop n c) all }

-- the first gates of a circuit within limits are within limits
pub within-take : (b : Limits) (n : ℕ) (c : Circuit) → Within b c → Within b (take n c)
within-take b n c w =
    let all = All-take (Contains (gates_of b)) n c (All-from_recursion (Contains (gates_of b)) c w.gates) in
    record { short = omega (arith, length-take n c, w.short); gates = recursion_from_All (Contains (gates_of b)) (take n c) all }
