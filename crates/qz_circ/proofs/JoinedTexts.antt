-- Texts joined by a byte, piece by piece.
use Rattle.std.proofs.Common.{◌≡◌, ℕ, ◌≤◌, suc, ◌-◌, List, [], ◌∷◌, ◌++◌, map, length, take, drop, get_or, sym, ap, append_assoc, arith}
use Rattle.std.specs.List.{flat_map, join_with_byte}
use Rattle.std.proofs.lemmas.List.{append-nil, take_all}

-- the first text, and each further one behind the byte
pub joined_texts : {A : Type 0} (sign : ℕ) (f : A → List ℕ) (x : A) (rest : List A) → join_with_byte sign (map f (x ∷ rest)) ≡ f x ++ flat_map (λ y. sign ∷ f y) rest
joined_texts sign f x [] = sym (append-nil (f x))
joined_texts sign f x (y ∷ rest) = ap (λ text. f x ++ (sign ∷ text)) (joined_texts sign f y rest)

-- the same with the others by the places that a loop takes
joined_by_place : {A : Type 0} (sign : ℕ) (f : A → List ℕ) (xs : List A) (d : A) (i : ℕ) → 1 ≤ length xs → length (take (length xs - 1) (drop 1 xs)) ≤ i → join_with_byte sign (map f xs) ≡ f (get_or xs 0 d) ++ flat_map (λ y. sign ∷ f y) (take i (take (length xs - 1) (drop 1 xs)))
joined_by_place sign f [] d i some all = absurd (omega arith)
joined_by_place sign f (x ∷ rest) d i some all =
    let whole : take (suc (length rest) - 1) rest ≡ rest = take_all (suc (length rest) - 1) rest (omega arith) in
    let taken : take i (take (suc (length rest) - 1) rest) ≡ rest = rw whole (take_all i rest (rw whole at all)) in
    rw taken (joined_texts sign f x rest)

-- the first text and then the others behind what was there
pub joined_behind : {A : Type 0} (sign : ℕ) (f : A → List ℕ) (o a l : List ℕ) (xs : List A) (d : A) (i : ℕ) → a ≡ o ++ f (get_or xs 0 d) → l ≡ a ++ flat_map (λ y. sign ∷ f y) (take i (take (length xs - 1) (drop 1 xs))) → 1 ≤ length xs → length (take (length xs - 1) (drop 1 xs)) ≤ i → l ≡ o ++ join_with_byte sign (map f xs)
joined_behind sign f o a l xs d i first others some all =
    rw (others, first, joined_by_place sign f xs d i some all) (append_assoc o _ _)
