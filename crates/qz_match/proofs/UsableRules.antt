-- Usable rules, and that only these have places.
use Rattle.std.proofs.Common.{◌≡◌, ℕ, ◌<◌, ◌==◌, ◌&&◌, ◌||◌, Bool, true, false, List, [], ◌∷◌, length, refl, sym, ap, ◌∙◌, nat_lt}
use Rattle.std.specs.List.{list_any, list_all, flat_map}
use Rattle.std.proofs.lemmas.Bool.{ltb-true, and_parts}
use Rattle.std.proofs.lemmas.List.Folds.{list_any-append, list_all-append}
use Rattle.qz_circ.specs.declared.circuit.Op.{Op}
use Rattle.qz_circ.specs.Circuit.{Circuit}
use Rattle.qz_circ.specs.ProgramCircuits.{ProgramCircuit}
use Rattle.qz_circ.specs.Places.{rule_qubits_of, params_of, is_listed, is_connected, is_usable, all_places, places}
use Rattle.qz_match.specs.Occurring.{qubits_occur, gate_params_occur, occur_in}

any-flat_map : {A B : Type 0} (p : B → Bool) (f : A → List B) (xs : List A) → list_any p (flat_map f xs) ≡ list_any (λ x. list_any p (f x)) xs
any-flat_map p f [] = refl
any-flat_map p f (x ∷ xs) = list_any-append p (f x) (flat_map f xs) ∙ ap (λ b. list_any p (f x) || b) (any-flat_map p f xs)

all-flat_map : {A B : Type 0} (p : B → Bool) (f : A → List B) (xs : List A) → list_all p (flat_map f xs) ≡ list_all (λ x. list_all p (f x)) xs
all-flat_map p f [] = refl
all-flat_map p f (x ∷ xs) = list_all-append p (f x) (flat_map f xs) ∙ ap (λ b. list_all p (f x) && b) (all-flat_map p f xs)

all_same : {A : Type 0} (g h : A → Bool) (xs : List A) → ((x : A) → g x ≡ h x) → list_all g xs ≡ list_all h xs
all_same g h [] same = refl
all_same g h (x ∷ xs) same = rw (same x) (ap (λ b. h x && b) (all_same g h xs same))

-- all numbers of one circuit's gates are among those of another one's
listed_all : (f : Op → List ℕ) (left right : Circuit) → list_all (λ g. list_all (λ s. list_any (λ h. is_listed (f h) s) left) (f g)) right ≡ list_all (is_listed (flat_map f left)) (flat_map f right)
listed_all f left right =
    all_same (λ g. list_all (λ s. list_any (λ h. is_listed (f h) s) left) (f g)) (λ g. list_all (is_listed (flat_map f left)) (f g)) right
    (λ g. all_same (λ s. list_any (λ h. is_listed (f h) s) left) (is_listed (flat_map f left)) (f g) (λ s. sym (any-flat_map (λ t. t == s) f left)))
    ∙ sym (all-flat_map (is_listed (flat_map f left)) f right)

pub occur_in-is : (left right : Circuit) → (list_all (λ f. qubits_occur left f) right && list_all (λ f. gate_params_occur left f) right) ≡ occur_in left right
occur_in-is left right = rw (listed_all rule_qubits_of left right, listed_all params_of left right)

and_regroup : (a b c : Bool) → ((a && b) && c) ≡ (a && (b && c))
and_regroup true b c = refl
and_regroup false b c = refl

pub is_usable-is : (left right : Circuit) → is_usable left right ≡ ((nat_lt 0 (length left) && is_connected left) && occur_in left right)
unfolding is_usable
is_usable-is left right = and_regroup (nat_lt 0 (length left) && is_connected left) (list_all (is_listed (flat_map rule_qubits_of left)) (flat_map rule_qubits_of right)) (list_all (is_listed (flat_map params_of left)) (flat_map params_of right))

module _ (left right : Circuit) (c : ProgramCircuit) where
  -- no walk, or something that left doesn't have
  pub no_places : (a b : Bool) → a ≡ (nat_lt 0 (length left) && is_connected left) → b ≡ occur_in left right → (a && b) ≡ false → places left right c ≡ []
  unfolding places
  no_places a b walked covered none =
      let unusable : is_usable left right ≡ false = is_usable-is left right ∙ ap (λ x. x && occur_in left right) (sym walked) ∙ ap (λ x. a && x) (sym covered) ∙ none in
      rw unusable

  pub its_places : true ≡ (nat_lt 0 (length left) && is_connected left) → true ≡ occur_in left right → places left right c ≡ all_places left c
  unfolding places
  its_places walked covered =
      let usable : is_usable left right ≡ true = is_usable-is left right ∙ ap (λ x. x && occur_in left right) (sym walked) ∙ ap (λ x. true && x) (sym covered) in
      rw usable

-- a walk tells that the circuit isn't empty
pub walked_some : (left : Circuit) → true ≡ (nat_lt 0 (length left) && is_connected left) → 0 < length left
walked_some left walked = ltb-true 0 (length left) (and_parts (nat_lt 0 (length left)) (is_connected left) (sym walked)).0

pub occur_in-yes : (left right : Circuit) (b : Bool) → true ≡ list_all (λ f. qubits_occur left f) right → b ≡ list_all (λ f. gate_params_occur left f) right → b ≡ occur_in left right
occur_in-yes left right b h k = k ∙ ap (λ a. a && list_all (λ f. gate_params_occur left f) right) h ∙ occur_in-is left right

pub occur_in-no : (left right : Circuit) (b : Bool) → b ≡ false → false ≡ list_all (λ f. qubits_occur left f) right → b ≡ occur_in left right
occur_in-no left right b e h = e ∙ ap (λ a. a && list_all (λ f. gate_params_occur left f) right) h ∙ occur_in-is left right

pub usable-yes : (left right : Circuit) (b : Bool) → true ≡ (nat_lt 0 (length left) && is_connected left) → b ≡ occur_in left right → b ≡ is_usable left right
usable-yes left right b h k = k ∙ ap (λ a. a && occur_in left right) h ∙ sym (is_usable-is left right)

pub usable-no : (left right : Circuit) (b : Bool) → b ≡ false → false ≡ (nat_lt 0 (length left) && is_connected left) → b ≡ is_usable left right
usable-no left right b e h = e ∙ ap (λ a. a && occur_in left right) h ∙ sym (is_usable-is left right)
