-- The turns that are possible: after each sum, after each row and after each column.
use Rattle.std.proofs.Common.{◌≡◌, ℕ, ◌+◌, ◌-◌, ◌^◌, ◌<◌, ◌≤◌, ◌⊎◌, inl, inr, Bool, true, false, List, [], ◌∷◌, ◌++◌, length, get_or, set, refl, sym, ap, subst, ◌∙◌, arith, true≢false}
use Rattle.std.specs.Prelude.{IsTrue, ◌↔◌}
use Rattle.std.proofs.lemmas.Bool.{cases_eq}
use Rattle.std.proofs.lemmas.List.{get_or_default, get_or_push, get_or-set_same, get_or-set_other}
use Rattle.std.proofs.Math.ListN.{length-set, get_or-append}
use borrow.Author.Count.{below_more}
use Rattle.qz_circ.specs.Paths.{root2}
use Rattle.qz_circ.specs.ProgramCircuits.{ProgramCircuit}
use Rattle.qz_check.specs.Sums.{TurnedSum, amount}
use Rattle.qz_check.specs.Columns.{sum_at, IsColumn, IsTurnedBy, AreTurnedBy, flag}
use Rattle.qz_check.specs.Turns.{IsTurnedColumn, HasTurn}

-- one flag more
pub flag_more : (k : ℕ) (old new : List Bool) → length old ≡ k → new ≡ old ++ true ∷ [] → ((t : ℕ) → t < k → flag old t ≡ true) → (t : ℕ) → t < k + 1 → flag new t ≡ true
flag_more k old new len is before =
    below_more (λ t. flag new t ≡ true) k
    (λ t less. ap (λ xs. flag xs t) is ∙ get_or-append old (true ∷ []) false t (omega arith) ∙ before t less)
    (ap (λ xs. flag xs k) is ∙ get_or_push old true false k len)

-- ---- one sum

-- the flags below the bound are narrowed, and the others are as they were
pub record IsNarrowedBelow (x y : TurnedSum) (bound : ℕ) (old now : List Bool) : Type 0 where
  pub size : length now ≡ length old
  pub done : (t : ℕ) → t < bound → t < length old → (IsTrue (flag now t) ↔ (IsTrue (flag old t) × IsTurnedBy t x y))
  pub kept : (t : ℕ) → bound ≤ t → flag now t ≡ flag old t

-- none is at first
pub narrowed_none : (x y : TurnedSum) (flags : List Bool) → IsNarrowedBelow x y 0 flags flags
narrowed_none x y flags = record { size = refl; done = λ t less t_in. absurd (omega arith); kept = λ t more. refl }

-- one more
pub narrowed_more : (x y : TurnedSum) (k : ℕ) (d still : Bool) (old now : List Bool) → k < length old → (IsTrue still ↔ (IsTrue (get_or now k d) × IsTurnedBy k x y)) → IsNarrowedBelow x y k old now → IsNarrowedBelow x y (k + 1) old (set now k still)
narrowed_more x y k d still old now k_in told before = record {
  size = length-set now k still ∙ before.size;
  done = λ t less t_in. by t t_in less (cases_eq t k);
  kept = λ t more. get_or-set_other now k t still false (λ same. omega arith) ∙ before.kept t (omega arith);
}
  where
    in_now : k < length now
    in_now = omega (arith, before.size)

    read : get_or now k d ≡ flag old k
    read = get_or_default now k d false in_now ∙ before.kept k (omega arith)

    here : IsTrue (flag (set now k still) k) ↔ (IsTrue (flag old k) × IsTurnedBy k x y)
    here = subst (λ b. IsTrue b ↔ (IsTrue (flag old k) × IsTurnedBy k x y)) (sym (get_or-set_same now k still false in_now)) (subst (λ b. IsTrue still ↔ (IsTrue b × IsTurnedBy k x y)) read told)

    by : (t : ℕ) → t < length old → t < k + 1 → (t ≡ k) ⊎ (t ≡ k → ⊥) → (IsTrue (flag (set now k still) t) ↔ (IsTrue (flag old t) × IsTurnedBy t x y))
    by t t_in less (inl same) = subst (λ n. IsTrue (flag (set now k still) n) ↔ (IsTrue (flag old n) × IsTurnedBy n x y)) (sym same) here
    by t t_in less (inr other) = subst (λ b. IsTrue b ↔ (IsTrue (flag old t) × IsTurnedBy t x y)) (sym (get_or-set_other now k t still false other)) (before.done t (omega arith) t_in)

-- ---- one column

-- the flags are narrowed by the sums below the bound
pub record IsNarrowedTo (xs ys : List TurnedSum) (bound : ℕ) (old now : List Bool) : Type 0 where
  pub size : length now ≡ length old
  pub flags : (t : ℕ) → t < 512 → (IsTrue (flag now t) ↔ (IsTrue (flag old t) × ((i : ℕ) → i < bound → IsTurnedBy t (sum_at xs i) (sum_at ys i))))

-- by none at first
pub rows_none : (xs ys : List TurnedSum) (flags : List Bool) → IsNarrowedTo xs ys 0 flags flags
rows_none xs ys flags = record { size = refl; flags = λ t less. (λ h. (h, λ i below. absurd (omega arith)), λ h. h.0) }

-- one sum more
pub rows_more : (xs ys : List TurnedSum) (x y : TurnedSum) (k : ℕ) (old now new : List Bool) → x ≡ sum_at xs k → y ≡ sum_at ys k → length new ≡ length now →
    ((t : ℕ) → t < 512 → (IsTrue (flag new t) ↔ (IsTrue (flag now t) × IsTurnedBy t x y))) → IsNarrowedTo xs ys k old now → IsNarrowedTo xs ys (k + 1) old new
rows_more xs ys x y k old now new x_is y_is size told before = record {
  size = size ∙ before.size;
  flags = λ t less. (
    λ h.
        let both = (told t less).0 h in
        let rest = (before.flags t less).0 both.0 in
        (rest.0, below_more (λ i. IsTurnedBy t (sum_at xs i) (sum_at ys i)) k rest.1 (turned t both.1)),
    λ h. (told t less).1 ((before.flags t less).1 (h.0, λ i below. h.1 i (omega arith)), back t (h.1 k (omega arith))),
  );
}
  where
    turned : (t : ℕ) → IsTurnedBy t x y → IsTurnedBy t (sum_at xs k) (sum_at ys k)
    turned t h n = ap (λ (s : TurnedSum). amount s n) (sym x_is) ∙ h n ∙ ap (λ (s : TurnedSum). amount s (n + (512 - t))) y_is

    back : (t : ℕ) → IsTurnedBy t (sum_at xs k) (sum_at ys k) → IsTurnedBy t x y
    back t h n = ap (λ (s : TurnedSum). amount s n) x_is ∙ h n ∙ ap (λ (s : TurnedSum). amount s (n + (512 - t))) (sym y_is)

-- at the end by all
pub rows_all : (xs ys : List TurnedSum) (bound : ℕ) (old now : List Bool) → bound ≡ length xs → IsNarrowedTo xs ys bound old now → (t : ℕ) → t < 512 → (IsTrue (flag now t) ↔ (IsTrue (flag old t) × AreTurnedBy t xs ys))
rows_all xs ys bound old now all is t less = subst (λ n. IsTrue (flag now t) ↔ (IsTrue (flag old t) × ((i : ℕ) → i < n → IsTurnedBy t (sum_at xs i) (sum_at ys i)))) all (is.flags t less)

-- ---- whether one is left

-- no flag is set
pub none_left : (flags : List Bool) → ((t : ℕ) → t < length flags → flag flags t ≡ false) → (IsTrue false ↔ ((t : ℕ) × (t < length flags) × IsTrue (flag flags t)))
none_left flags none = (λ h. absurd (true≢false (sym h)), λ h. absurd (true≢false (sym h.2 ∙ none h.0 h.1)))

-- ---- the matrix

-- columns of two circuits are turned where the circuits' are
pub columns_turned : (q d t j : ℕ) (xs ys : List TurnedSum) (a c : ProgramCircuit) → IsColumn q 0 j xs a → IsColumn q d j ys c → (AreTurnedBy t xs ys ↔ IsTurnedColumn q d t a c j)
unfolding IsTurnedColumn root2
columns_turned q d t j xs ys a c first second = (
  λ h i less n. sym (first.amounts i n less) ∙ h i (subst (λ m. i < m) (sym first.size) less) n ∙ second.amounts i (n + (512 - t)) less,
  λ h i i_in n. let less : i < 2 ^ q = subst (λ m. i < m) first.size i_in in first.amounts i n less ∙ h i less n ∙ sym (second.amounts i (n + (512 - t)) less),
)

-- the flags tell which turns take the columns below the bound to each other
pub record IsNarrowedMatrix (q d : ℕ) (a c : ProgramCircuit) (bound : ℕ) (flags : List Bool) : Type 0 where
  pub size : length flags ≡ 512
  pub told : (t : ℕ) → t < 512 → (IsTrue (flag flags t) ↔ ((j : ℕ) → j < bound → IsTurnedColumn q d t a c j))

-- at first all do
pub matrix_none : (q d : ℕ) (a c : ProgramCircuit) (flags : List Bool) → length flags ≡ 512 → ((t : ℕ) → t < 512 → IsTrue (flag flags t)) → IsNarrowedMatrix q d a c 0 flags
matrix_none q d a c flags size all = record { size = size; told = λ t less. (λ h j below. absurd (omega arith), λ h. all t less) }

-- one column more
pub matrix_more : (q d k : ℕ) (xs ys : List TurnedSum) (a c : ProgramCircuit) (now new : List Bool) → IsColumn q 0 k xs a → IsColumn q d k ys c → length new ≡ length now →
    ((t : ℕ) → t < 512 → (IsTrue (flag new t) ↔ (IsTrue (flag now t) × AreTurnedBy t xs ys))) → IsNarrowedMatrix q d a c k now → IsNarrowedMatrix q d a c (k + 1) new
matrix_more q d k xs ys a c now new first second size told before = record {
  size = size ∙ before.size;
  told = λ t less.
      let turned = columns_turned q d t k xs ys a c first second in (
        λ h. let both = (told t less).0 h in below_more (λ j. IsTurnedColumn q d t a c j) k ((before.told t less).0 both.0) (turned.0 both.1),
        λ h. (told t less).1 ((before.told t less).1 (λ j below. h j (omega arith)), turned.1 (h k (omega arith))),
      );
}

-- what is told of the lists, as the code reads them
pub told_as : (new slice now : List Bool) (dx xs dy ys : List TurnedSum) → slice ≡ now → dx ≡ xs → dy ≡ ys → ((t : ℕ) → t < 512 → (IsTrue (flag new t) ↔ (IsTrue (flag slice t) × AreTurnedBy t dx dy))) →
    (t : ℕ) → t < 512 → (IsTrue (flag new t) ↔ (IsTrue (flag now t) × AreTurnedBy t xs ys))
told_as new slice now dx xs dy ys flags_is x_is y_is told t less =
    subst (λ f. IsTrue (flag new t) ↔ (IsTrue (flag f t) × AreTurnedBy t xs ys)) flags_is
    (subst (λ v. IsTrue (flag new t) ↔ (IsTrue (flag slice t) × AreTurnedBy t v ys)) x_is
    (subst (λ v. IsTrue (flag new t) ↔ (IsTrue (flag slice t) × AreTurnedBy t dx v)) y_is (told t less)))

-- at the end a turn is left exactly where one takes the matrix to the other
pub matrix_all : (q d : ℕ) (a c : ProgramCircuit) (bound : ℕ) (flags : List Bool) (left : Bool) → bound ≡ 2 ^ q → IsNarrowedMatrix q d a c bound flags → (IsTrue left ↔ ((t : ℕ) × (t < length flags) × IsTrue (flag flags t))) → (IsTrue left ↔ HasTurn q d a c)
matrix_all q d a c bound flags left all is told = (
  λ h. let found = told.0 h in let less : found.0 < 512 = subst (λ n. found.0 < n) is.size found.1 in (found.0, less, subst (λ n. (j : ℕ) → j < n → IsTurnedColumn q d found.0 a c j) all ((is.told found.0 less).0 found.2)),
  λ h. told.1 (h.0, subst (λ n. h.0 < n) (sym is.size) h.1, (is.told h.0 h.1).1 (subst (λ n. (j : ℕ) → j < n → IsTurnedColumn q d h.0 a c j) (sym all) h.2)),
)
