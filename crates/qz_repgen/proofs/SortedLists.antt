-- Lists that rise, with the numbers of any list; and lists of lists, end to end.
use Rattle.std.proofs.Common.{◌≡◌, ◌≢◌, ℕ, suc, ◌+◌, ◌<◌, Bool, true, List, [], ◌∷◌, ◌++◌, length, get_or, ◌⊎◌, inl, inr, refl, sym, subst, ◌∙◌, arith}
use Rattle.std.specs.Prelude.{Contains, All, ◌↔◌, filter}
use Rattle.std.specs.List.{AllPairs, flat_map}
use Rattle.std.proofs.lemmas.Bool.{cases_order}
use Rattle.std.proofs.lemmas.List.Concat.{flat_map-cons}
use Rattle.std.proofs.lemmas.List.Elements.{Contains-get_or, Contains-append_left, Contains-append_right, Contains-append_cases, All-contains, All-contains_itself, All-filter, filter_passes}
use Rattle.std.proofs.lemmas.List.Kept.{AllPairs-cons}
use Rattle.qz_circ.proofs.ClassLaws.{Rises, pairs_tail, pair_first, contains_none, contains_cases, contains_first, contains_rest, rises_tail, first_below}
use Rattle.qz_repgen.specs.Numbers.{IsNumberOf}
use Rattle.qz_repgen.proofs.RisingRuns.{increasing_from_rises}

-- what holds of all elements, from what holds of those that a list contains
pub all_by_contains : {A : Type 0} (P : A → Type 0) (xs : List A) → ((x : A) → Contains xs x → P x) → All P xs
all_by_contains P xs each k d inside = each (get_or xs k d) (Contains-get_or xs k d inside)

-- ---- pairs

module _ {A : Type 0} (R : A → A → Type 0) where
  -- the pairs of two lists end to end
  pairs-append : (xs ys : List A) → AllPairs R xs → AllPairs R ys → ((x y : A) → Contains xs x → Contains ys y → R x y) → AllPairs R (xs ++ ys)
  pairs-append [] ys rx ry across = ry
  pairs-append (x ∷ xs) ys rx ry across =
      AllPairs-cons R x (xs ++ ys)
      (all_by_contains (R x) (xs ++ ys) (λ y has. elim (Contains-append_cases xs ys y has) [
        | inl left ↦ pair_first R x xs rx y left
        | inr right ↦ across x y (contains_first x xs) right
      ]))
      (pairs-append xs ys (pairs_tail R x xs rx) ry (λ z y has_z has_y. across z y (contains_rest x xs z has_z) has_y))

-- ---- rising lists of the numbers of a list

-- zs is the rising list ys with x in its place
record PutsIn (x : ℕ) (ys zs : List ℕ) : Type 0 where
  rising : Rises zs
  exactly : (r : ℕ) → Contains zs r ↔ (Contains ys r ⊎ (x ≡ r))
  longer : (Contains ys x → ⊥) → length zs ≡ length ys + 1

put_in : (x : ℕ) (ys : List ℕ) → Rises ys → (zs : List ℕ) × PutsIn x ys zs
put_in x [] rises = (
  x ∷ [],
  record {
    rising = λ i j d before inside. absurd (omega arith);
    exactly = λ r. (
      λ has. elim (contains_cases x [] r has) [ inl same ↦ inr same | inr later ↦ absurd (contains_none r later) ],
      λ h. elim h [ inl has ↦ absurd (contains_none r has) | inr same ↦ subst (Contains (x ∷ [])) same (contains_first x []) ],
    );
    longer = λ none. refl;
  },
)
put_in x (y ∷ ys) rises = by (cases_order x y) (put_in x ys (rises_tail y ys rises))
  where
    by : (x ≡ y) ⊎ ((x < y) ⊎ (y < x)) → ((zs : List ℕ) × PutsIn x ys zs) → (zs : List ℕ) × PutsIn x (y ∷ ys) zs
    by (inl same) rest = (
      y ∷ ys,
      record {
        rising = rises;
        exactly = λ r. (
          λ has. inl has,
          λ h. elim h [ inl has ↦ has | inr is ↦ subst (Contains (y ∷ ys)) (sym same ∙ is) (contains_first y ys) ],
        );
        longer = λ none. absurd (none (subst (Contains (y ∷ ys)) (sym same) (contains_first y ys)));
      },
    )
    by (inr (inl less)) rest = (
      x ∷ y ∷ ys,
      record {
        rising = AllPairs-cons (λ a b. a < b) x (y ∷ ys) (all_by_contains (λ b. x < b) (y ∷ ys) (λ r has. elim (contains_cases y ys r has) [
          | inl same ↦ omega (arith, same)
          | inr later ↦ omega (arith, first_below y ys rises r later)
        ])) rises;
        exactly = λ r. (
          λ has. elim (contains_cases x (y ∷ ys) r has) [ inl same ↦ inr same | inr later ↦ inl later ],
          λ h. elim h [ inl has ↦ contains_rest x (y ∷ ys) r has | inr is ↦ subst (Contains (x ∷ y ∷ ys)) is (contains_first x (y ∷ ys)) ],
        );
        longer = λ none. omega arith;
      },
    )
    by (inr (inr more)) (zs, puts) = (
      y ∷ zs,
      record {
        rising = AllPairs-cons (λ a b. a < b) y zs (all_by_contains (λ b. y < b) zs (λ r has. elim ((puts.exactly r).0 has) [
          | inl old ↦ first_below y ys rises r old
          | inr is ↦ omega (arith, is)
        ])) puts.rising;
        exactly = λ r. (
          λ has. elim (contains_cases y zs r has) [
            | inl same ↦ inl (subst (Contains (y ∷ ys)) same (contains_first y ys))
            | inr later ↦ elim ((puts.exactly r).0 later) [ inl old ↦ inl (contains_rest y ys r old) | inr is ↦ inr is ]
          ],
          λ h. elim h [
            | inl has ↦ elim (contains_cases y ys r has) [
              | inl same ↦ subst (Contains (y ∷ zs)) same (contains_first y zs)
              | inr later ↦ contains_rest y zs r ((puts.exactly r).1 (inl later))
            ]
            | inr is ↦ contains_rest y zs r ((puts.exactly r).1 (inr is))
          ],
        );
        longer = λ none. omega (arith, puts.longer (λ has. none (contains_rest y ys x has)));
      },
    )

-- zs rises and has the numbers of xs; it is as long where these are different
pub record IsSortedOf (xs zs : List ℕ) : Type 0 where
  pub rising : Rises zs
  pub exactly : (r : ℕ) → Contains zs r ↔ Contains xs r
  pub long : AllPairs (λ r t. r ≢ t) xs → length zs ≡ length xs

-- there is such a list
pub sorted : (xs : List ℕ) → (zs : List ℕ) × IsSortedOf xs zs
sorted [] = ([], record { rising = λ i j d before inside. absurd (omega arith); exactly = λ r. (λ has. has, λ has. has); long = λ different. refl })
sorted (x ∷ xs) = by (sorted xs)
  where
    by : ((zs : List ℕ) × IsSortedOf xs zs) → (zs : List ℕ) × IsSortedOf (x ∷ xs) zs
    by (ys, is) =
        let put = put_in x ys is.rising in
        let puts = put.1 in (
          put.0,
          record {
            rising = puts.rising;
            exactly = λ r. (
              λ has. elim ((puts.exactly r).0 has) [
                | inl old ↦ contains_rest x xs r ((is.exactly r).0 old)
                | inr same ↦ subst (Contains (x ∷ xs)) same (contains_first x xs)
              ],
              λ has. (puts.exactly r).1 (elim (contains_cases x xs r has) [ inl same ↦ inr same | inr later ↦ inl ((is.exactly r).1 later) ]),
            );
            long = λ different.
                let apart : Contains ys x → ⊥ = λ has. pair_first (λ r t. r ≢ t) x xs different x ((is.exactly x).0 has) refl in
                omega (arith, puts.longer apart, is.long (pairs_tail (λ r t. r ≢ t) x xs different));
          },
        )

-- different numbers, which are those of a fact, are as many as there are of it
pub number_of_different : (P : ℕ → Type 0) (xs : List ℕ) → AllPairs (λ r t. r ≢ t) xs → ((r : ℕ) → Contains xs r ↔ P r) → IsNumberOf P (length xs)
number_of_different P xs different exactly =
    let found = sorted xs in
    record {
      numbers = found.0;
      exactly = record {
        rising = increasing_from_rises found.0 found.1.rising;
        exactly = λ r. (λ has. (exactly r).0 ((found.1.exactly r).0 has), λ holds. (found.1.exactly r).1 ((exactly r).1 holds));
      };
      all_of_them = sym (found.1.long different);
    }

-- ---- lists end to end

-- an element of one of the lists
pub Contains-flat_map : {A B : Type 0} (f : A → List B) (xs : List A) (x : A) (y : B) → Contains xs x → Contains (f x) y → Contains (flat_map f xs) y
Contains-flat_map f [] x y has in_f = absurd (contains_none x has)
Contains-flat_map {B = B} f (z ∷ xs) x y has in_f = subst (λ (l : List B). Contains l y) (sym (flat_map-cons f z xs)) (elim (contains_cases z xs x has) [
  | inl same ↦ Contains-append_left (f z) (flat_map f xs) y (subst (λ a. Contains (f a) y) (sym same) in_f)
  | inr later ↦ Contains-append_right (f z) (flat_map f xs) y (Contains-flat_map f xs x y later in_f)
])

-- and only such
pub Contains-from_flat_map : {A B : Type 0} (f : A → List B) (xs : List A) (y : B) → Contains (flat_map f xs) y → (x : A) × Contains xs x × Contains (f x) y
Contains-from_flat_map f [] y has = absurd (contains_none y has)
Contains-from_flat_map {A} {B} f (z ∷ xs) y has = by (Contains-append_cases (f z) (flat_map f xs) y (subst (λ (l : List B). Contains l y) (flat_map-cons f z xs) has)) (Contains-from_flat_map f xs y)
  where
    by : Contains (f z) y ⊎ Contains (flat_map f xs) y → (Contains (flat_map f xs) y → (x : A) × Contains xs x × Contains (f x) y) → (x : A) × Contains (z ∷ xs) x × Contains (f x) y
    by (inl here) rest = (z, contains_first z xs, here)
    by (inr later) rest = let found = rest later in (found.0, contains_rest z xs found.0 found.1, found.2)

-- pairs end to end, where the lists are numbered and a pair of two lists is one of two numbers
module _ {A B : Type 0} (R : B → B → Type 0) (f : A → List B) (number : B → ℕ) (apart : (x y : B) → number x < number y → R x y) where
  pub pairs-flat_map : (xs : List A) (start : ℕ) → ((k : ℕ) (d : A) → k < length xs → AllPairs R (f (get_or xs k d))) →
      ((k : ℕ) (d : A) (y : B) → k < length xs → Contains (f (get_or xs k d)) y → number y ≡ start + k) → AllPairs R (flat_map f xs)
  pairs-flat_map [] start each numbered = λ i j d before inside. absurd (omega arith)
  pairs-flat_map (x ∷ xs) start each numbered =
      subst (AllPairs R) (sym (flat_map-cons f x xs))
      (pairs-append R (f x) (flat_map f xs) (each 0 x (omega arith))
      (pairs-flat_map xs (start + 1) (λ k d inside. each (suc k) d (omega arith)) (λ k d y inside has. omega (arith, numbered (suc k) d y (omega arith) has)))
      (λ y z has_y has_z.
      let source = Contains-from_flat_map f xs z has_z in
      let place = source.1.0 in
      let later : number z ≡ start + suc place = numbered (suc place) source.0 z (omega (arith, source.1.1)) (subst (λ a. Contains (f a) z) (sym source.1.2) source.2) in
      apart y z (omega (arith, numbered 0 x y (omega arith) has_y, later))))

-- an element that a filter leaves stands in the list and passes the test
pub Contains-from_filter : {A : Type 0} (test : A → Bool) (xs : List A) (x : A) → Contains (filter test xs) x → Contains xs x × (test x ≡ true)
Contains-from_filter test xs x has = (
  All-contains (Contains xs) (filter test xs) x (All-filter test (Contains xs) xs (All-contains_itself xs)) has,
  All-contains (λ y. test y ≡ true) (filter test xs) x (filter_passes test xs) has,
)
