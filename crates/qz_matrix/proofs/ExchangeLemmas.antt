-- Exchanging the entries of each two places that differ in one qubit, one pair after the other.
use Rattle.std.proofs.Common.{◌≡◌, ◌≢◌, ℕ, ◌+◌, ◌<◌, ◌≤◌, ◌==◌, Bool, true, false, ◌&&◌, ◌⊎◌, Option, Some, None, List, length, refl, sym, ap, subst, ◌∙◌, inl, inr, arith, true≢false}
use Rattle.std.specs.Prelude.{IfSome, if◌then◌else◌, nat_lt}
use Rattle.std.proofs.lemmas.Bool.{cases_eq}
use Rattle.std.proofs.lemmas.Bool.Decides.{nat_tests}
use Rattle.qz_circ.specs.Paths.{flipped_state}
use Rattle.qz_circ.proofs.Flips.{flipped_twice, bit_kept, flip_apart}
use Rattle.qz_ring.specs.Terms.{Terms}
use Rattle.qz_matrix.specs.Entries.{sum_at}
use Rattle.qz_matrix.specs.AfterGate.{is_chosen, IsExchanged, read_for}

-- a flip of the target leaves the control
chosen_kept : (control : Option ℕ) (target k : ℕ) → IfSome control (λ c. c ≢ target) → is_chosen control (flipped_state target k) ≡ is_chosen control k
chosen_kept None target k apart = refl
chosen_kept (Some c) target k apart = bit_kept c target k apart

-- each two places of which one is below the bound are exchanged, where the control is 1 or there is none
pub record IsExchangedBelow (control : Option ℕ) (target bound : ℕ) (old new : List Terms) : Type 0 where
  pub size : length new ≡ length old
  pub moved : (m : ℕ) → m < length old → is_chosen control m ≡ true → (m < bound) ⊎ (flipped_state target m < bound) → sum_at new m ≡ sum_at old (flipped_state target m)
  pub kept : (m : ℕ) → m < length old → bound ≤ m → bound ≤ flipped_state target m → sum_at new m ≡ sum_at old m
  pub free : (m : ℕ) → m < length old → is_chosen control m ≡ false → sum_at new m ≡ sum_at old m

-- none is exchanged at first
pub exchanged_none : (control : Option ℕ) (target : ℕ) (sums : List Terms) → IsExchangedBelow control target 0 sums sums
exchanged_none control target sums = record {
  size = refl;
  moved = λ m less chosen below. absurd (elim below [ inl h ↦ omega arith | inr h ↦ omega arith ]);
  kept = λ m less here there. refl;
  free = λ m less free. refl;
}

-- at the end all are
pub exchanged_all : (control : Option ℕ) (target bound : ℕ) (old new : List Terms) → length old ≤ bound → IsExchangedBelow control target bound old new → IsExchanged control target old new
exchanged_all control target bound old new all is = record { size = is.size; each = λ k less. by (is_chosen control k) k refl less }
  where
    by : (b : Bool) (k : ℕ) → is_chosen control k ≡ b → k < length old → sum_at new k ≡ sum_at old (if b then flipped_state target k else k)
    by true k chosen less = is.moved k less chosen (inl (omega arith))
    by false k free less = is.free k less free

-- the first of two exchanged places reads the second
read_first : (i j : ℕ) → read_for true i j i ≡ j
read_first i j = let test : (i == i) ≡ true = grind (arith, nat_tests) in rw test refl

-- the second reads the first
read_second : (i j : ℕ) → j ≢ i → read_for true i j j ≡ i
read_second i j apart =
    let other : (j == i) ≡ false = grind (arith, nat_tests) in
    let test : (j == j) ≡ true = grind (arith, nat_tests) in
    rw (other, test) refl

-- another place reads itself
read_other : (i j m : ℕ) → m ≢ i → m ≢ j → read_for true i j m ≡ m
read_other i j m first second =
    let one : (m == i) ≡ false = grind (arith, nat_tests) in
    let two : (m == j) ≡ false = grind (arith, nat_tests) in
    rw (one, two) refl

module _ (control : Option ℕ) (target k : ℕ) (old now new : List Terms) (apart : IfSome control (λ c. c ≢ target)) (k_in : k < length old) (f_in : flipped_state target k < length old) (before : IsExchangedBelow control target k old now) (size : length new ≡ length now) where
  -- a place that k is the flip of is the flip of k
  from_flip : (m : ℕ) → flipped_state target m ≡ k → m ≡ flipped_state target k
  from_flip m same = sym (flipped_twice target m) ∙ ap (flipped_state target) same

  -- one more pair
  pair_more : k < flipped_state target k → is_chosen control k ≡ true → ((m : ℕ) → m < length now → sum_at new m ≡ sum_at now (read_for true k (flipped_state target k) m)) → IsExchangedBelow control target (k + 1) old new
  pair_more lower chosen reads =
      let f = flipped_state target k in
      let first : sum_at new k ≡ sum_at old f = reads k (omega (arith, before.size)) ∙ ap (sum_at now) (read_first k f) ∙ before.kept f f_in (omega arith) (omega (arith, flipped_twice target k)) in
      let second : sum_at new f ≡ sum_at old (flipped_state target f) = reads f (omega (arith, before.size)) ∙ ap (sum_at now) (read_second k f (λ same. omega arith)) ∙ before.kept k k_in (omega arith) (omega arith) ∙ ap (sum_at old) (sym (flipped_twice target k)) in
      let other : (m : ℕ) → m < length old → m ≢ k → m ≢ f → sum_at new m ≡ sum_at now m = λ m less one two. reads m (omega (arith, before.size)) ∙ ap (sum_at now) (read_other k f m one two) in
      record {
        size = size ∙ before.size;
        moved = λ m less is below. elim (cases_eq m k) [
          | inl same ↦ subst (λ x. sum_at new x ≡ sum_at old (flipped_state target x)) (sym same) first
          | inr one ↦ elim (cases_eq m f) [
            | inl same ↦ subst (λ x. sum_at new x ≡ sum_at old (flipped_state target x)) (sym same) second
            | inr two ↦ other m less one two ∙ before.moved m less is (rest m one two below)
          ]
        ];
        kept = λ m less here there.
            other m less (λ same. omega arith) (λ same. let back : flipped_state target m ≡ k = ap (flipped_state target) same ∙ flipped_twice target k in omega arith) ∙
            before.kept m less (omega arith) (omega arith);
        free = λ m less is.
            other m less (λ same. true≢false (sym chosen ∙ ap (is_chosen control) (sym same) ∙ is)) (λ same. true≢false (sym chosen ∙ sym (chosen_kept control target k apart) ∙ ap (is_chosen control) (sym same) ∙ is)) ∙
            before.free m less is;
      }
    where
      rest : (m : ℕ) → m ≢ k → m ≢ flipped_state target k → (m < k + 1) ⊎ (flipped_state target m < k + 1) → (m < k) ⊎ (flipped_state target m < k)
      rest m one two (inl less) = inl (omega arith)
      rest m one two (inr less) = inr (elim (cases_eq (flipped_state target m) k) [ inl same ↦ absurd (two (from_flip m same)) | inr other ↦ omega arith ])

  -- no pair is left at k, which is the higher of its two places or not to be exchanged
  none_more : (flipped_state target k < k) ⊎ (is_chosen control k ≡ false) → ((m : ℕ) → m < length now → sum_at new m ≡ sum_at now m) → IsExchangedBelow control target (k + 1) old new
  none_more not_here reads = record {
    size = size ∙ before.size;
    moved = λ m less is below. reads m (omega (arith, before.size)) ∙ before.moved m less is (rest m is below);
    kept = λ m less here there. reads m (omega (arith, before.size)) ∙ before.kept m less (omega arith) (omega arith);
    free = λ m less is. reads m (omega (arith, before.size)) ∙ before.free m less is;
  }
    where
      -- the flip of k is below k, if k is chosen
      lower : is_chosen control k ≡ true → flipped_state target k < k
      lower is = elim not_here [ inl less ↦ less | inr free ↦ absurd (true≢false (sym is ∙ free)) ]

      here : (m : ℕ) → is_chosen control m ≡ true → m ≡ k → flipped_state target m < k
      here m is same = subst (λ x. flipped_state target x < k) (sym same) (lower (ap (is_chosen control) (sym same) ∙ is))

      there : (m : ℕ) → is_chosen control m ≡ true → flipped_state target m ≡ k → m < k
      there m is same =
          let from = from_flip m same in
          subst (λ x. x < k) (sym from) (lower (sym (chosen_kept control target k apart) ∙ ap (is_chosen control) (sym from) ∙ is))

      rest : (m : ℕ) → is_chosen control m ≡ true → (m < k + 1) ⊎ (flipped_state target m < k + 1) → (m < k) ⊎ (flipped_state target m < k)
      rest m is (inl less) = elim (cases_eq m k) [ inl same ↦ inr (here m is same) | inr other ↦ inl (omega arith) ]
      rest m is (inr less) = elim (cases_eq (flipped_state target m) k) [ inl same ↦ inl (there m is same) | inr other ↦ inr (omega arith) ]

  -- one more place
  pub exchanged_more : (f : ℕ) (wanted : Bool) → f ≡ flipped_state target k → wanted ≡ (nat_lt k f && is_chosen control k) → ((m : ℕ) → m < length now → sum_at new m ≡ sum_at now (read_for wanted k f m)) → IsExchangedBelow control target (k + 1) old new
  exchanged_more f wanted f_is wanted_is reads =
      by (nat_lt k f) (is_chosen control k) refl refl (λ m less. reads m less ∙ ap (λ b. sum_at now (read_for b k f m)) wanted_is)
    where
      by : (a b : Bool) → nat_lt k f ≡ a → is_chosen control k ≡ b → ((m : ℕ) → m < length now → sum_at new m ≡ sum_at now (read_for (a && b) k f m)) → IsExchangedBelow control target (k + 1) old new
      by true true lower is reads =
          let less : k < f = grind (arith, nat_tests) in
          pair_more (omega arith) is (λ m m_in. reads m m_in ∙ ap (λ x. sum_at now (read_for true k x m)) f_is)
      by true false lower is reads = none_more (inr is) reads
      by false b higher is reads =
          let ge : f ≤ k = grind (arith, nat_tests) in
          let differ = flip_apart target k in
          none_more (inl (omega arith)) reads
