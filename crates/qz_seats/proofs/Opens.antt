-- The rule at the opening, and what it says at the closing.
use Rattle.std.proofs.Common.{◌≡◌, ◌≢◌, ℕ, zero, suc, ◌+◌, ◌^◌, ◌<◌, ◌≤◌, ◌==◌, cond, List, [], ◌∷◌, ◌++◌, map, length, slice_get, slice_index, slice_index_or, Option, Some, None, sym, refl, ap, subst, ◌∙◌, append-nil, length-append, eq-eqb, ne_eqb, arith}
use Rattle.std.specs.List.{All, count_by, sum_by}
use Rattle.std.proofs.lemmas.Bool.Decides.{nat_tests}
use Rattle.std.proofs.lemmas.List.{length-map}
use Rattle.std.proofs.lemmas.List.Sums.{sum_by-cons}
use Rattle.std.proofs.lemmas.Option.{slice_get_within}
use mathlib.Core.Option.{some, some-injective, some-ne-none}
use mathlib.Core.Logic.{dite}
use native.Mathlib.Decide.{ℕ_discrete}
use lib.ListN.{get_elem?}
use Rattle.atomic_table.specs.Table.{State, opening}
use Rattle.atomic_table.proofs.Lists.{at_map}
use Rattle.qz_seats.specs.declared.view.Terms.{Terms}
use Rattle.qz_seats.specs.declared.view.View.{View}
use Rattle.qz_seats.specs.Receipts.{ReceiptParts}
use Rattle.qz_seats.specs.Views.{draws, is_held, holding, placed, with_item, first_view, nobody}
use Rattle.qz_seats.specs.SeatRule.{below, between, count_of, opening_of, journal_of, names_of, terms_of, IsLawful, IsNamed, Fits, IsAt, IsRuled}
use Rattle.qz_seats.specs.Parts.{IsSeats}
use Rattle.qz_seats.specs.Answers.{HaveNames, IsGrown, IsClosed}
use Rattle.qz_seats.proofs.Sums.{one_le}
use Rattle.qz_seats.proofs.Changes.{below_one}
use Rattle.qz_seats.proofs.Lifts.{has_all}
use Rattle.qz_seats.proofs.Moves.{at_within, at_get_or}
use Rattle.qz_seats.proofs.Passes.{some_same}

none-some : (h : ℕ × List ℕ) → None ≡ Some h → ⊥
none-some h e = cc

no_place : (p n : ℕ) → 0 ≡ between p n (n + 0)
no_place p n = grind (arith, nat_tests)

first_fits : (t : Terms) (v : View) → 0 < t.seats → first_view t ≡ v → Fits t 0 (λ _. []) v
first_fits t v seats is = subst (Fits t 0 (λ _. [])) is (record {
  live = λ _. refl;
  spent = λ e. absurd (omega arith);
  past = λ h. absurd (omega arith);
  ended = λ e. absurd (cc);
  holds = λ h e. absurd (none-some h e);
  stand = λ k d h. absurd (omega arith);
  named = λ _. record { each_name = λ k d h. absurd (omega arith); each_drawn = λ d x name. omega arith };
})

only : {A : Type 0} (a b : A) (k : ℕ) → get_elem? (a ∷ []) k ≡ some b → a ≡ b
only a b zero at = some-injective a b at
only a b (suc k) at = absurd (some-ne-none b (sym at))

below_zero : (x : ℕ) → 0 ≡ below x 0
below_zero x = grind (arith, nat_tests)

below_all : (x limit c : ℕ) → x < limit → limit < c → below x c ≡ 1
below_all x limit c a b = grind (arith, nat_tests)

-- a receipt in a list is one with its entry
has_item : (x : ℕ) (rs : List ReceiptParts) (k : ℕ) (d : ReceiptParts) → k < length rs → (slice_index_or rs k d).item ≡ x → 0 < count_by (λ r. r.item == x) rs
has_item x rs k d inside is =
    let h = one_le (λ (r : ReceiptParts). cond (r.item == x) 1 0) rs k (slice_index_or rs k d) (at_get_or rs k d inside) in
    let one : cond {A = ℕ} ((slice_index_or rs k d).item == x) 1 0 ≡ 1 = ap (λ b. cond {A = ℕ} b 1 0) (eq-eqb (slice_index_or rs k d).item x is) in
    omega arith

-- where an entry is counted, some receipt has it
item_there : (P : ReceiptParts → Type 0) (x : ℕ) (rs : List ReceiptParts) → All P rs → 0 < count_by (λ r. r.item == x) rs → (r : ReceiptParts) × P r × (r.item ≡ x)
item_there P x [] each more = absurd (omega arith)
item_there P x (r ∷ rs) each more =
    dite (ℕ_discrete r.item x)
    (λ e. (r, each 0 r (omega arith), e))
    (λ ne. item_there P x rs (λ k d inside. each (suc k) d (omega arith))
    (let h : cond {A = ℕ} (r.item == x) 1 0 ≡ 0 = ap (λ b. cond {A = ℕ} b 1 0) (ne_eqb r.item x ne) in omega (arith, sum_by-cons (λ (q : ReceiptParts). cond (q.item == x) 1 0) r rs)))

-- the value at a place
value_there : {A : Type 0} (values : List A) (i : ℕ) → i < length values → (value : A) × (get_elem? values i ≡ some value)
value_there [] i inside = absurd (omega arith)
value_there (z ∷ zs) zero inside = (z, refl)
value_there (z ∷ zs) (suc i) inside = value_there zs i (omega arith)

mapped_at : {A : Type 0} (f : A → List ℕ) (values : List A) (i : ℕ) (value : A) → get_elem? values i ≡ some value → slice_index_or (map f values) i [] ≡ f value
mapped_at f [] i value at = absurd (some-ne-none value (sym at))
mapped_at f (z ∷ zs) zero value at = ap f (some-injective z value at)
mapped_at f (z ∷ zs) (suc i) value at = mapped_at f zs i value at

module _ {V : Type 0} (J N M : V → List ℕ) where
  pub lawful_terms : (limit seats : ℕ) (values : List V) → HaveNames N limit values → limit ≤ 2 ^ 40 → 1 ≤ seats → seats ≤ 16 → length values ≤ 16 → IsLawful (terms_of J N M limit seats values)
  lawful_terms limit seats values names given seated few_seats few_values = record {
    given = given;
    some_seat = seated;
    few_seats = few_seats;
    few_values = omega (arith, length-map values J);
    named = names.count;
    apart = names.apart;
  }

  -- what a table keeps, where it was made for these values
  pub made : (limit seats : ℕ) (values : List V) (limit_kept seats_kept : ℕ) (values_kept : List V) (words slots : ℕ) (room : List V) (capacity : ℕ) → IsLawful (terms_of J N M limit seats values)
      → limit_kept ≡ limit → seats_kept ≡ seats → values_kept ≡ values → words ≡ length values + 1 → slots ≡ length values → room ≡ [] → length values ≤ capacity
      → IsSeats (terms_of J N M limit_kept seats_kept values_kept) words slots limit room capacity
  made limit seats values limit_kept seats_kept values_kept words slots room capacity lawful same_limit same_seats same_values words_are slots_are empty enough =
      subst (λ n. IsSeats (terms_of J N M n seats_kept values_kept) words slots limit room capacity) (sym same_limit)
      (subst (λ n. IsSeats (terms_of J N M limit n values_kept) words slots limit room capacity) (sym same_seats)
      (subst (λ vs. IsSeats (terms_of J N M limit seats vs) words slots limit room capacity) (sym same_values) (record {
        lawful = lawful;
        limit_is = refl;
        words_are = words_are ∙ ap (λ n. n + 1) (sym (length-map values J));
        slots_are = slots_are ∙ sym (length-map values J);
        empty = empty;
        room_is = omega (arith, length-map values J);
      })))

  pub begins : (limit seats : ℕ) (values : List V) (words : List ℕ) → 1 ≤ seats → All (λ value. N value ≡ names_of N values) values → length words ≡ length values + 1 → ((k : ℕ) → slice_index words k ≡ 0)
      → IsRuled J N M (terms_of J N M limit seats values) (opening words (map Some values) (first_view (terms_of J N M limit seats values)))
  begins limit seats values words seated names long zeros =
      let t = terms_of J N M limit seats values in
      record {
        rest = λ _. [];
        wide = long ∙ ap (λ n. n + 1) (sym (length-map values J));
        long = length-map (map Some values) some ∙ (length-map values Some ∙ sym (length-map values J));
        drawn = λ x. below_zero x ∙ ap (below x) (sym (zeros 0));
        shares = omega arith;
        past = omega arith;
        counter = (let z = zeros 0 in omega arith);
        values = λ i inside.
            (let within : i < length values = omega (arith, length-map values J) in
            let there = value_there values i within in
            let value = there.0 in
            let here = at_within values i value there.1 in
            record {
              lock = sym (zeros (i + 1));
              bit = (let z = zeros (i + 1) in omega arith);
              home = λ _. (
                value,
                at_map some (map Some values) i (Some value) (at_map Some values i value there.1),
                record {
                  journal_is = sym (mapped_at J values i value there.1) ∙ sym (append-nil (opening_of t i));
                  names_are = ap N (sym here.1) ∙ names i value within;
                  mark_is = sym (mapped_at M values i value there.1);
                },
              );
              out = λ e. absurd (let z = zeros (i + 1) in omega arith);
              places = λ p. no_place p (length (opening_of t i));
              entries = λ x. refl;
            });
        fits = λ k v at. subst (λ c. Fits t c (λ _. []) v) (sym (zeros 0)) (first_fits t v seated (only (first_view t) v k at));
      }

module _ {V : Type 0} (J N M : V → List ℕ) (t : Terms) where
  -- who has all the shares and holds nothing finds all values at home
  pub all_home : (s : State (Option V) View) (r : IsRuled J N M t s) (id : ℕ) (v : View) → get_elem? s.views id ≡ some v → v.shares ≡ t.seats → v.held ≡ None
      → (i : ℕ) → i < count_of t → (value : V) × (get_elem? s.homes i ≡ some (some (Some value))) × IsAt J N M t i (journal_of t r.rest i) value
  all_home s r id v at all free i inside =
      let old = r.values i inside in
      old.home (sym old.lock ∙ (has_all J N M t (holding i) refl s r id v at all ∙ ap (is_held i) free))

  pub closes : (s : State (Option V) View) (r : IsRuled J N M t s) (id : ℕ) (v : View) (values : List V) → get_elem? s.views id ≡ some v → v.terms ≡ t → v.shares ≡ t.seats → v.held ≡ None
      → length values ≡ count_of t → ((i : ℕ) (value : V) → get_elem? s.homes i ≡ some (some (Some value)) → slice_get values i ≡ Some value)
      → IsClosed J N M v values
  closes s r id v values at same all free count homes =
      let fit = r.fits id v at in
      let c = slice_index s.words 0 in
      let mine : (f : View → ℕ) → f nobody ≡ 0 → sum_by f s.views ≡ f v = λ f e. has_all J N M t f e s r id v at all in
      let home : (i : ℕ) → i < count_of t → (value : V) × (slice_get values i ≡ Some value) × IsAt J N M t i (journal_of t r.rest i) value =
      λ i inside. (let h = all_home s r id v at all free i inside in (h.0, homes i h.0 h.1, h.2)) in
      let drew : (x : ℕ) → draws x v ≡ below x c = λ x. sym (mine (draws x) refl) ∙ r.drawn x in
      let once : (x : ℕ) → draws x v < 2 = λ x. (let a = drew x in let b = below_one x c in omega arith) in
      let named : v.terms.names ≢ [] → IsNamed t.names v = λ names. fit.named (subst (λ (u : Terms). u.names ≢ []) same names) in
      record {
        count = count ∙ ap count_of (sym same);
        grown = λ i value e.
            (let inside : i < count_of t = (let h = slice_get_within values i value e in omega arith) in
            let h = home i inside in
            let is : h.0 ≡ value = some_same h.0 value (sym h.1 ∙ e) in
            subst (IsGrown J N M v i) is (record {
              after = r.rest i;
              at = subst (λ (u : Terms). IsAt J N M u i (opening_of u i ++ r.rest i) h.0) (sym same) h.2;
              places = λ p. subst (λ (u : Terms). placed i p v ≡ between p (length (opening_of u i)) (length (J h.0))) (sym same)
                  (sym (mine (placed i p) refl) ∙ ((r.values i inside).places p ∙ ap (λ n. between p (length (opening_of t i)) n) (sym (ap length h.2.journal_is ∙ length-append (opening_of t i) (r.rest i)))));
            }));
        stand = λ k d inside. (let f = fit.stand k d inside in let h = home (slice_index_or v.receipts k d).shard f.0 in
            (h.0, h.1, subst (λ xs. slice_get xs (slice_index_or v.receipts k d).place ≡ Some (slice_index_or v.receipts k d).item) (sym h.2.journal_is) f.1));
        once = once;
        named = λ names k d inside. (let n = (named names).each_name k d inside in
            let drawn = (named names).each_drawn n.0 (slice_index_or v.receipts k d).item n.1 in
            let more = has_item (slice_index_or v.receipts k d).item v.receipts k d inside refl in
            (n.0, subst (λ (u : Terms). slice_get u.names n.0 ≡ Some (slice_index_or v.receipts k d).item) (sym same) n.1, omega arith));
        apart = λ names x. few (with_item x v) (λ more.
            (let q = item_there (λ r. (d : ℕ) × (slice_get t.names d ≡ Some r.item)) x v.receipts (named names).each_name more in
            let drawn = (named names).each_drawn q.1.0 x (q.1.1 ∙ ap Some q.2) in
            let o = once q.1.0 in omega arith));
        ended = λ e x inside. drew x ∙ below_all x t.limit c (subst (λ (u : Terms). x < u.limit) same inside) (fit.ended e);
      }
    where
      few : (n : ℕ) → (0 < n → n < 2) → n < 2
      few zero h = omega arith
      few (suc n) h = h (omega arith)
