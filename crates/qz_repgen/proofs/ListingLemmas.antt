-- What is found in the classes of one shard after another.
use Rattle.std.proofs.Common.{◌≡◌, ℕ, ◌+◌, ◌<◌, ◌≤◌, Bool, true, false, cond, List, [], ◌∷◌, ◌++◌, length, get_or, map, take, inl, inr, refl, sym, ap, subst, ◌∙◌, arith, append_assoc, length-take}
use Rattle.std.specs.Prelude.{All, Contains, slice_index, nat_lt}
use Rattle.std.specs.List.{AllZip, flat_map}
use Rattle.std.specs.List.Sorted.{IsPermutation, IsNonDecreasing, IsNonDecreasingBy}
use Rattle.std.proofs.lemmas.Grind.{flat_map-append}
use Rattle.std.proofs.lemmas.List.{append-nil, take_more, take_all, map-append, length-map, get_or-map, get_or_append_left, get_or_push, length_push}
use Rattle.std.proofs.lemmas.List.Concat.{flat_map-cons}
use Rattle.std.proofs.lemmas.List.Elements.{All-contains, All-push, Contains-get_or, Contains-append_cases, filter-append}
use Rattle.std.proofs.lemmas.List.Sorted.{All-permutation, IsPermutation-map}
use Rattle.qz_circ.specs.Circuit.{Limits}
use Rattle.qz_circ.specs.ClassLists.{AreRanks}
use Rattle.qz_circ.proofs.ClassLaws.{contains_first, contains_rest}
use Rattle.qz_shard.specs.Journals.{AreClassesOf}
use Rattle.qz_shard.specs.Shards.{ShardParts}
use Rattle.qz_shard.proofs.Zipped.{zip_push, zip_length, zip_at}
use Rattle.qz_repgen.specs.declared.listing.Place.{Place}
use Rattle.qz_repgen.specs.Journals.{several, AreTogether}
use Rattle.qz_repgen.specs.Listing.{firsts_of_length, AddsFirsts, HasFirsts, ListsFirsts, class_at_place, IsPlaceIn, AddsPlacesOf, AddsPlaces, HasPlaces, ListsPlaces}
use Rattle.qz_repgen.specs.Shards.{journals_of}
use Rattle.qz_repgen.proofs.ClassMembers.{members_are_ranks, one_classes}
use Rattle.qz_repgen.proofs.ShardLemmas.{journal_of_shard}
use Rattle.qz_repgen.proofs.SortedLists.{all_by_contains}

-- the journals of the shards up to one more
journals_more : (shards : List ShardParts) (i : ℕ) (s : ShardParts) → i < length shards → s ≡ get_or shards i s → journals_of (take (i + 1) shards) ≡ journals_of (take i shards) ++ s.journal ∷ []
journals_more shards i s inside is =
    ap journals_of (take_more shards i s inside) ∙ map-append (λ (x : ShardParts). x.journal) (take i shards) (get_or shards i s ∷ []) ∙
    ap (λ (x : ShardParts). journals_of (take i shards) ++ x.journal ∷ []) (sym is)

-- what a function gives of a list with one element more
flat_map-push : {A B : Type 0} (f : A → List B) (xs : List A) (x : A) → flat_map f (xs ++ x ∷ []) ≡ flat_map f xs ++ f x
flat_map-push f xs x = flat_map-append f xs (x ∷ []) ∙ ap (λ ys. flat_map f xs ++ ys) (flat_map-cons f x [] ∙ append-nil (f x))

-- the first members of one shard more
pub firsts_more : (b : Limits) (k : ℕ) (shards : List ShardParts) (i : ℕ) (s : ShardParts) (found new : List ℕ) → i < length shards → s ≡ get_or shards i s →
    HasFirsts b k (journals_of (take i shards)) found → AddsFirsts b k s.journal found new → HasFirsts b k (journals_of (take (i + 1) shards)) new
firsts_more b k shards i s found new inside is has adds = subst (λ js. HasFirsts b k js new) (sym (journals_more shards i s inside is)) (record {
  all = has.all ++ adds.classes ∷ [];
  are = zip_push (AreClassesOf b) (journals_of (take i shards)) has.all s.journal adds.classes has.are adds.are;
  items = adds.items ∙ ap (λ xs. xs ++ firsts_of_length b k adds.classes) has.items ∙ sym (flat_map-push (firsts_of_length b k) has.all adds.classes);
})

-- and of all, in order
pub firsts_all : (b : Limits) (k : ℕ) (shards : List ShardParts) (i : ℕ) (found new : List ℕ) → length shards ≤ i → HasFirsts b k (journals_of (take i shards)) found → IsPermutation found new → IsNonDecreasing new → ListsFirsts b k (journals_of shards) new
firsts_all b k shards i found new end has moved order =
    let whole = subst (λ xs. HasFirsts b k (journals_of xs) found) (take_all i shards end) has in
    record { all = whole.all; are = whole.are; those = subst (λ xs. IsPermutation xs new) whole.items moved; in_order = order }

-- ---- places

-- functions that agree on the elements of a list give one list
map_same : {A B : Type 0} (f g : A → B) (xs : List A) → ((x : A) → Contains xs x → f x ≡ g x) → map f xs ≡ map g xs
map_same f g [] same = refl
map_same f g (x ∷ xs) same =
    let first = same x (contains_first x xs) in
    let rest = map_same f g xs (λ y has. same y (contains_rest x xs y has)) in
    λ i. first i ∷ rest i

-- those of several members, with one class more
several_more : (listed : List (List ℕ)) (list : List ℕ) (test : Bool) → nat_lt 1 (length list) ≡ test → several (listed ++ list ∷ []) ≡ several listed ++ cond test (list ∷ []) []
several_more listed list test is = filter-append (λ (l : List ℕ). nat_lt 1 (length l)) listed (list ∷ []) ∙ ap (λ t. several listed ++ cond t (list ∷ []) []) is

module _ (k : ℕ) (classes : List (List ℕ)) where
  -- no class is listed yet
  row_none : (old : List Place) → AddsPlacesOf k classes (take 0 classes) old old
  row_none old = record {
    row = [];
    items = sym (append-nil old);
    are_places = record {
      shard = λ i d inside. absurd (omega arith);
      class = λ i d inside. absurd (omega arith);
      first = λ i d inside. absurd (omega arith);
      lists = refl;
    };
  }

  module _ (i : ℕ) (inside : i < length classes) (old places : List Place) (adds : AddsPlacesOf k classes (take i classes) old places) where
    abbrev class : List ℕ
    class = get_or classes i []

    one_more : take (i + 1) classes ≡ take i classes ++ class ∷ []
    one_more = take_more classes i [] inside

    -- a class of one member is left out
    pub row_same : nat_lt 1 (length class) ≡ false → AddsPlacesOf k classes (take (i + 1) classes) old places
    row_same single = record {
      row = adds.row;
      items = adds.items;
      are_places = record {
        shard = adds.are_places.shard;
        class = adds.are_places.class;
        first = adds.are_places.first;
        lists = adds.are_places.lists ∙ sym (ap several one_more ∙ several_more (take i classes) class false single ∙ append-nil (several (take i classes)));
      };
    }

    -- another one is added
    pub row_more : (p : Place) → p.shard ≡ k → p.class ≡ i → p.first ≡ slice_index class 0 → nat_lt 1 (length class) ≡ true → (new : List Place) → new ≡ places ++ p ∷ [] → AddsPlacesOf k classes (take (i + 1) classes) old new
    row_more p at_shard at_class at_first more new is = record {
      row = adds.row ++ p ∷ [];
      items = is ∙ ap (λ xs. xs ++ p ∷ []) adds.items ∙ append_assoc old adds.row (p ∷ []);
      are_places = record {
        shard = All-push (λ (x : Place). x.shard ≡ k) adds.row p adds.are_places.shard at_shard;
        class = All-push (λ (x : Place). x.class < length classes) adds.row p adds.are_places.class (omega (arith, at_class, inside));
        first = All-push (λ (x : Place). x.first ≡ slice_index (get_or classes x.class []) 0) adds.row p adds.are_places.first (at_first ∙ ap (λ n. slice_index (get_or classes n []) 0) (sym at_class));
        lists =
            map-append (λ (x : Place). get_or classes x.class []) adds.row (p ∷ []) ∙
            (λ j. adds.are_places.lists j ++ get_or classes (at_class j) [] ∷ []) ∙
            sym (ap several one_more ∙ several_more (take i classes) class true more);
      };
    }

module _ (b : Limits) (shards : List ShardParts) where
  -- before the first shard
  pub places_none : HasPlaces b (journals_of (take 0 shards)) []
  places_none = record { all = []; are = tt; each = λ i d inside. absurd (omega arith); lists = refl }

  module _ (i : ℕ) (s : ShardParts) (inside : i < length shards) (is : s ≡ get_or shards i s) (places new : List Place)
      (has : HasPlaces b (journals_of (take i shards)) places) (adds : AddsPlaces b i s.journal places new) where
    abbrev more : List (List (List ℕ))
    more = has.all ++ adds.classes ∷ []

    abbrev row : List Place
    row = adds.added.row

    size : length has.all ≡ i
    size = sym (zip_length (AreClassesOf b) (journals_of (take i shards)) has.all has.are) ∙ length-map (take i shards) (λ (x : ShardParts). x.journal) ∙ omega (arith, length-take i shards)

    -- the classes of the shards so far stand where they stood
    old_stands : (n : ℕ) → n < length has.all → get_or more n [] ≡ get_or has.all n []
    old_stands n within = get_or_append_left has.all (adds.classes ∷ []) [] n within

    new_stands : (n : ℕ) → n ≡ i → get_or more n [] ≡ adds.classes
    new_stands n at = get_or_push has.all adds.classes [] n (size ∙ sym at)

    old_place : (p : Place) → IsPlaceIn has.all p → class_at_place more p ≡ class_at_place has.all p
    old_place p h = ap (λ classes. get_or classes p.class []) (old_stands p.shard h.shard)

    old_each : (p : Place) → IsPlaceIn has.all p → IsPlaceIn more p
    old_each p h = record {
      shard = omega (arith, h.shard, length_push has.all adds.classes);
      class = subst (λ classes. p.class < length classes) (sym (old_stands p.shard h.shard)) h.class;
      first = h.first ∙ ap (λ list. slice_index list 0) (sym (old_place p h));
    }

    new_each : (p : Place) → Contains row p → IsPlaceIn more p
    new_each p in_row =
        let at = All-contains (λ (x : Place). x.shard ≡ i) row p adds.added.are_places.shard in_row in
        record {
          shard = omega (arith, at, size, length_push has.all adds.classes);
          class = subst (λ classes. p.class < length classes) (sym (new_stands p.shard at)) (All-contains (λ (x : Place). x.class < length adds.classes) row p adds.added.are_places.class in_row);
          first = All-contains (λ (x : Place). x.first ≡ slice_index (get_or adds.classes x.class []) 0) row p adds.added.are_places.first in_row ∙ ap (λ classes. slice_index (get_or classes p.class []) 0) (sym (new_stands p.shard at));
        }

    -- the places of one shard more
    pub places_more : HasPlaces b (journals_of (take (i + 1) shards)) new
    places_more = subst (λ js. HasPlaces b js new) (sym (journals_more shards i s inside is)) (record {
      all = more;
      are = zip_push (AreClassesOf b) (journals_of (take i shards)) has.all s.journal adds.classes has.are adds.are;
      each = subst (All (IsPlaceIn more)) (sym adds.added.items) (all_by_contains (IsPlaceIn more) (places ++ row) (λ p in_both. elim (Contains-append_cases places row p in_both) [
        | inl old ↦ old_each p (All-contains (IsPlaceIn has.all) places p has.each old)
        | inr later ↦ new_each p later
      ]));
      lists =
          ap (map (class_at_place more)) adds.added.items ∙ map-append (class_at_place more) places row ∙
          (λ j. map_same (class_at_place more) (class_at_place has.all) places (λ p old. old_place p (All-contains (IsPlaceIn has.all) places p has.each old)) j ++
          map_same (class_at_place more) (λ p. get_or adds.classes p.class []) row (λ p in_row. ap (λ classes. get_or classes p.class []) (new_stands p.shard (All-contains (λ (x : Place). x.shard ≡ i) row p adds.added.are_places.shard in_row))) j) ∙
          (λ j. has.lists j ++ adds.added.are_places.lists j) ∙
          sym (flat_map-push several has.all adds.classes);
    })

  -- and of all, in order
  pub places_all : (i : ℕ) (places sorted : List Place) → length shards ≤ i → HasPlaces b (journals_of (take i shards)) places → IsPermutation places sorted → IsNonDecreasingBy (λ (p : Place). p.first) sorted → ListsPlaces b (journals_of shards) sorted
  places_all i places sorted end has moved order =
      let whole = subst (λ xs. HasPlaces b (journals_of xs) places) (take_all i shards end) has in
      record {
        all = whole.all;
        are = whole.are;
        each = All-permutation (IsPlaceIn whole.all) places sorted moved whole.each;
        those = subst (λ xs. IsPermutation xs (map (class_at_place whole.all) sorted)) whole.lists (IsPermutation-map (class_at_place whole.all) places sorted moved);
        in_order = order;
      }

  -- the lists at these places are all that have several members
  pub places_together : (places : List Place) (h : ListsPlaces b (journals_of shards) places) (lists : List (List ℕ)) → lists ≡ map (class_at_place h.all) places → AreTogether h.all lists
  places_together places h lists is = subst (AreTogether h.all) (sym is) (record {
    those = h.those;
    in_order = λ i j d order inside.
        let any : Place = record { first = 0; shard = 0; class = 0 } in
        let size = length-map places (class_at_place h.all) in
        let f = class_at_place h.all in
        let first = get_or-map f places i any d (omega arith) in
        let second = get_or-map f places j any d (omega arith) in
        omega (arith, ap (λ list. slice_index list 0) first, ap (λ list. slice_index list 0) second, (h.each i any (omega arith)).first, (h.each j any (omega arith)).first, h.in_order i j any order (omega arith));
  })

-- ---- the class at a place

-- nothing stands there
abbrev pub no_place : Place
no_place = record { first = 0; shard = 0; class = 0 }

module _ (b : Limits) (shards : List ShardParts) (places : List Place) (h : ListsPlaces b (journals_of shards) places) (items : List Place) (items_are : items ≡ places) (i : ℕ) (inside : i < length items) where
  abbrev place : Place
  place = get_or items i no_place

  place_in : IsPlaceIn h.all place
  place_in = All-contains (IsPlaceIn h.all) places place h.each (subst (λ xs. Contains xs place) items_are (Contains-get_or items i no_place inside))

  pub place_shard : place.shard < length shards
  place_shard = omega (arith, place_in.shard, zip_length (AreClassesOf b) (journals_of shards) h.all h.are, length-map shards (λ (x : ShardParts). x.journal))

  module _ (s : ShardParts) (is : s ≡ get_or shards place.shard s) (same : s.bounds ≡ b) where
    -- the classes of its journal
    classes_there : (all : List (List (List ℕ))) → AllZip (AreClassesOf b) (journals_of shards) all → AreClassesOf s.bounds s.journal (get_or all place.shard [])
    classes_there all are =
        let within : place.shard < length (journals_of shards) = omega (arith, place_shard, length-map shards (λ (x : ShardParts). x.journal)) in
        let at = zip_at (AreClassesOf b) (journals_of shards) all place.shard [] [] are within in
        let journal : get_or (journals_of shards) place.shard [] ≡ s.journal = journal_of_shard shards place.shard s place_shard ∙ ap (λ (x : ShardParts). x.journal) (sym is) in
        subst (λ x. AreClassesOf x s.journal (get_or all place.shard [])) (sym same) (subst (λ x. AreClassesOf b x (get_or all place.shard [])) journal at)

    -- it is among them
    pub place_class : (classes : List (List ℕ)) → AreClassesOf s.bounds s.journal classes → place.class < length classes
    place_class classes are =
        subst (λ x. place.class < length x) (one_classes s.bounds s.journal (get_or h.all place.shard []) classes (classes_there h.all h.are) are) place_in.class

    module _ (list : List ℕ) (told : (classes : List (List ℕ)) → AreClassesOf s.bounds s.journal classes → list ≡ get_or classes place.class []) where
      place_list : (all : List (List (List ℕ))) → AllZip (AreClassesOf b) (journals_of shards) all → list ≡ class_at_place all place
      place_list all are = told (get_or all place.shard []) (classes_there all are)

      -- its members are ranks, where the entries are
      pub place_ranks : AreRanks b s.journal → AreRanks b list
      place_ranks ranks =
          let are = subst (λ x. AreClassesOf x s.journal (get_or h.all place.shard [])) same (classes_there h.all h.are) in
          subst (AreRanks b) (sym (place_list h.all h.are)) (members_are_ranks b s.journal (get_or h.all place.shard []) are place.class place_in.class ranks)

      -- one list more
      pub lists_more : (all : List (List (List ℕ))) → AllZip (AreClassesOf b) (journals_of shards) all → (old new : List (List ℕ)) → old ≡ map (class_at_place all) (take i items) → new ≡ old ++ list ∷ [] → new ≡ map (class_at_place all) (take (i + 1) items)
      lists_more all are old new before is_new =
          is_new ∙ (λ j. before j ++ place_list all are j ∷ []) ∙
          sym (ap (map (class_at_place all)) (take_more items i no_place inside) ∙ map-append (class_at_place all) (take i items) (place ∷ []))
