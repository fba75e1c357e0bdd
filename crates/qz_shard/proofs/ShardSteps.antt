-- What the calls of a shard need of what it keeps, and what they leave.
use Rattle.std.proofs.Common.{◌≡◌, ℕ, ◌+◌, ◌<◌, ◌≤◌, ◌==◌, List, [], ◌∷◌, ◌++◌, length, map, get_or, count_by, refl, sym, subst, ap, ◌∙◌, arith}
use Rattle.std.specs.Prelude.{Contains, Option, Some, None, nat_eq, slice_index_or, slice_set, All, IfSome, is_some, if◌then◌else◌}
use Rattle.std.specs.FinSet.{len, from_list, len-empty}
use Rattle.std.specs.Map.{lookup}
use Rattle.std.specs.Ordering.{nat_cmp}
use Rattle.std.proofs.lemmas.List.{length-map}
use Rattle.std.proofs.lemmas.List.Sums.{count_by-le-length}
use Rattle.indexmap.specs.IndexMap.{IndexMap, get, index_map_len}
use Rattle.qz_circ.specs.Bounds.{IsLawful}
use Rattle.qz_circ.specs.Order.{all_circuits}
use Rattle.qz_shard.specs.declared.class.Class.{Class}
use Rattle.qz_shard.specs.Journals.{AreEquivalentRanks, AreClassesOf, AreClassesBy}
use Rattle.qz_shard.specs.Shards.{ShardParts, IsAtHome, print_at, classes_with}
use Rattle.qz_shard.specs.Held.{prints_in, links_in, members_in, IsHeldBy, IsHeld, HasMembers, IsClassWith, IsOpenTo, Puts}
use Rattle.qz_shard.proofs.ClassParts.{members_read}
use Rattle.qz_shard.proofs.HeldShards.{with_entry, held_members, held_class, held_counted, held_joined, held_opened}
use Rattle.qz_shard.proofs.Partitions.{classes_same, few_classes}

-- the same parts by other names
held_as : (s s' : ShardParts) (prints prints' : List ℕ) (links links' : List (Option ℕ)) (members members' : List (List ℕ)) (newest : ℕ → Option ℕ) (keys keys' : ℕ) →
    s' ≡ s → prints' ≡ prints → links' ≡ links → members' ≡ members → keys' ≡ keys → IsHeldBy s prints links members newest keys → IsHeldBy s' prints' links' members' newest keys'
held_as s s' prints prints' links links' members members' newest keys keys' at_s at_prints at_links at_members at_keys held =
    subst (λ x. IsHeldBy x prints' links' members' newest keys') (sym at_s)
    (subst (λ x. IsHeldBy s x links' members' newest keys') (sym at_prints)
    (subst (λ x. IsHeldBy s prints x members' newest keys') (sym at_links)
    (subst (λ x. IsHeldBy s prints links x newest keys') (sym at_members)
    (subst (λ x. IsHeldBy s prints links members newest x) (sym at_keys) held))))

-- the shard with another journal
abbrev with_journal : ShardParts → List ℕ → ShardParts
with_journal s journal = record { number = s.number; bounds = s.bounds; probe = s.probe; journal = journal }

module _ {S : Type 0} (s : ShardParts) (classes : List Class) (newest : IndexMap ℕ ℕ S) (held : IsHeld s classes newest) where
  members_size : length (members_in classes) ≡ length classes
  members_size = length-map classes (λ c. c.members.items)

  prints_size : length (prints_in classes) ≡ length (members_in classes)
  prints_size = length-map classes (λ c. c.print) ∙ sym members_size

  links_size : length (links_in classes) ≡ length (members_in classes)
  links_size = length-map classes (λ c. c.before) ∙ sym members_size

  -- the classes may be searched
  pub search_members : All (HasMembers s.bounds) (members_in classes)
  search_members = held_members s (prints_in classes) (links_in classes) (members_in classes) (get nat_eq newest) (index_map_len newest) held

  -- so many have the fingerprint
  search_counted : (print : ℕ) (lists : List (List ℕ)) → AreClassesOf s.bounds s.journal lists → classes_with s print lists ≡ count_by (λ p. p == print) (prints_in classes)
  search_counted print lists = held_counted s (prints_in classes) (links_in classes) (members_in classes) (get nat_eq newest) (index_map_len newest) held print lists prints_size

  -- the class that was found can take the rank in
  pub open_to : (r print : ℕ) (found : Option ℕ) → (Contains s.journal r → ⊥) → IsClassWith s.bounds classes print r found → IfSome found (IsOpenTo r classes)
  open_to r print None absent is = tt
  open_to r print (Some k) absent is =
      let class = held_class s (prints_in classes) (links_in classes) (members_in classes) (get nat_eq newest) (index_map_len newest) held r k absent (omega (arith, is.0, members_size)) in
      record { within = is.0; rising = class.0; absent = class.1 }

  -- its members are the classes of the journal
  pub classes_are : (lists : List (List ℕ)) → AreClassesOf s.bounds s.journal lists → members_in classes ≡ lists
  unfolding AreClassesOf
  classes_are lists are = classes_same (AreEquivalentRanks s.bounds) s.journal (members_in classes) lists held.partition are

  -- they are as many
  pub number_is : (lists : List (List ℕ)) → AreClassesOf s.bounds s.journal lists → length classes ≡ length lists
  number_is lists are = sym members_size ∙ ap length (classes_are lists are)

  -- and each is the members of the class with its number
  pub class_is : (lists : List (List ℕ)) → AreClassesOf s.bounds s.journal lists → (i : ℕ) (x : Class) → i < length lists → x ≡ get_or classes i x → x.members.items ≡ slice_index_or lists i []
  class_is lists are i x within at = sym (members_read classes i x (let same = number_is lists are in omega (arith, within)) at) ∙ ap (λ all. slice_index_or all i []) (classes_are lists are)

  -- so many steps were counted at most, as the shard is seen
  pub steps_counted : (print start steps : ℕ) (searched : List Class) → searched ≡ classes → steps ≤ start + count_by (λ p. p == print) (prints_in searched) →
      (seen : ShardParts) → s ≡ seen → (lists : List (List ℕ)) → AreClassesOf seen.bounds seen.journal lists → steps ≤ start + classes_with seen print lists
  steps_counted print start steps searched at counted seen is lists =
      subst (λ x. AreClassesOf x.bounds x.journal lists → steps ≤ start + classes_with x print lists) is
      (λ are. let all : count_by (λ p. p == print) (prints_in searched) ≡ count_by (λ p. p == print) (prints_in classes) = ap (λ xs. count_by (λ p. p == print) (prints_in xs)) at in
      omega (arith, search_counted print lists are, all, counted))

  no_more_classes : length (members_in classes) ≤ length s.journal
  unfolding AreClassesOf
  no_more_classes = few_classes (AreEquivalentRanks s.bounds) s.journal (members_in classes) held.partition

  -- and at most as many as there are entries, since there are no more classes than these
  pub steps_few : (print start steps : ℕ) (searched : List Class) → searched ≡ classes → steps ≤ start + count_by (λ p. p == print) (prints_in searched) →
      (seen : ShardParts) → s ≡ seen → steps ≤ start + length seen.journal
  steps_few print start steps searched at counted seen is =
      let all : count_by (λ p. p == print) (prints_in searched) ≡ count_by (λ p. p == print) (prints_in classes) = ap (λ xs. count_by (λ p. p == print) (prints_in xs)) at in
      omega (arith, all, counted, count_by-le-length (λ p. p == print) (prints_in classes), prints_size, no_more_classes, ap (λ x. length x.journal) is)

  -- what is kept after a rank was put in
  pub held_after : (r print : ℕ) (found : Option ℕ) → print ≡ print_at s.bounds s.probe.seed r → r < length (all_circuits s.bounds) → (Contains s.journal r → ⊥) → IsAtHome s r → IsClassWith s.bounds classes print r found →
      (journal' : List ℕ) (classes' : List Class) (newest' : IndexMap ℕ ℕ S) → Puts r print s.journal journal' classes classes' newest newest' found → IsHeld (with_journal s journal') classes' newest'
  held_after r print (Some k) is_print listed absent home is journal' classes' newest' puts =
      subst (λ n. IsHeld (with_journal s journal') classes' n) (sym puts.1)
      (held_as (with_entry s r) (with_journal s journal') (prints_in classes) (prints_in classes') (links_in classes) (links_in classes') (slice_set (members_in classes) k puts.0.class) (members_in classes') (get nat_eq newest) (index_map_len newest) (index_map_len newest)
      (ap (with_journal s) puts.0.entries) puts.0.prints puts.0.links puts.0.members refl
      (held_joined s (prints_in classes) (links_in classes) (members_in classes) (get nat_eq newest) (index_map_len newest) held r listed absent home k puts.0.class (omega (arith, is.0, members_size)) (is.1 ∙ is_print) is.2 puts.0.adds))
  held_after r print None is_print listed absent home is journal' classes' newest' puts =
      held_as (with_entry s r) (with_journal s journal') (prints_in classes ++ print_at s.bounds s.probe.seed r ∷ []) (prints_in classes') (links_in classes ++ get nat_eq newest (print_at s.bounds s.probe.seed r) ∷ []) (links_in classes') (members_in classes ++ (r ∷ []) ∷ []) (members_in classes') (get nat_eq newest')
      (index_map_len newest + (if is_some (get nat_eq newest (print_at s.bounds s.probe.seed r)) then 0 else 1)) (index_map_len newest')
      (ap (with_journal s) puts.entries) (puts.prints ∙ ap (λ p. prints_in classes ++ p ∷ []) is_print) (puts.links ∙ ap (λ p. links_in classes ++ get nat_eq newest p ∷ []) is_print) puts.members
      (puts.keys ∙ ap (λ p. index_map_len newest + (if is_some (get nat_eq newest p) then 0 else 1)) is_print)
      (held_opened s (prints_in classes) (links_in classes) (members_in classes) (get nat_eq newest) (index_map_len newest) held r listed absent home (get nat_eq newest') prints_size links_size
      (λ k within same. is k (omega (arith, within, members_size)) (same ∙ sym is_print))
      (λ p. puts.last p ∙ ap (λ n. if nat_eq print p then Some n else get nat_eq newest p) (sym members_size) ∙ ap (λ q. if nat_eq q p then Some (length (members_in classes)) else get nat_eq newest p) is_print))

module _ (s : ShardParts) (number : s.number < 16) (lawful : IsLawful s.bounds) (qubits : s.probe.q ≡ s.bounds.q) (empty : s.journal ≡ []) where
  no_entries : length s.journal ≡ 0
  no_entries = ap length empty

  no_classes : AreClassesBy (AreEquivalentRanks s.bounds) s.journal []
  no_classes = record {
    earliest = [];
    each_earliest = record {
      rising = λ k in_range. absurd (omega arith);
      exactly = λ i. (λ has. absurd (omega (arith, has.1)), λ h. absurd (omega (arith, h.within, no_entries)));
    };
    each_class = tt;
  }

  -- a shard with an empty journal keeps nothing
  held_nothing : IsHeldBy s [] [] [] (λ print. None) 0
  unfolding AreClassesOf
  held_nothing = record {
    shard = record {
      number = number;
      lawful = lawful;
      qubits = qubits;
      different = λ i j d before within. absurd (omega (arith, within, no_entries));
      listed = λ k d within. absurd (omega (arith, within, no_entries));
      home = λ k d within. absurd (omega (arith, within, no_entries));
    };
    partition = no_classes;
    own_prints = λ k r within has. absurd (omega arith);
    linked = λ k within. absurd (omega arith);
    last = λ print j below same. absurd (omega arith);
    count = sym (ap (λ journal. len (from_list {R = nat_cmp} (map (print_at s.bounds s.probe.seed) journal))) empty ∙ len-empty nat_cmp);
  }

  pub held_none : {S : Type 0} (classes : List Class) (newest : IndexMap ℕ ℕ S) → classes ≡ [] → newest.entries ≡ [] → IsHeld s classes newest
  held_none classes newest no_class no_key =
      subst (λ xs. IsHeld s xs newest) (sym no_class)
      (subst (λ es. IsHeldBy s [] [] [] (λ print. lookup (nat_eq print) es) (length es)) (sym no_key) held_nothing)
