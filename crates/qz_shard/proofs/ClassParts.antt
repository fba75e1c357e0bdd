-- What is read of a class in a list.
use Rattle.std.proofs.Common.{◌≡◌, ℕ, ◌<◌, List, [], length, map, get_or, set, sym, subst, ap, ◌∙◌, arith}
use Rattle.std.specs.Prelude.{None, slice_index, slice_index_or, All, Result, Ok, Err, OnErr}
use Rattle.std.proofs.Math.Seq.{map-set_same}
use Rattle.std.proofs.lemmas.List.{get_or-map, length-map, map-set}
use Rattle.qz_circ.specs.Circuit.{Limits}
use Rattle.qz_circ.specs.Order.{all_circuits}
use Rattle.qz_shard.specs.declared.class.Class.{Class}
use Rattle.qz_shard.specs.Held.{prints_in, links_in, members_in, members_at, first_at, HasMembers}

-- a part of the class at a place
read_part : {B : Type 0} (f : Class → B) (classes : List Class) (k : ℕ) (x : Class) (e : B) → k < length classes → x ≡ get_or classes k x → get_or (map f classes) k e ≡ f x
read_part f classes k x e within is = get_or-map f classes k x e within ∙ ap f (sym is)

module _ (classes : List Class) (k : ℕ) (x : Class) (within : k < length classes) (is : x ≡ get_or classes k x) where
  print_read : slice_index (prints_in classes) k ≡ x.print
  print_read = read_part (λ c. c.print) classes k x 0 within is

  pub link_read : slice_index_or (links_in classes) k None ≡ x.before
  link_read = read_part (λ c. c.before) classes k x None within is

  pub members_read : members_at classes k ≡ x.members.items
  members_read = read_part (λ c. c.members.items) classes k x [] within is

  module _ (b : Limits) (each : All (HasMembers b) (members_in classes)) where
    has_members : HasMembers b (members_at classes k)
    has_members = let size = length-map classes (λ c. c.members.items) in each k [] (omega arith)

    -- it has members
    pub some_read : 0 < length x.members.items
    some_read = subst (λ list. 0 < length list) members_read has_members.some

    -- its first member
    pub first_read : (r : ℕ) → r ≡ slice_index x.members.items 0 → first_at classes k ≡ r
    first_read r at = ap (λ list. slice_index list 0) members_read ∙ sym at

    -- which is the rank of a circuit within the bounds
    pub first_listed : (r : ℕ) → r ≡ slice_index x.members.items 0 → r < length (all_circuits b)
    first_listed r at = subst (λ s. s < length (all_circuits b)) (first_read r at) (has_members.listed 0 0 has_members.some)

  -- another class in its place, with the same fingerprint and link
  module _ (y : Class) where
    pub prints_set : y.print ≡ x.print → prints_in (set classes k y) ≡ prints_in classes
    prints_set same = map-set_same (λ c. c.print) classes k y x (same ∙ ap (λ c. c.print) is)

    pub links_set : y.before ≡ x.before → links_in (set classes k y) ≡ links_in classes
    links_set same = map-set_same (λ c. c.before) classes k y x (same ∙ ap (λ c. c.before) is)

    pub members_kept : y.members.items ≡ x.members.items → members_in (set classes k y) ≡ members_in classes
    members_kept same = map-set_same (λ c. c.members.items) classes k y x (same ∙ ap (λ c. c.members.items) is)

    pub members_set : members_in (set classes k y) ≡ set (members_in classes) k y.members.items
    members_set = map-set (λ c. c.members.items) classes k y

-- what holds on an error, where it holds at all
pub on_err : {T E P : Type 0} (r : Result T E) → P → OnErr r P
on_err (Ok x) p = tt
on_err (Err e) p = p
