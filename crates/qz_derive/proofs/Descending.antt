-- The way down as it is made, circuit by circuit.
use Rattle.std.proofs.Common.{◌≡◌, ℕ, ◌<◌, List, [], ◌∷◌, ◌++◌, map, length, refl, sym, ap, subst, ◌∙◌, arith, append_assoc}
use Rattle.std.proofs.lemmas.List.{append-nil, map-append}
use Rattle.std.proofs.lemmas.List.Elements.{All-append, All-from_recursion}
use Rattle.qz_circ.specs.Circuit.{Circuit, Limits}
use Rattle.qz_circ.specs.ClassLists.{AreRanks}
use Rattle.qz_circ.specs.Classes.{IsRepresentative}
use Rattle.qz_circ.specs.Order.{all_circuits, circuit_at}
use Rattle.qz_circ.specs.Chains.{IsLowered, IsDown, last_of}
use Rattle.qz_derive.specs.Descents.{IsDescent}

-- with what follows below the circuit with rank at, this is the whole way
pub record Completed (b : Limits) (r : ℕ) (ranks : List ℕ) (at : ℕ) (more : List Circuit) : Type 0 where
  pub rest : List Circuit
  pub circuits : map (circuit_at b) ranks ++ more ≡ circuit_at b r ∷ rest
  pub down : IsDown b (circuit_at b r) rest
  pub ends : last_of (circuit_at b r) rest ≡ last_of (circuit_at b at) more

-- the ranks so far, the last one is at
pub record Descending (b : Limits) (r : ℕ) (ranks : List ℕ) (at : ℕ) : Type 0 where
  pub listed : AreRanks b ranks
  pub here : at < length (all_circuits b)
  pub so_far : (more : List Circuit) → IsDown b (circuit_at b at) more → Completed b r ranks at more

module _ (b : Limits) (r : ℕ) where
  -- a list of one rank
  one_rank : (k : ℕ) → k < length (all_circuits b) → AreRanks b (k ∷ [])
  one_rank k here = All-from_recursion (λ k. k < length (all_circuits b)) (k ∷ []) (here, tt)

  -- at the beginning
  pub begun : (ranks : List ℕ) → ranks ≡ r ∷ [] → r < length (all_circuits b) → Descending b r ranks r
  begun ranks is here = record {
    listed = subst (AreRanks b) (sym is) (one_rank r here);
    here = here;
    so_far = λ more down. record { rest = more; circuits = ap (λ rs. map (circuit_at b) rs ++ more) is; down = down; ends = refl };
  }

  -- one more
  pub lowered_on : (ranks new : List ℕ) (at next : ℕ) → Descending b r ranks at → IsLowered b (circuit_at b at) (circuit_at b next) → new ≡ ranks ++ next ∷ [] → next < length (all_circuits b) → Descending b r new next
  lowered_on ranks new at next h lowered is here = record {
    listed = subst (AreRanks b) (sym is) (All-append (λ k. k < length (all_circuits b)) ranks (next ∷ []) h.listed (one_rank next here));
    here = here;
    so_far = λ more down.
        let whole = h.so_far (circuit_at b next ∷ more) (lowered, down) in
        record {
          rest = whole.rest;
          circuits =
              ap (λ rs. map (circuit_at b) rs ++ more) is ∙ ap (λ cs. cs ++ more) (map-append (circuit_at b) ranks (next ∷ [])) ∙
              append_assoc (map (circuit_at b) ranks) (circuit_at b next ∷ []) more ∙ whole.circuits;
          down = whole.down;
          ends = whole.ends;
        };
  }

  -- at a representative
  pub ended : (ranks : List ℕ) (at : ℕ) → Descending b r ranks at → IsRepresentative b (circuit_at b at) → IsDescent b r ranks at
  ended ranks at h least =
      let whole = h.so_far [] least in
      record {
        rest = whole.rest;
        circuits = sym (append-nil (map (circuit_at b) ranks)) ∙ whole.circuits;
        down = whole.down;
        ends = whole.ends;
        listed = h.listed;
        lowest_listed = h.here;
      }
