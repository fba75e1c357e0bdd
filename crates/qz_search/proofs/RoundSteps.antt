-- What the state of a search is after each step.
use Rattle.std.proofs.Common.{◌≡◌, ◌≢◌, Option, Some, None, Vec, MatchOption, ◌≤◌, ◌+◌, ◌-◌, ℕ, suc, ◌⊎◌, inl, inr, List, [], ◌∷◌, ◌++◌, length, take, drop, Contains, refl, sym, ap, subst, ◌∙◌, arith}
use Rattle.std.specs.List.{AllByRecursion}
use Rattle.std.proofs.lemmas.List.{length-take}
use Rattle.qz_circ.specs.Circuit.{Circuit}
use Rattle.qz_circ.specs.ProgramCircuits.{ProgramCircuit, IsProgramGate, IsProgramCircuit, EquivalentProgramCircuits, ones, cost, program_cmp}
use Rattle.qz_circ.specs.Queue.{QueueList, IsQueue, different, firsts}
use Rattle.qz_circ.specs.Replacement.{children}
use Rattle.qz_circ.specs.Search.{PlanNumbers, IsPlan, start, after}
use Rattle.qz_circ.specs.declared.circuit.Inst.{Inst}
use Rattle.qz_circ.specs.Vectors.{lists_of}
use Rattle.qz_rewrite.specs.SoundClasses.{AreSoundClasses}
use Rattle.qz_queue.proofs.DifferentOnes.{has_take}
use Rattle.qz_search.specs.Offers.{IsAt}
use Rattle.qz_search.specs.Tables.{TableParts, AreAlike, children_by_table}
use Rattle.qz_search.specs.Rounds.{SearchParts, new_children, advanced, IsSearch, IsBetweenRounds, IsInRound, IsFound}
use Rattle.qz_search.proofs.ChildLaws.{children_equivalent, table_keeps_gates}
use Rattle.qz_search.proofs.Members.{contains_has, has_contains}
use Rattle.qz_search.proofs.RoundLaws.{queue_rest, one_waits, round_at, after_more, found_at, found_cheap, found_first, waiting_fit, answer_equivalent}
use Rattle.qz_search.proofs.TableSearch.{table_found}

module _ (classes : List (List Circuit)) (c : ProgramCircuit) where
  -- by a table that gives the same children in whichever order
  pub by_table : (rules : TableParts) (plan : PlanNumbers) → AreAlike (children_by_table rules) (children classes) → (n : ℕ) × (n ≤ 3) × AreSoundClasses n classes → IsPlan plan → AllByRecursion (IsProgramGate 64) c → length c ≤ 20000 → IsSearch classes c rules plan
  by_table rules plan alike sound lawful gates few = record {
    sound = sound;
    keeps = table_keeps_gates sound.0 classes sound.1 sound.2 (children_by_table rules) alike;
    lawful = lawful;
    gates = gates;
    few = few;
    same = table_found classes sound (children_by_table rules) plan c alike lawful gates few;
  }

  -- the beginning
  pub begun : (s : SearchParts) → IsSearch classes c s.rules s.plan → s.left ≡ s.plan.rounds → s.seen ≡ [] → s.queue ≡ record { cap = s.plan.cap; weights = s.plan.weights; list = firsts s.plan.weights s.plan.cap (c ∷ []) } → s.best ≡ c → IsBetweenRounds classes c s
  unfolding different
  begun s of left seen queue best = record {
    search = of;
    short = omega (arith, of.few, ap length best);
    rounds = 0;
    counted = omega (arith, left);
    at = record { seen_is = seen; queue_is = one_waits s.queue s.plan.weights s.plan.cap c of.lawful.some_held queue; best_is = best };
  }

  -- the end
  pub over : (s : SearchParts) → IsBetweenRounds classes c s → (s.left ≡ 0) ⊎ (s.queue.list ≡ []) → IsFound classes c s.plan s.best
  over s h ended =
      let of = h.search in
      let last : (h.rounds ≡ s.plan.rounds) ⊎ (s.queue.list ≡ []) = elim ended [ inl e ↦ inl (omega (arith, e, h.counted)) | inr e ↦ inr e ] in
      let found = found_at (children_by_table s.rules) s.plan h.rounds c s.seen s.queue s.best (omega (arith, h.counted)) h.at last ∙ of.same in
      let equivalent : (q : ℕ) → q ≤ 64 → AllByRecursion (IsProgramGate q) c → IsProgramCircuit q s.best × EquivalentProgramCircuits q c s.best = λ q few gates.
      answer_equivalent (children classes) s.plan q c s.best (children_equivalent of.sound.0 classes of.sound.1 of.sound.2 q) (record { few = few; gates = gates }) of.few found in
      record {
        best = found;
        cheap = found_cheap (children classes) s.plan c s.best found;
        short = h.short;
        lawful = λ q few gates. (equivalent q few gates).0.gates;
        equivalent = λ q few gates. (equivalent q few gates).1;
        complete = λ complete. found_first (children classes) s.plan c s.best found complete;
      }

  -- a round's beginning
  pub taken : (s : SearchParts) (seen batch : List ProgramCircuit) (most : ℕ) (queue : QueueList) → IsBetweenRounds classes c s → IsQueue s.queue → s.left ≢ 0 → batch ≡ take s.plan.batch s.queue.list → queue ≡ record s.queue { list = drop s.plan.batch s.queue.list }
      → ((all : List ProgramCircuit) → s.seen ≡ different (program_cmp ones) all → seen ≡ different (program_cmp ones) (all ++ batch)) → most ≡ cost s.plan.weights s.best + s.plan.slack
      → IsInRound classes c batch (record { rules = s.rules; plan = s.plan; left = s.left - 1; seen = seen; most = most; queue = queue; best = s.best })
  taken s seen batch most queue h lawful some batch_is queue_is seen_is most_is =
      let of = h.search in
      let next = children_by_table s.rules in
      let begins : SearchParts = record { rules = s.rules; plan = s.plan; left = s.left - 1; seen = seen; most = most; queue = queue; best = s.best } in
      let ends = advanced begins (new_children begins batch) in
      let n = h.rounds in
      let at : IsAt s.plan (after next s.plan (n + 1) (start c)) seen ends.queue ends.best =
      let one : n + 1 ≡ suc n = omega arith in
      subst (λ state. IsAt s.plan state seen ends.queue ends.best) (sym (ap (λ k. after next s.plan k (start c)) one ∙ after_more next s.plan n (start c)))
      (round_at next s.plan (after next s.plan n (start c)) s.seen seen s.queue queue ends.queue s.best batch most batch_is queue_is seen_is most_is refl h.at ends.best refl) in
      let waiting = waiting_fit next s.plan of.keeps n c s.seen s.queue s.best of.gates of.few h.at in
      record {
        fit = λ k there. waiting.0 k (has_contains s.queue.list k (has_take s.plan.batch s.queue.list k (contains_has (take s.plan.batch s.queue.list) k (subst (λ cs. Contains cs k) batch_is there))));
        few = omega (arith, of.lawful.few_taken, length-take s.plan.batch s.queue.list, ap length batch_is);
        lawful = queue_rest s.queue queue s.plan.batch lawful queue_is;
        further = record {
          search = of;
          short = (waiting_fit next s.plan of.keeps (n + 1) c seen ends.queue ends.best of.gates of.few at).1;
          rounds = n + 1;
          counted = omega (arith, h.counted, some);
          at = at;
        };
      }

  -- what a round's beginning says where there is one
  pub in_round : {A : Type 0} (plan : PlanNumbers) (s : SearchParts) (r : Option (Vec (Vec Inst A) A)) (batch : Vec (Vec Inst A) A) → MatchOption r (IsFound classes c plan s.best) (λ taken. IsInRound classes c (lists_of taken.items) s) → r ≡ Some batch
      → IsInRound classes c (lists_of batch.items) s
  in_round plan s r batch h e = subst (λ r. MatchOption r (IsFound classes c plan s.best) (λ taken. IsInRound classes c (lists_of taken.items) s)) e h

  -- and where there is none, by the plan of the beginning
  pub is_found : {A : Type 0} (old plan : PlanNumbers) (best d : ProgramCircuit) (r : Option A) (P : A → Type 0) → MatchOption r (IsFound classes c old best) P → ((a : A) → r ≡ Some a → ⊥) → old ≡ plan → d ≡ best → IsFound classes c plan d
  is_found old plan best d None P h none e f = subst (λ p. IsFound classes c p d) e (subst (IsFound classes c old) (sym f) h)
  is_found old plan best d (Some a) P h none e f = absurd (none a refl)
