-- What a way down tells of its end, and the chain of two of them: it leads from the one circuit to the other.
use Rattle.std.proofs.Common.{◌≡◌, ℕ, ◌-◌, ◌<◌, ◌≤◌, List, [], ◌∷◌, ◌++◌, map, length, drop, reverse, refl, sym, ap, subst, ◌∙◌, arith, append_assoc, length-append}
use Rattle.std.specs.Prelude.{slice_get, Some}
use Rattle.std.specs.List.{AllByRecursion}
use Rattle.std.proofs.lemmas.List.{append-nil, reverse-append}
use Rattle.qz_circ.specs.Circuit.{Circuit, Limits, Within}
use Rattle.qz_circ.specs.Bounds.{IsLawful}
use Rattle.qz_circ.specs.Equivalence.{Equivalent}
use Rattle.qz_circ.specs.Classes.{IsRepresentative, IsClassList}
use Rattle.qz_circ.specs.Joined.{Step, AreSteps, circuits_of_ranks}
use Rattle.qz_circ.specs.Chains.{IsLowered, IsDown, IsChain, Leads, last_of}
use Rattle.qz_circ.proofs.RisingLists.{each-append}
use Rattle.qz_paths.proofs.Chains.{step_back, last_listed}
use Rattle.qz_paths.proofs.ClassesFound.{same_representative}
use Rattle.qz_paths.proofs.Equivalences.{reflexive, symmetric, transitive}
use Rattle.qz_derive.proofs.Lowered.{LowerTo, lower_is, lowered_step, down_same}

-- ---- lists of steps

-- none of the circuits has over n gates
abbrev AreShort : ℕ → List Circuit → Type 0
AreShort n cs = AllByRecursion (λ c. length c ≤ n) cs

-- the last circuit of two lists end to end
last-append : (x : Circuit) (xs ys : List Circuit) → last_of x (xs ++ ys) ≡ last_of (last_of x xs) ys
last-append x [] ys = refl
last-append x (y ∷ xs) ys = last-append y xs ys

module _ (classes : List (List Circuit)) where
  -- steps, and then others from the circuit where they end
  steps-append : (x y : Circuit) (xs ys : List Circuit) → AreSteps classes (x ∷ xs) → last_of x xs ≡ y → AreSteps classes (y ∷ ys) → AreSteps classes ((x ∷ xs) ++ ys)
  steps-append x y [] ys first ends second = subst (λ z. AreSteps classes (z ∷ ys)) (sym ends) second
  steps-append x y (z ∷ xs) ys first ends second = (first.0, steps-append z y xs ys first.1 ends second)

  -- the steps of a list back
  record Turned (n : ℕ) (c : Circuit) (rest : List Circuit) : Type 0 where
    back : List Circuit
    is : reverse (c ∷ rest) ≡ last_of c rest ∷ back
    ends : last_of (last_of c rest) back ≡ c
    steps : AreSteps classes (last_of c rest ∷ back)
    short : AreShort n (last_of c rest ∷ back)

  turned : (n : ℕ) (c : Circuit) (rest : List Circuit) → AreSteps classes (c ∷ rest) → AreShort n (c ∷ rest) → Turned n c rest
  turned n c [] steps short = record { back = []; is = refl; ends = refl; steps = tt; short = (short.0, tt) }
  turned n c (d ∷ rest) steps short =
      let t = turned n d rest steps.1 short.1 in
      let last = last_of d rest in
      record {
        back = t.back ++ c ∷ [];
        is = reverse-append (c ∷ []) (d ∷ rest) ∙ ap (λ xs. xs ++ c ∷ []) t.is;
        ends = last-append last t.back (c ∷ []);
        steps = steps-append last d t.back (c ∷ []) t.steps t.ends (step_back classes c d steps.0, tt);
        short = each-append (λ x. length x ≤ n) (last ∷ t.back) (c ∷ []) t.short (short.0, tt);
      }

-- ---- ways down

-- a way down ends at a representative that is equivalent to the circuit where it begins
pub record Descends (b : Limits) (c : Circuit) (rest : List Circuit) : Type 0 where
  pub within : AllByRecursion (Within b) (c ∷ rest)
  pub least : IsRepresentative b (last_of c rest)
  pub equivalent : Equivalent b.q (last_of c rest) c

module _ (b : Limits) (lawful : IsLawful b) where
  pub descends : (c : Circuit) (rest : List Circuit) → Within b c → IsDown b c rest → Descends b c rest
  descends c [] within down = record { within = (within, tt); least = down; equivalent = reflexive b.q c }
  descends c (d ∷ rest) within down =
      let e = lower_is b lawful c d within down.0 in
      let h = descends d rest e.within down.1 in
      record { within = (within, h.within); least = h.least; equivalent = transitive b.q (last_of d rest) d c h.equivalent e.equivalent }

  -- two ways down end at one circuit exactly where the circuits are equivalent
  pub one_end : (a c : Circuit) (first second : List Circuit) → Descends b a first → Descends b c second → Equivalent b.q a c → last_of a first ≡ last_of c second
  one_end a c first second ha hc same =
      same_representative b lawful (last_of a first) (last_of c second) ha.least hc.least
      (transitive b.q (last_of a first) a (last_of c second) ha.equivalent (transitive b.q a c (last_of c second) same (symmetric b.q (last_of c second) c hc.equivalent)))

  pub equivalent_ends : (a c : Circuit) (first second : List Circuit) → Descends b a first → Descends b c second → last_of a first ≡ last_of c second → Equivalent b.q a c
  equivalent_ends a c first second ha hc one =
      transitive b.q a (last_of c second) c (symmetric b.q (last_of c second) a (subst (λ x. Equivalent b.q x a) one ha.equivalent)) hc.equivalent

  -- two circuits have one chain
  pub chain_same : (a c : Circuit) (xs ys : List Circuit) → IsChain b a c xs → IsChain b a c ys → xs ≡ ys
  chain_same a c xs ys h k =
      let first = down_same b lawful a h.first k.first h.from_first k.from_first in
      let second = down_same b lawful c h.second k.second h.from_second k.from_second in
      h.both ∙ (λ i. (a ∷ first i) ++ drop 1 (reverse (c ∷ second i))) ∙ sym k.both

  module _ (classes : List (List ℕ)) (list : IsClassList b classes) where
    -- a way down goes by steps
    down_steps : (c : Circuit) (rest : List Circuit) → Within b c → IsDown b c rest → AreSteps (circuits_of_ranks b classes) (c ∷ rest)
    down_steps c [] within down = tt
    down_steps c (d ∷ rest) within down = (lowered_step b lawful classes list c d within down.0, down_steps d rest (lower_is b lawful c d within down.0).within down.1)

    -- over circuits of few gates
    few_gates : (cs : List Circuit) → AllByRecursion (Within b) cs → AreShort b.n cs
    few_gates [] all = tt
    few_gates (c ∷ cs) all = (all.0.short, few_gates cs all.1)

    -- and the chain leads from the one circuit to the other
    pub leads : (a c : Circuit) (chain : List Circuit) → Within b a → Within b c → IsChain b a c chain → Leads (circuits_of_ranks b classes) b.n a c chain
    leads a c chain wa wc h =
        let by = circuits_of_ranks b classes in
        let ha = descends a h.first wa h.from_first in
        let hc = descends c h.second wc h.from_second in
        let t = turned by b.n c h.second (down_steps c h.second wc h.from_second) (few_gates (c ∷ h.second) hc.within) in
        let one = one_end a c h.first h.second ha hc h.equivalent in
        let is : chain ≡ (a ∷ h.first) ++ t.back = h.both ∙ ap (λ xs. (a ∷ h.first) ++ drop 1 xs) t.is in
        let ends : last_of a (h.first ++ t.back) ≡ c = last-append a h.first t.back ∙ ap (λ x. last_of x t.back) one ∙ t.ends in
        let whole : Leads by b.n a c ((a ∷ h.first) ++ t.back) = record {
          short = each-append (λ x. length x ≤ b.n) (a ∷ h.first) t.back (few_gates (a ∷ h.first) ha.within) t.short.1;
          starts = refl;
          ends =
              let last : length (a ∷ (h.first ++ t.back)) - 1 ≡ length (h.first ++ t.back) = omega arith in
              ap (slice_get (a ∷ (h.first ++ t.back))) last ∙ last_listed (Step by) b.n a (h.first ++ t.back) ∙ ap Some ends;
          steps = steps-append by a (last_of c h.second) h.first t.back (down_steps a h.first wa h.from_first) one t.steps;
        } in
        subst (Leads by b.n a c) (sym is) whole
