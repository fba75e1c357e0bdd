use Rattle.std.proofs.Common.{◌≡◌, ◌∙◌, ◌+◌, ◌-◌, ◌*◌, ◌<◌, cond, eqb, false, true, sym, ap, subst, Ok, arith}
use Rattle.std.proofs.lemmas.Bool.{ne_eqb, eq-eqb}
use Rattle.qz_circ.specs.Bounds.{gate_count}
use Rattle.qz_circ.proofs.RankLemmas.{all_few}
use Rattle.qz_rulefile.specs.Reading.{more_at}
use Rattle.qz_rulefile.proofs.Members.{IsFront, next_read, next_fails, last_read, last_fails, start_front, next_front}
use Rattle.qz_rulefile.proofs.gate_texts.GateTexts.more.Goals as goal
use Rattle.qz_rulefile.proofs.gate_texts.GateTexts.more.Goals.{Else-j-eq0}

-- the gates so far and one more
further : (c : Else-j-eq0) → IsFront c.args.self.now.bounds (c.args.self.now.bounds.n - (c.loop-left.left - 1)) (c.loop-left.left - 1) (c.loop-left.r * gate_count c.args.self.now.bounds + c.in-Ok.next.0)
further c = next_front c.args.self.now.bounds c.loop-left.left c.loop-left.r c.in-Ok.next.0 c.loop-left.invariant.within (omega arith) (omega arith) c.in-Ok.ensures.gate c.loop-left.invariant.front

pub loop-left-init : goal.loop-left-init
loop-left-init c = record {
  same = ap (λ k. more_at c.args.self.now.bounds (k - 1) c.args.start c.args.bytes.now) c.n-left.ensures.value;
  within = omega (arith, c.n-left.ensures.value);
  front = start_front c.args.self.now.bounds c.args.start (c.n-left.result - 1) c.requires.allowed c.requires.some c.requires.gate (omega (arith, c.n-left.ensures.value));
}

pub returns-in-Err : goal.returns-in-Err
returns-in-Err c =
    sym c.loop-left.invariant.same ∙ next_fails c.args.self.now.bounds c.loop-left.left c.loop-left.r c.in-Err.n c.loop-left.rest.now (omega arith) c.in-Err.ensures.exact

pub returns-then-j-eq0 : goal.returns-then-j-eq0
returns-then-j-eq0 c =
    let read = next_read c.args.self.now.bounds c.loop-left.left c.loop-left.r c.in-Ok.next.0 c.loop-left.rest.now c.in-Ok.next.1.now (omega arith) c.in-Ok.ensures.exact in
    let ended : eqb c.in-Ok.next.0 0 ≡ true = eq-eqb c.in-Ok.next.0 0 c.if-j-eq0.true in
    sym c.loop-left.invariant.same ∙ read ∙ ap (λ t. cond t (Ok (c.loop-left.r, c.in-Ok.next.1.now)) (more_at c.args.self.now.bounds (c.loop-left.left - 1) (c.loop-left.r * gate_count c.args.self.now.bounds + c.in-Ok.next.0) c.in-Ok.next.1.now)) ended

-- the next rank is small
small : (c : Else-j-eq0) → c.loop-left.r * c.gates-gates.result + c.in-Ok.next.0 < 9000001
small c =
    let same : c.loop-left.r * c.gates-gates.result ≡ c.loop-left.r * gate_count c.args.self.now.bounds = ap (λ g. c.loop-left.r * g) c.gates-gates.ensures.value in
    omega (arith, same, (further c).listed, all_few c.args.self.now.bounds c.args.self.now.lawful)

pub overflow_mul-r : goal.overflow_mul-r
overflow_mul-r c = record { fits = omega (arith, small c) }

pub overflow_add-r : goal.overflow_add-r
overflow_add-r c = record { fits = omega (arith, small c) }

pub loop-left-preserved : goal.loop-left-preserved
loop-left-preserved c =
    let read = next_read c.args.self.now.bounds c.loop-left.left c.loop-left.r c.in-Ok.next.0 c.loop-left.rest.now c.in-Ok.next.1.now (omega arith) c.in-Ok.ensures.exact in
    let goes : eqb c.in-Ok.next.0 0 ≡ false = ne_eqb c.in-Ok.next.0 0 c.if-j-eq0.false in
    record {
      same =
          ap (λ g. more_at c.args.self.now.bounds (c.loop-left.left - 1) (c.loop-left.r * g + c.in-Ok.next.0) c.in-Ok.next.1.now) c.gates-gates.ensures.value
          ∙ sym (read ∙ ap (λ t. cond t (Ok (c.loop-left.r, c.in-Ok.next.1.now)) (more_at c.args.self.now.bounds (c.loop-left.left - 1) (c.loop-left.r * gate_count c.args.self.now.bounds + c.in-Ok.next.0) c.in-Ok.next.1.now)) goes)
          ∙ c.loop-left.invariant.same;
      within = omega (arith, c.loop-left.invariant.within);
      front = subst (λ g. IsFront c.args.self.now.bounds (c.args.self.now.bounds.n - (c.loop-left.left - 1)) (c.loop-left.left - 1) (c.loop-left.r * g + c.in-Ok.next.0)) (sym c.gates-gates.ensures.value) (further c);
    }

pub returns-in-Err-word : goal.returns-in-Err-word
returns-in-Err-word c = sym c.loop-left.invariant.same ∙ last_fails c.args.self.now.bounds c.loop-left.left c.loop-left.r c.in-Err-word.n c.loop-left.rest.now (omega arith) c.in-Err-word.ensures

pub returns-in-Ok-word : goal.returns-in-Ok-word
returns-in-Ok-word c = sym c.loop-left.invariant.same ∙ last_read c.args.self.now.bounds c.loop-left.left c.loop-left.r 0 c.loop-left.rest.now c.in-Ok-word.behind.now (omega arith) c.in-Ok-word.ensures
