use Rattle.std.proofs.Common.{◌≡◌, ◌∙◌, ◌++◌, ◌-◌, sym, ap, subst, rules, arith, inl, inr, length, length-append, Err, None, List, ℕ}
use Rattle.qz_circ.specs.Bounds.{IsLawful}
use Rattle.qz_circ.specs.Circuit.{Limits}
use Rattle.qz_circ.specs.FaultPlaces.{IsFaultPlace}
use Rattle.qz_circ.specs.RuleText.{Head, head_of}
use Rattle.qz_circ.specs.RuleFiles.{IsFile, IsHead, limits_of, head_refusal}
use Rattle.qz_rulefile.specs.Forms.{TellsClasses}
use Rattle.qz_rulefile.specs.declared.faults.ReadError.TheVariants.{Left}
use Rattle.qz_rulefile.specs.Reading.{head_at}
use Rattle.qz_rulefile.proofs.HeadLaws.{head_back}
use Rattle.qz_rulefile.proofs.Heads.{head_exact}
use Rattle.qz_rulefile.proofs.Places.{place_within, left_within}
use Rattle.qz_rulefile.proofs.WholeFiles.{has_head, head_read}
use Rattle.qz_rulefile.proofs.reader.read_lists.Goals as goal

pub overflow_sub-result : goal.overflow_sub-result
overflow_sub-result c = left_within IsHead head_at head_exact c.args.bytes.now c.in-Err.n c.in-Err.ensures

pub returns-in-Err : goal.returns-in-Err
returns-in-Err c = inl (place_within IsHead head_at head_exact c.args.bytes.now c.in-Err.n c.in-Err.ensures)

pub returns-in-Err-bounds_of : goal.returns-in-Err-bounds_of
returns-in-Err-bounds_of c =
    let h : Head = record { n = c.in-Ok.head.0.n; q = c.in-Ok.head.0.q; m = c.in-Ok.head.0.m; grain = c.in-Ok.head.0.grain } in
    (h, has_head h c.args.bytes.now c.in-Ok.head.1.now c.in-Ok.ensures, c.bounds_of.ensures.refused c.in-Err-bounds_of.fault c.in-Err-bounds_of.is)

pub overflow_sub-result-in-Err-Left : goal.overflow_sub-result-in-Err-Left
overflow_sub-result-in-Err-Left c =
    let t = head_read (record { n = c.in-Ok.head.0.n; q = c.in-Ok.head.0.q; m = c.in-Ok.head.0.m; grain = c.in-Ok.head.0.grain }) c.args.bytes.now c.in-Ok.head.1.now c.in-Ok.ensures in
    let told : TellsClasses c.in-Ok-bounds_of.b c.in-Ok.head.1.now (Err (Left c.in-Err-Left.n)) = subst (λ f. TellsClasses c.in-Ok-bounds_of.b c.in-Ok.head.1.now (Err f)) c.in-Err-Left.field-0-is c.in-Err-Left.ensures in
    omega (arith, told.0, ap length t.2, length-append t.0 c.in-Ok.head.1.now)

pub returns-in-Ok-lists_behind : goal.returns-in-Ok-lists_behind
returns-in-Ok-lists_behind c =
    let h : Head = record { n = c.in-Ok.head.0.n; q = c.in-Ok.head.0.q; m = c.in-Ok.head.0.m; grain = c.in-Ok.head.0.grain } in
    let lawful : IsLawful c.in-Ok-bounds_of.b = search rules in
    let accepted = c.in-Ok-bounds_of.ensures.accepted in
    let told = c.in-Ok-lists_behind.ensures in
    let t = head_read h c.args.bytes.now c.in-Ok.head.1.now c.in-Ok.ensures in
    let is_head : IsHead (head_of c.in-Ok-bounds_of.b) t.0 = subst (λ (k : Head). IsHead k t.0) (sym (ap head_of accepted.1 ∙ head_back h accepted.0)) t.1 in
    let file : IsFile c.in-Ok-bounds_of.b c.in-Ok-lists_behind.lists.classes c.args.bytes.now = subst (IsFile c.in-Ok-bounds_of.b c.in-Ok-lists_behind.lists.classes) (sym t.2) (told.1 t.0 is_head) in
    (subst IsLawful (sym told.0) lawful, subst (λ (b : Limits). IsFile b c.in-Ok-lists_behind.lists.classes c.args.bytes.now) (sym told.0) file)

pub returns-in-Err-Left : goal.returns-in-Err-Left
returns-in-Err-Left c =
    let h : Head = record { n = c.in-Ok.head.0.n; q = c.in-Ok.head.0.q; m = c.in-Ok.head.0.m; grain = c.in-Ok.head.0.grain } in
    let accepted = c.in-Ok-bounds_of.ensures.accepted in
    let told : TellsClasses c.in-Ok-bounds_of.b c.in-Ok.head.1.now (Err (Left c.in-Err-Left.n)) = subst (λ f. TellsClasses c.in-Ok-bounds_of.b c.in-Ok.head.1.now (Err f)) c.in-Err-Left.field-0-is c.in-Err-Left.ensures in
    let t = head_read h c.args.bytes.now c.in-Ok.head.1.now c.in-Ok.ensures in
    let is_head : IsHead (head_of c.in-Ok-bounds_of.b) t.0 = subst (λ (k : Head). IsHead k t.0) (sym (ap head_of accepted.1 ∙ head_back h accepted.0)) t.1 in
    let place : IsFaultPlace (IsFile c.in-Ok-bounds_of.b) c.args.bytes.now (length c.args.bytes.now - c.in-Err-Left.n) = subst (λ (z : List ℕ). IsFaultPlace (IsFile c.in-Ok-bounds_of.b) z (length z - c.in-Err-Left.n)) (sym t.2) (told.1 t.0 is_head) in
    let of_head : IsFaultPlace (IsFile (limits_of h)) c.args.bytes.now (length c.args.bytes.now - c.in-Err-Left.n) = subst (λ (b : Limits). IsFaultPlace (IsFile b) c.args.bytes.now (length c.args.bytes.now - c.in-Err-Left.n)) accepted.1 place in
    inr (h, record { head = t.0; rest = c.in-Ok.head.1.now; is_head = t.1; parts = t.2 }, accepted.0, of_head)
