use Rattle.std.proofs.Common.{◌≡◌, ◌∙◌, ◌++◌, ◌∷◌, [], length, sym, ap, rules, Ok, List, ℕ}
use Rattle.qz_rulefile.specs.Reading.{class_at, member_at}
use Rattle.qz_rulefile.specs.Flat.{class_onto, folded_at, one_more}
use Rattle.qz_rulefile.proofs.Folds.{class_kept, class_fails, class_read, class_uncounted, handed_on}
use Rattle.qz_rulefile.proofs.class_reader.class.Goals as goal

pub returns-in-Err : goal.returns-in-Err
returns-in-Err c = class_uncounted c.args.texts.now.bounds (record { members = c.args.ranks.now.items; ends = c.args.ends.now.items }) c.args.bytes.now c.in-Err.n c.in-Err.ensures

pub returns-in-Err-members : goal.returns-in-Err-members
returns-in-Err-members c =
    handed_on c.in-Err-members.fault (folded_at one_more c.args.ranks.now.items (member_at c.args.texts.now.bounds) c.in-Ok.count.0 c.in-Ok.count.1.now)
    (class_onto (record { members = c.args.ranks.now.items; ends = c.args.ends.now.items }) (class_at c.args.texts.now.bounds c.args.bytes.now)) c.in-Err-members.ensures
    (λ n e. ap (class_onto (record { members = c.args.ranks.now.items; ends = c.args.ends.now.items })) (class_read c.args.texts.now.bounds c.args.bytes.now c.in-Ok.count.1.now c.in-Ok.count.0 c.in-Ok.ensures)
    ∙ class_fails (record { members = c.args.ranks.now.items; ends = c.args.ends.now.items }) (member_at c.args.texts.now.bounds) c.in-Ok.count.0 c.in-Ok.count.1.now n e)

pub returns : goal.returns
returns c =
    let pushed : c.push.new.self.items ≡ c.args.ends.now.items ++ length c.members.new.ranks.items ∷ [] = search rules in
    ap (class_onto (record { members = c.args.ranks.now.items; ends = c.args.ends.now.items })) (class_read c.args.texts.now.bounds c.args.bytes.now c.in-Ok.count.1.now c.in-Ok.count.0 c.in-Ok.ensures)
    ∙ class_kept (record { members = c.args.ranks.now.items; ends = c.args.ends.now.items }) (member_at c.args.texts.now.bounds) c.in-Ok.count.0 c.in-Ok.count.1.now c.members.new.ranks.items c.in-Ok-members.rest.now c.in-Ok-members.ensures
    ∙ ap (λ (es : List ℕ). Ok (record { members = c.members.new.ranks.items; ends = es }, c.in-Ok-members.rest.now)) (sym pushed)
