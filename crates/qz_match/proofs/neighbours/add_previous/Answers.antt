use Rattle.std.proofs.Common.{◌≡◌, ◌++◌, ◌∷◌, [], ◌+◌, ap, ◌∙◌, rules, None}
use Rattle.std.proofs.lemmas.List.{length_push}
use Rattle.qz_match.specs.declared.neighbours.Link.{Link}
use Rattle.qz_match.proofs.Tables.{last_more, previous_more}
use Rattle.qz_match.proofs.neighbours.add_previous.Goals as goal

-- a link for the next gate
pub loop-i-preserved : goal.loop-i-preserved
loop-i-preserved c =
    let link : Link = record { previous = c.look_up.result; next = None ∷ None ∷ [] } in
    let pushed : c.push.new.self.items ≡ c.loop-i.links.items ++ (record { previous = c.look_up.result; next = None ∷ None ∷ [] }) ∷ [] = search rules in
    record {
      size = rw pushed (length_push c.loop-i.links.items link ∙ ap (λ n. n + 1) c.loop-i.invariant.size);
      found = rw pushed (previous_more c.args.c.now c.loop-i.i c.loop-i.last c.loop-i.links.items link c.loop-i.invariant.size c.loop-i.invariant.last c.look_up.ensures c.loop-i.invariant.found);
      last = last_more c.args.c.now c.loop-i.i c.loop-i.last c.enter.new.slots c.enter.ensures c.loop-i.invariant.last;
    }
