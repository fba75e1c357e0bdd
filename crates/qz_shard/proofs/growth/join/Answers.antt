use Rattle.std.proofs.Common.{◌≡◌, get_or, [], ◌∷◌, ◌++◌, sym, subst, ap, ◌∙◌}
use Rattle.qz_shard.specs.Journals.{AddsMember}
use Rattle.qz_shard.proofs.ClassParts.{members_read, prints_set, links_set, members_kept, members_set, on_err}
use Rattle.qz_shard.proofs.growth.join.Goals as goal

-- the class is as it was
pub returns-in_err-add_member-clause-err : goal.returns-in_err-add_member-clause-err
returns-in_err-add_member-clause-err c =
    let classes = c.args.classes.now in
    let old = get_or classes c.args.k c.index-classes-k.result in
    let same : old ≡ get_or classes c.args.k old = ap (get_or classes c.args.k) c.index-classes-k.is in
    let new = c.add_member.new.class in
    on_err c.from_residual.result (record {
      entries = c.reserve.ensures.items;
      prints = prints_set classes c.args.k old c.requires.within same new c.in_err-add_member.ensures.print;
      links = links_set classes c.args.k old c.requires.within same new c.in_err-add_member.ensures.before;
      members = members_kept classes c.args.k old c.requires.within same new c.in_err-add_member.ensures.err;
    })

-- or has the rank as one more member
pub returns-clause-ok : goal.returns-clause-ok
returns-clause-ok c =
    let classes = c.args.classes.now in
    let old = get_or classes c.args.k c.index-classes-k.result in
    let same : old ≡ get_or classes c.args.k old = ap (get_or classes c.args.k) c.index-classes-k.is in
    let new = c.add_member.new.class in
    record {
      entries = c.push_reserved.ensures.items ∙ ap (λ xs. xs ++ c.args.r ∷ []) c.reserve.ensures.items;
      prints = prints_set classes c.args.k old c.requires.within same new c.in_ok-add_member.ensures.print;
      links = links_set classes c.args.k old c.requires.within same new c.in_ok-add_member.ensures.before;
      class = new.members.items;
      adds = subst (λ xs. AddsMember c.args.r xs new.members.items) (sym (members_read classes c.args.k old c.requires.within same)) c.in_ok-add_member.ensures.ok;
      members = members_set classes c.args.k old c.requires.within same new;
    }
