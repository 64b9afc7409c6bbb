use Rattle.std.proofs.Common.{sym, ap, subst, refl, ◌∙◌}
use Rattle.flat_items.specs.Lent.{net_of}
use Rattle.erc_check.specs.Firsts.{IsSearched, one_pin_more}
use Rattle.erc_check.proofs.FirstLemmas.{none_is_there, one_noted}
use Rattle.erc_check.proofs.firsts.add_pin.Goals as goal

pub returns-in-Some : goal.returns-in-Some
returns-in-Some c = λ nets drives in_order there is.
    let firsts = c.args.firsts.now in
    let y = net_of c.args.at in
    one_noted drives y c.args.is_strong nets firsts _ c.in-Some.place c.index-firsts-place.result c.note.new.first in_order is
    (subst (IsSearched firsts y) c.in-Some.is c.place_of.ensures) c.index-firsts-place.is
    (c.note.ensures ∙ ap (one_pin_more c.args.is_strong) (sym c.index-firsts-place.is)) refl

pub returns-in-None : goal.returns-in-None
returns-in-None c = λ nets drives in_order there is.
    let firsts = c.args.firsts.now in
    let y = net_of c.args.at in
    absurd (none_is_there drives y nets firsts in_order there is (subst (IsSearched firsts y) c.in-None.is c.place_of.ensures))
