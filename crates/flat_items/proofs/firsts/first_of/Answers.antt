use Rattle.std.proofs.Common.{◌≡◌, refl, sym, ap, subst, ◌∙◌, Option}
use Rattle.std.specs.Prelude.{IsSome}
use Rattle.std.proofs.lemmas.Option.{same_Some}
use Rattle.net_names.specs.Names.{net_named}
use Rattle.net_names.specs.declared.names.NetName.{NetName}
use Rattle.flat_items.proofs.NetLemmas.{net_is_named}
use Rattle.flat_items.proofs.firsts.first_of.Goals as goal

pub name_at-name-requires : goal.name_at-name-requires
name_at-name-requires g c =
    let named = net_is_named (g.S.Shown.design c.args.ground.now.design) c.args.ground.now.classes c.args.ground.now.notes c.requires.ground c.args.path.now c.args.frame.now c.requires.frame
    c.args.net c.requires.net c.as_slice.result.now c.firsts-firsts.result.now c.as_slice.ensures.value c.firsts-firsts.ensures in
    subst (λ (o : Option NetName). IsSome o) (sym named.found) refl

pub returns-clause-net : goal.returns-clause-net
returns-clause-net g c =
    let d = g.S.Shown.design c.args.ground.now.design in
    let named = net_is_named d c.args.ground.now.classes c.args.ground.now.notes c.requires.ground c.args.path.now c.args.frame.now c.requires.frame
    c.args.net c.requires.net c.as_slice.result.now c.firsts-firsts.result.now c.as_slice.ensures.value c.firsts-firsts.ensures in
    let same : named.name ≡ c.name_at-name.result = same_Some named.name c.name_at-name.result (sym named.found ∙ c.name_at-name.ensures) in
    c.net_of.ensures.net ∙ ap (net_named c.args.path.now) (sym same) ∙ named.is
