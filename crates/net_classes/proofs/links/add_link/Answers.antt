use Rattle.std.proofs.Common.{◌≡◌, Some, None, refl, sym, subst, ◌∙◌}
use Rattle.std.specs.BTreeMap.{get}
use Rattle.net_classes.specs.Links.{IsLinkAdded, class_cmp}
use Rattle.net_classes.proofs.links.add_link.Goals as goal

pub returns-in_ok-push-in-Some : goal.returns-in_ok-push-in-Some
returns-in_ok-push-in-Some c =
    let seen = get class_cmp c.args.seen.now in
    let at : seen c.args.class ≡ Some c.in-Some.first = sym c.get.ensures.value ∙ (sym c.copied.ensures ∙ c.in-Some.is) in
    subst (λ o. IsLinkAdded seen c.args.pairs.now.items c.args.class c.args.net seen c.push.new.self.items o) (sym at)
    (c.in_ok-push-in-Some.ensures.items, λ q. refl)

pub returns-in_ok-insert-in-None : goal.returns-in_ok-insert-in-None
returns-in_ok-insert-in-None c =
    let seen = get class_cmp c.args.seen.now in
    let at : seen c.args.class ≡ None = sym c.get.ensures.value ∙ (sym c.copied.ensures ∙ c.in-None.is) in
    subst (λ o. IsLinkAdded seen c.args.pairs.now.items c.args.class c.args.net (get class_cmp c.insert.new.self) c.args.pairs.now.items o) (sym at)
    (refl, c.in_ok-insert-in-None.ensures.updates.1, c.in_ok-insert-in-None.ensures.updates.2)
