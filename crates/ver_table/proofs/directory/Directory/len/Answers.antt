use Rattle.std.proofs.Common.{◌≡◌, ◌+◌, ◌≤◌, length, take_all, refl, sym, ap, ◌∙◌, arith, rules}
use Rattle.std.specs.Arc.{arc_value}
use Rattle.std.specs.FinMap as map
use Rattle.ver_table.specs.declared.directory.TheConstants.{GROUP}
use Rattle.ver_table.specs.Pages.{sheets_of, spread}
use Rattle.ver_table.proofs.Steps.{count_step, count_part}
use Rattle.ver_table.proofs.Values.{len_of}
use Rattle.ver_table.proofs.directory.Directory.len.Goals as goal

pub loop-group-init : goal.loop-group-init
loop-group-init g c = refl

pub overflow_add-count : goal.overflow_add-count
overflow_add-count g c =
    let some : 1 ≤ GROUP = omega arith in
    let groups = c.deref-group-items.result.now in
    let whole : length (spread (sheets_of groups)) ≡ map.len c.args.self.now =
    ap (λ gs. length (spread (sheets_of gs))) c.deref-group-items.ensures.value ∙ sym (len_of GROUP some (sheets_of c.self.inside.groups.items) c.self.invariant) ∙ ap map.len c.self.view_is in
    let more : c.len.result ≡ length (arc_value c.group-item.result.item).items = c.len.ensures ∙ search rules in
    omega (arith, count_step groups c.loop-group.group-index c.group-item.result c.loop-group-test.true c.group-item.is, count_part groups (c.loop-group.group-index + 1), whole, more, c.loop-group.invariant, c.requires)

pub loop-group-preserved : goal.loop-group-preserved
loop-group-preserved g c =
    let groups = c.deref-group-items.result.now in
    let more : c.len.result ≡ length (arc_value c.group-item.result.item).items = c.len.ensures ∙ search rules in
    omega (arith, count_step groups c.loop-group.group-index c.group-item.result c.loop-group-test.true c.group-item.is, more, c.loop-group.invariant)

pub returns : goal.returns
returns g c =
    let some : 1 ≤ GROUP = omega arith in
    let groups = c.deref-group-items.result.now in
    let whole : length (spread (sheets_of groups)) ≡ map.len c.args.self.now =
    ap (λ gs. length (spread (sheets_of gs))) c.deref-group-items.ensures.value ∙ sym (len_of GROUP some (sheets_of c.self.inside.groups.items) c.self.invariant) ∙ ap map.len c.self.view_is in
    c.loop-group.invariant ∙ ap (λ gs. length (spread (sheets_of gs))) (take_all c.loop-group.group-index groups c.loop-group-test.false) ∙ whole
