use Rattle.std.proofs.Common.{◌∙◌, ℕ, List, Some, ap, arith, get_or, length, map, subst, sym}
use Rattle.std.specs.Prelude.{nat_eq}
use Rattle.std.specs.Option.{option_eq}
use Rattle.std.proofs.lemmas.List.{get_or_default}
use Rattle.net_classes.specs.declared.joints.Joint.{Joint}
use Rattle.net_rows.specs.Lists.{AreParted}
use Rattle.net_rows.specs.Rows.{is_in_row}
use Rattle.net_rows.proofs.IndexLemmas.{row_test}
use Rattle.net_rows.proofs.ListLemmas.{all_parted, more_parted, none_yet}
use Rattle.net_ways.specs.Ways.{firsts_in}
use Rattle.net_rows.proofs.rows.rows_of.Goals as goal

abbrev none : Joint
none = record { inst = 0; port = 0; bit = 0; net = 0 }

pub loop-joint-init : goal.loop-joint-init
loop-joint-init g c =
    none_yet (λ list. list.items) (is_in_row c.args.role (g.S.Shown.design c.args.design.now) c.args.classes.now c.args.rows.now c.args.cell) (length (firsts_in c.args.classes.now c.args.cell)) c.joints-joints.result.now
    c.in_ok-lists.lists.items (c.in_ok-lists.ensures.long ∙ ap length c.firsts.ensures) c.in_ok-lists.ensures.none

pub loop-joint-preserved : goal.loop-joint-preserved
loop-joint-preserved g c =
    let d = g.S.Shown.design c.args.design.now in
    let k : ℕ = c.loop-joint.joint-index in
    let joints : List Joint = c.joints-joints.result.now in
    let joint : Joint = get_or joints k none in
    let test = is_in_row c.args.role d c.args.classes.now c.args.rows.now c.args.cell in
    more_parted test (length (firsts_in c.args.classes.now c.args.cell)) joints k joint c.loop-joint-test.true (get_or_default joints k joint none c.loop-joint-test.true) c.lead_of-first.result
    (λ f. row_test c.args.role d c.args.classes.now c.args.rows.now c.args.cell joint f ∙ ap (λ o. option_eq nat_eq o (Some f)) (sym c.lead_of-first.ensures))
    (map (λ list. list.items) c.loop-joint.lists.items) (map (λ list. list.items) c.add_to.new.lists.items) c.in_ok-add_to.ensures c.loop-joint.invariant

pub returns : goal.returns
returns g c =
    let d = g.S.Shown.design c.args.design.now in
    let test = is_in_row c.args.role d c.args.classes.now c.args.rows.now c.args.cell in
    let lists = map (λ list. list.items) c.loop-joint.lists.items in
    subst (λ js. AreParted test (length (firsts_in c.args.classes.now c.args.cell)) js lists) c.joints-joints.ensures
    (all_parted test (length (firsts_in c.args.classes.now c.args.cell)) c.joints-joints.result.now c.loop-joint.joint-index lists (λ less. omega (arith, less, c.loop-joint-test.false)) c.loop-joint.invariant)
