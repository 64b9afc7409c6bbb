use Rattle.std.proofs.Common.{◌≡◌, Some, ◌∙◌, ap, sym, subst, length, map, length-drop, arith}
use Rattle.std.specs.Prelude.{slice_get}
use Rattle.std.specs.List.{All}
use Rattle.std.proofs.lemmas.List.Elements.{All-drop}
use Rattle.std.proofs.lemmas.Option.{get_or_from_slice_get, slice_get_within}
use Rattle.netlist_schema.specs.Types.{Net}
use Rattle.edif_spec.specs.Canonical.{net_tree, ports_of_end}
use Rattle.edif_spec.specs.Nets.{net_forms}
use Rattle.edif_writer.specs.Lines.{lined}
use Rattle.edif_writer.specs.Placed.{IsAt}
use Rattle.edif_writer.proofs.NetForms.{first_line, none_left}
use Rattle.netdb_outside.proofs.BufferedLemmas.{writes_nothing, writes_then, writes_same}
use Rattle.edif_writer.proofs.contents.write_net_lines.Goals as goal

pub loop-net-init : goal.loop-net-init
loop-net-init g c =
    let d = g.S.Shown.design c.args.design.now in
    let own = c.args.own.now in
    let insts = c.args.contents.now.insts in
    let all = c.iter-left.ensures.value in
    record {
      written = λ k page w. writes_same (ap (λ ns. lined 5 (map (net_tree d.libs own insts) (net_forms (ports_of_end d.libs own insts) ns))) all) w;
      ends = subst (All (λ (net : Net). All (IsAt d own insts) net.ends)) (sym all) c.requires.ends;
      most = omega (arith, ap length all);
    }

pub write_form-requires : goal.write_form-requires
write_form-requires g c =
    let d = g.S.Shown.design c.args.design.now in
    let net = c.in-Some.net.now in
    let left = c.loop-net.left in
    let there : slice_get left 0 ≡ Some net = sym c.in-Some.ensures in
    subst (λ (n : Net). All (IsAt d c.args.own.now c.args.contents.now.insts) n.ends) (get_or_from_slice_get left 0 net net there ∙ sym c.deref.ensures)
    (c.loop-net.invariant.ends 0 net (slice_get_within left 0 net there))

pub width_from-width-requires : goal.width_from-width-requires
width_from-width-requires g c = slice_get_within c.loop-net.left 0 c.in-Some.net.now (sym c.in-Some.ensures)

pub loop-net-preserved : goal.loop-net-preserved
loop-net-preserved g c =
    let d = g.S.Shown.design c.args.design.now in
    let own = c.args.own.now in
    let insts = c.args.contents.now.insts in
    let tree = net_tree d.libs own insts in
    let ports = ports_of_end d.libs own insts in
    let left = c.loop-net.left in
    let width = c.width_from-width.result in
    let rest = c.behind-left.ensures in
    let P : Net → Type 0 = λ net. All (IsAt d own insts) net.ends in
    record {
      written = λ k page w. c.loop-net.invariant.written k page
          (writes_same (first_line 5 tree ports left c.deref.result.now width (ap Some c.deref.ensures ∙ c.in-Some.ensures) c.width_from-width.ensures.width)
          (writes_then c.put_line.ensures (writes_then (c.write_form.ensures 6) (writes_same (ap (λ ns. lined 5 (map tree (net_forms ports ns))) rest) w))));
      ends = subst (All P) (sym rest) (All-drop P width left c.loop-net.invariant.ends);
      most = omega (arith, ap length rest, length-drop width left, c.loop-net.invariant.most);
    }

pub returns : goal.returns
returns g c =
    let d = g.S.Shown.design c.args.design.now in
    let own = c.args.own.now in
    let insts = c.args.contents.now.insts in
    let none = none_left c.loop-net.left c.in_default.ensures in
    c.loop-net.invariant.written c.loop-net.out c.loop-net.page
    (writes_same (ap (λ ns. lined 5 (map (net_tree d.libs own insts) (net_forms (ports_of_end d.libs own insts) ns))) (sym none)) (writes_nothing c.loop-net.out c.loop-net.page))
