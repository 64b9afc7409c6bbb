use Rattle.std.proofs.Common.{◌≡◌, arith, get_or, sym, ap, subst, ◌∙◌, List}
use Rattle.std.specs.List.{position_from}
use Rattle.std.proofs.lemmas.Iterator.Adapters.{position_from-zero}
use Rattle.netlist_schema.specs.Types.{End, Net}
use Rattle.flat_spec.specs.ConnectionTest.{has_end}
use Rattle.flat_spec.specs.Paths.{nets_at}
use Rattle.design_model.proofs.PinLemmas.{place_found, place_passed, no_place}
use Rattle.design_model.proofs.pins.place_joining.Goals as goal

pub loop-place-init : goal.loop-place-init
loop-place-init g c =
    let test = λ (net : Net). has_end net.ends c.args.end in
    ap (position_from test 0) c.nets_at-nets.ensures.value ∙ sym (position_from-zero test (nets_at (g.S.Shown.design c.args.design.now) c.args.cell))

pub returns-then-has_end : goal.returns-then-has_end
returns-then-has_end g c =
    place_found (λ (net : Net). has_end net.ends c.args.end) c.nets_at-nets.result c.loop-place.place _ c.deref.result.now
    (omega arith) (subst (λ (net : Net). net ≡ get_or c.nets_at-nets.result c.loop-place.place net) (sym c.deref.ensures) c.at.ensures.is)
    (sym (c.has_end.ensures ∙ ap (λ (ends : List End). has_end ends c.args.end) c.as_slice.ensures) ∙ c.if-has_end.true) c.loop-place.invariant

pub loop-place-preserved : goal.loop-place-preserved
loop-place-preserved g c =
    place_passed (λ (net : Net). has_end net.ends c.args.end) c.nets_at-nets.result c.loop-place.place _ c.deref.result.now
    (omega arith) (subst (λ (net : Net). net ≡ get_or c.nets_at-nets.result c.loop-place.place net) (sym c.deref.ensures) c.at.ensures.is)
    (sym (c.has_end.ensures ∙ ap (λ (ends : List End). has_end ends c.args.end) c.as_slice.ensures) ∙ c.if-has_end.false) c.loop-place.invariant

pub returns : goal.returns
returns g c =
    no_place (λ (net : Net). has_end net.ends c.args.end) c.nets_at-nets.result c.loop-place.place _ (omega arith) c.loop-place.invariant
