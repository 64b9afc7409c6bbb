use Rattle.std.proofs.Common.{◌≡◌, [], ap, ◌∙◌, sym, List}
use Rattle.std.specs.List.{last_or}
use Rattle.std.specs.Option.{option_map_or}
use Rattle.std.specs.Borrow.{Bor}
use Rattle.std.specs.Prelude.{None}
use Rattle.std.proofs.lemmas.Result.{IfOk-weaker}
use Rattle.netlist_schema.specs.Types.{Inst, Property, TopHead}
use Rattle.flat_spec.specs.Effective.{effective, insts_along, merged, notes_for}
use Rattle.annot_view.specs.Lent.{lent, lent_names}
use Rattle.annot_view.proofs.MergeLemmas.{effective_from_parts}
use Rattle.annot_view.proofs.properties.effective.Goals as goal

pub returns : goal.returns
returns g c =
    let d = g.S.Shown.design c.args.design.now in
    let top = c.in-Some.top.now in
    let path = c.args.path.now in
    let insts = c.in_ok-insts.insts.items in
    let notes = c.in_ok-notes.notes.items in
    let base = c.base_properties-base.result.now in
    let along : lent insts ≡ insts_along d top.cell path = c.in_ok-insts.ensures ∙ ap (insts_along d top.cell) c.as_slice.ensures.value in
    let picked : lent notes ≡ notes_for (lent_names insts) d.notes =
    c.in_ok-notes.ensures
    ∙ ap (λ (is : List (Bor Inst)). notes_for (lent_names is) c.as_slice-2.result.now) c.as_slice-3.ensures.value
    ∙ ap (notes_for (lent_names insts)) (c.as_slice-2.ensures ∙ c.notes.ensures) in
    let own : base ≡ option_map_or (λ (i : Inst). i.properties) (last_or None (lent insts)) top.properties =
    c.base_properties-base.ensures
    ∙ ap (λ (is : List (Bor Inst)). option_map_or (λ (i : Inst). i.properties) (last_or None (lent is)) top.properties) c.as_slice-4.ensures.value in
    IfOk-weaker c.merged.result (λ (all : List Property). all ≡ merged base (lent c.as_slice-5.result.now))
    (λ (all : List Property). all ≡ option_map_or (λ (t : TopHead). effective d t path) d.top [])
    (λ all whole. effective_from_parts d top path insts (lent notes) base all (sym c.in-Some.ensures.value) along picked own
    (whole ∙ ap (λ (ns : List (Bor Property)). merged base (lent ns)) c.as_slice-5.ensures.value))
    c.merged.ensures
