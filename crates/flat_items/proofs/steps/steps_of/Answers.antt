use Rattle.std.proofs.Common.{rules, ◌≡◌, ◌+◌, ◌∷◌, ◌++◌, [], drop, sym, ap, subst, ◌∙◌, Some, None, slice_get}
use Rattle.std.proofs.lemmas.List.{drop_all, drop_more}
use Rattle.std.proofs.lemmas.Option.{get_or_from_slice_get, slice_get_within}
use Rattle.netlist_schema.specs.Hierarchy.{insts_at}
use Rattle.netlist_schema.specs.Types.{Inst}
use Rattle.flat_items.specs.Ways.{IsNameFound}
use Rattle.flat_items.proofs.WayLemmas.{IsOnWay, way_ends, way_lost, way_more}
use Rattle.flat_items.proofs.steps.steps_of.Goals as goal

pub returns-in_default-clause-way : goal.returns-in_default-clause-way
returns-in_default-clause-way g c = λ valid resolves.
    let d = g.S.Shown.design c.args.design.now in
    let names = c.as_slice-name-items.result.now in
    let i = c.loop-name.name-index in
    let ahead : drop i names ≡ c.name-item.result ∷ drop (i + 1) names = drop_more names i c.name-item.result c.loop-name-test.true ∙ ap (λ v. v ∷ drop (i + 1) names) (sym c.name-item.is) in
    let on = subst (λ v. IsOnWay d valid c.args.top c.loop-name.cell c.args.note.now.path v c.loop-name.steps.items) ahead (c.loop-name.invariant.on_way valid resolves) in
    let none : IsNameFound (insts_at d c.loop-name.cell) c.name-item.result None = subst (λ o. IsNameFound (insts_at d c.loop-name.cell) c.name-item.result o) c.in_default.is c.in_ok-place.ensures.found in
    absurd (way_lost d valid c.args.top c.loop-name.cell c.args.note.now.path c.name-item.result (drop (i + 1) names) c.loop-name.steps.items none on)

pub at-requires : goal.at-requires
at-requires g c =
    let d = g.S.Shown.design c.args.design.now in
    let found : IsNameFound (insts_at d c.loop-name.cell) c.name-item.result (Some c.in-Some.place) =
    subst (λ o. IsNameFound (insts_at d c.loop-name.cell) c.name-item.result o) c.in-Some.is c.in_ok-place.ensures.found in
    slice_get_within c.insts_at-insts.result c.in-Some.place found.0 (ap (λ v. slice_get v c.in-Some.place) c.insts_at-insts.ensures.value ∙ found.1)

pub loop-name-preserved : goal.loop-name-preserved
loop-name-preserved g c = record {
  named = c.find.ensures.named;
  on_way = λ valid resolves.
      let d = g.S.Shown.design c.args.design.now in
      let names = c.as_slice-name-items.result.now in
      let i = c.loop-name.name-index in
      let place = c.in-Some.place in
      let insts = c.insts_at-insts.result in
      let ahead : drop i names ≡ c.name-item.result ∷ drop (i + 1) names = drop_more names i c.name-item.result c.loop-name-test.true ∙ ap (λ v. v ∷ drop (i + 1) names) (sym c.name-item.is) in
      let on = subst (λ v. IsOnWay d valid c.args.top c.loop-name.cell c.args.note.now.path v c.loop-name.steps.items) ahead (c.loop-name.invariant.on_way valid resolves) in
      let found : IsNameFound (insts_at d c.loop-name.cell) c.name-item.result (Some c.in-Some.place) =
      subst (λ o. IsNameFound (insts_at d c.loop-name.cell) c.name-item.result o) c.in-Some.is c.in_ok-place.ensures.found in
      let next = way_more d valid c.args.top c.loop-name.cell c.args.note.now.path c.name-item.result (drop (i + 1) names) c.loop-name.steps.items place found.0 found.1 found.2 on in
      let at : slice_get insts place ≡ Some found.0 = ap (λ v. slice_get v place) c.insts_at-insts.ensures.value ∙ found.1 in
      let inst : c.deref.result.now ≡ found.0 = c.deref.ensures ∙ (c.at.ensures.is ∙ get_or_from_slice_get insts place found.0 c.at.result.now at) in
      let pushed : c.push.new.self.items ≡ c.loop-name.steps.items ++ place ∷ [] = search rules in
      subst (λ v. IsOnWay d valid c.args.top c.deref.result.now.of c.args.note.now.path (drop (i + 1) names) v) (sym pushed)
      (subst (λ (v : Inst). IsOnWay d valid c.args.top v.of c.args.note.now.path (drop (i + 1) names) (c.loop-name.steps.items ++ place ∷ [])) (sym inst) next);
}

pub returns-clause-way : goal.returns-clause-way
returns-clause-way g c = λ valid resolves.
    let d = g.S.Shown.design c.args.design.now in
    let names = c.as_slice-name-items.result.now in
    let on = subst (λ v. IsOnWay d valid c.args.top c.loop-name.cell c.args.note.now.path v c.loop-name.steps.items) (drop_all c.loop-name.name-index names c.loop-name-test.false) (c.loop-name.invariant.on_way valid resolves) in
    way_ends d valid c.args.top c.loop-name.cell c.args.note.now.path c.loop-name.steps.items on
