use Rattle.std.proofs.Common.{map, arith, ap, ◌∙◌, Global}
use Rattle.std.specs.declared.sync.Arc.{Arc}
use Rattle.std.specs.declared.vec.Vec.{Vec}
use Rattle.netlist_schema.specs.Types.{Lib}
use Rattle.db_draft.specs.Laid.{libs_laid}
use Rattle.db_draft.specs.Layers.{over_of}
use Rattle.db_draft.proofs.Applying.{all_laid, length_libs, next_laid, none_missing}
use Rattle.db_draft.proofs.draft.shelves_laid.Goals as goal
use Rattle.db_draft.proofs.draft.shelves_laid.Goals.{in-Some+in_ok-push-in-Some, in-None}

pub loop-place-preserved : goal.loop-place-preserved
loop-place-preserved c =
    let all = libs_laid (map over_of c.args.layers.now) c.args.base.now.libs in
    elim c.match-branch-3.branch [
      | in-Some+in_ok-push-in-Some w ↦ next_laid all c.loop-place.shelves.items c.match-branch-3.shelves.items c.in_ok-shelf.field-0 w.in-Some.shelf c.loop-place.place c.loop-place.invariant c.in_ok-shelf.ensures w.in-Some.is (ap (λ (v : Vec (Arc Lib Global) Global). v.items) w.shelves-is ∙ w.in_ok-push-in-Some.ensures.items)
      | in-None w ↦ none_missing all c.in_ok-shelf.field-0 c.loop-place.place c.in_ok-shelf.ensures w.in-None.is (omega (arith, c.loop-place-test.true, c.lib_count-place-end.ensures.value, length_libs c.args.layers.now c.args.base.now.libs c.requires.suit))
    ]

pub returns : goal.returns
returns c = all_laid c.args.layers.now c.args.base.now.libs c.loop-place.shelves.items c.loop-place.place c.requires.suit c.loop-place.invariant (omega (arith, c.lib_count-place-end.ensures.value))
