use Rattle.std.proofs.Common.{◌≡◌, ◌+◌, ◌++◌, sym, ap, subst, ◌∙◌, List, [], ◌∷◌, map, take}
use Rattle.std.specs.Prelude.{option_to_list}
use Rattle.std.specs.List.{flat_map}
use Rattle.netlist_schema.specs.Design.{Design}
use Rattle.edit_rules_spec.specs.declared.reply.EndName.{EndName}
use Rattle.edit_cells.specs.State.{HasRead}
use Rattle.eco_reads.proofs.NoteReads.{some_after}
use Rattle.eco_plans.specs.Shown.{AreFacesOf, EndSeen, seen_end, seen_name}
use Rattle.eco_plans.specs.declared.show_plans.EndAt.{EndAt}
use Rattle.eco_reads.proofs.Below.{take_whole}
use Rattle.eco_reads.proofs.Within.{map_one_more}
use Rattle.eco_plans.proofs.ShowNet.{one_face_more, one_name_more}
use Rattle.eco_plans.proofs.show.name_ends.Goals as goal

pub returns-in_default-clause-reads : goal.returns-in_default-clause-reads
returns-in_default-clause-reads g c = some_after (g.C.Cells.state c.args.cells.now) (g.C.Cells.state c.loop-at.cells) (g.C.Cells.state c.name_end.new.cells) _ c.loop-at.invariant.read (rw c.in_default.is at c.name_end.ensures.reads)

pub loop-at-preserved : goal.loop-at-preserved
loop-at-preserved g c =
    let d = (g.C.Cells.state c.args.cells.now).design in
    let before = map seen_end (take c.loop-at.at-index c.args.ends.now) in
    let one = seen_end c.at-item.result in
    let longer : map seen_end (take (c.loop-at.at-index + 1) c.args.ends.now) ≡ before ++ one ∷ [] = map_one_more seen_end c.args.ends.now c.loop-at.at-index c.at-item.result c.loop-at-test.true c.at-item.is in
    record {
      named = c.in-Ok.ensures.named
          ∙ ap (λ (e : Design). c.loop-at.shown.items ++ option_to_list (seen_name e one)) c.loop-at.invariant.read.design
          ∙ ap (λ (ns : List EndName). ns ++ option_to_list (seen_name d one)) c.loop-at.invariant.named
          ∙ one_name_more d before one
          ∙ ap (λ (xs : List EndSeen). flat_map (λ seen. option_to_list (seen_name d seen)) xs) (sym longer);
      read = subst (λ (xs : List EndSeen). HasRead (g.C.Cells.state c.args.cells.now) (g.C.Cells.state c.name_end.new.cells) (AreFacesOf xs)) (sym longer)
          (one_face_more (g.C.Cells.state c.args.cells.now) (g.C.Cells.state c.loop-at.cells) (g.C.Cells.state c.name_end.new.cells) before one c.loop-at.invariant.read c.in-Ok.ensures.reads);
    }

pub returns-clause-reads : goal.returns-clause-reads
returns-clause-reads g c =
    subst (λ (ends : List EndAt). HasRead (g.C.Cells.state c.args.cells.now) (g.C.Cells.state c.loop-at.cells) (AreFacesOf (map seen_end ends))) (take_whole c.args.ends.now c.loop-at.at-index c.loop-at-test.false) c.loop-at.invariant.read
