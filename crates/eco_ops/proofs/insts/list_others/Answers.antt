use Rattle.std.proofs.Common.{◌≡◌, ◌+◌, ◌++◌, ℕ, suc, arith, sym, ap, subst, ◌∙◌, List, [], ◌∷◌, length, map, not, take, Some, slice_get, rules}
use Rattle.std.proofs.lemmas.List.{length-map, map-append}
use Rattle.netlist_schema.specs.Design.{Design}
use Rattle.netlist_schema.specs.Types.{Note}
use Rattle.netlist_schema.proofs.Lists.{get_unmapped, take_next}
use Rattle.edit_rules_spec.specs.Paths.{goes_through}
use Rattle.edit_rules_spec.specs.Reading.{IsReached, IsReachedBy}
use Rattle.edit_cells.specs.State.{HasRead}
use Rattle.eco_reads.specs.Named.{AreNamed}
use Rattle.eco_reads.proofs.Below.{take_whole}
use Rattle.eco_reads.proofs.NoteReads.{one_note_more, some_after}
use Rattle.eco_ops.specs.Insts.{is_other}
use Rattle.eco_ops.proofs.DropOps.{got_path}
use Rattle.eco_ops.proofs.insts.list_others.Goals as goal

pub returns-in_default-clause-reads : goal.returns-in_default-clause-reads
returns-in_default-clause-reads g c = some_after (g.C.Cells.state c.args.cells.now) (g.C.Cells.state c.loop-path.cells) (g.C.Cells.state c.tell_other.new.cells) _ c.loop-path.invariant.read (rw c.in_default.is at c.tell_other.ensures.reads)

pub tell_other-requires : goal.tell_other-requires
tell_other-requires g c = subst (λ (d : Design). AreNamed d c.loop-path.named) (sym c.loop-path.invariant.read.design) c.loop-path.invariant.named

pub loop-path-preserved : goal.loop-path-preserved
loop-path-preserved g c =
    let d : Design = (g.C.Cells.state c.args.cells.now).design in
    let k = c.loop-path.path-index in
    let found : slice_get (map (λ (n : Note). n.path) d.notes) k ≡ Some c.path-item.result =
    ap (λ (ps : List (List (List ℕ))). slice_get ps k) (sym c.requires) ∙ got_path c.args.paths.now k c.path-item.result (search rules) c.path-item.is in
    let note = get_unmapped (λ (n : Note). n.path) d.notes k c.path-item.result found in
    let one : k + 1 ≡ suc k = omega arith in
    let longer : take (k + 1) d.notes ≡ take k d.notes ++ note.0 ∷ [] = ap (λ n. take n d.notes) one ∙ take_next d.notes k note.0 note.1 in
    record {
      told = c.in-Ok.ensures.told
          ∙ (λ i. c.loop-path.invariant.told i ++ not (goes_through (c.loop-path.invariant.read.design i) c.args.id c.args.inst.now c.args.top (sym note.2 i)) ∷ [])
          ∙ sym (map-append (is_other d c.args.id c.args.inst.now c.args.top) (take k d.notes) (note.0 ∷ []))
          ∙ ap (map (is_other d c.args.id c.args.inst.now c.args.top)) (sym longer);
      named = subst (λ (e : Design). AreNamed e c.tell_other.new.named) c.loop-path.invariant.read.design c.tell_other.ensures.named;
      read = subst (λ (ns : List Note). HasRead (g.C.Cells.state c.args.cells.now) (g.C.Cells.state c.tell_other.new.cells) (IsReachedBy d c.args.top ns)) (sym longer)
          (one_note_more (g.C.Cells.state c.args.cells.now) (g.C.Cells.state c.loop-path.cells) (g.C.Cells.state c.tell_other.new.cells) c.args.top (take k d.notes) note.0 c.loop-path.invariant.read
          (subst (λ (p : List (List ℕ)). HasRead (g.C.Cells.state c.loop-path.cells) (g.C.Cells.state c.tell_other.new.cells) (IsReached (g.C.Cells.state c.loop-path.cells).design c.args.top p)) (sym note.2) c.in-Ok.ensures.reads));
    }

pub returns-clause-told : goal.returns-clause-told
returns-clause-told g c =
    let d : Design = (g.C.Cells.state c.args.cells.now).design in
    let long : length c.args.paths.now ≡ length d.notes = ap length c.requires ∙ length-map d.notes (λ (n : Note). n.path) in
    c.loop-path.invariant.told ∙ ap (map (is_other d c.args.id c.args.inst.now c.args.top)) (take_whole d.notes c.loop-path.path-index (omega (arith, long)))

pub returns-clause-reads : goal.returns-clause-reads
returns-clause-reads g c =
    let d : Design = (g.C.Cells.state c.args.cells.now).design in
    let long : length c.args.paths.now ≡ length d.notes = ap length c.requires ∙ length-map d.notes (λ (n : Note). n.path) in
    subst (λ (ns : List Note). HasRead (g.C.Cells.state c.args.cells.now) (g.C.Cells.state c.loop-path.cells) (IsReachedBy d c.args.top ns)) (take_whole d.notes c.loop-path.path-index (omega (arith, long))) c.loop-path.invariant.read
