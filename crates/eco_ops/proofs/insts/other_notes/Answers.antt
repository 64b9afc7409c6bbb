use Rattle.std.proofs.Common.{ap, sym, ◌∙◌, arith, length, map}
use Rattle.std.specs.List.{list_all}
use Rattle.std.proofs.lemmas.List.{length-map}
use Rattle.netlist_schema.specs.Design.{Design}
use Rattle.netlist_schema.specs.Types.{Note}
use Rattle.eco_reads.proofs.NoteReads.{notes_and_paths, some_after}
use Rattle.eco_ops.specs.Insts.{is_other}
use Rattle.eco_ops.proofs.DropOps.{are_fewer, left_told, none_gone, not_fewer, notes_again, notes_alone, told_long}
use Rattle.eco_ops.proofs.insts.other_notes.Goals as goal

pub returns-in_default-clause-reads : goal.returns-in_default-clause-reads
returns-in_default-clause-reads g c = notes_alone (g.C.Cells.state c.args.cells.now) (g.C.Cells.state c.read_paths.new.cells) c.args.id (rw c.in_default.is at c.top_cell-found.ensures.value) c.in_ok-paths.ensures.reads

pub list_others-requires : goal.list_others-requires
list_others-requires g c = c.as_slice.ensures.value ∙ (c.in_ok-paths.ensures.value ∙ ap (λ (d : Design). map (λ (n : Note). n.path) d.notes) (sym c.in_ok-paths.ensures.reads.design))

pub returns-then-all_stay-clause-notes : goal.returns-then-all_stay-clause-notes
returns-then-all_stay-clause-notes g c =
    none_gone (g.C.Cells.state c.args.cells.now).design c.args.id c.in-Some.top c.args.inst.now c.in_ok-others.others.items c.in-Some.ensures.value
    (c.in_ok-others.ensures.told ∙ ap (λ (d : Design). map (is_other d c.args.id c.args.inst.now c.in-Some.top) d.notes) c.in_ok-paths.ensures.reads.design)
    (ap (list_all (λ stays. stays)) (sym c.as_slice-2.ensures.value) ∙ (sym c.all_stay.ensures ∙ c.if-all_stay.true))

pub returns-then-all_stay-clause-reads : goal.returns-then-all_stay-clause-reads
returns-then-all_stay-clause-reads g c =
    notes_and_paths (g.C.Cells.state c.args.cells.now) (g.C.Cells.state c.read_paths.new.cells) (g.C.Cells.state c.list_others.new.cells) c.args.id c.in-Some.top (g.C.Cells.state c.read_paths.new.cells).design.notes c.in-Some.ensures.value c.in_ok-paths.ensures.reads
    (ap (λ (d : Design). d.notes) c.in_ok-paths.ensures.reads.design) c.in_ok-others.ensures.reads

pub read_left-requires : goal.read_left-requires
read_left-requires g c =
    let told = ap length c.in_ok-others.ensures.told in
    let many = length-map (g.C.Cells.state c.read_paths.new.cells).design.notes (is_other (g.C.Cells.state c.read_paths.new.cells).design c.args.id c.args.inst.now c.in-Some.top) in
    let same = ap (λ (d : Design). length d.notes) c.in_ok-others.ensures.reads.design in
    let lent = ap length c.as_slice-3.ensures.value in
    omega (arith, told, many, same, lent)

pub returns-in_default-read_left-clause-reads : goal.returns-in_default-read_left-clause-reads
returns-in_default-read_left-clause-reads g c =
    some_after (g.C.Cells.state c.args.cells.now) (g.C.Cells.state c.list_others.new.cells) (g.C.Cells.state c.read_left.new.cells) _
    (notes_and_paths (g.C.Cells.state c.args.cells.now) (g.C.Cells.state c.read_paths.new.cells) (g.C.Cells.state c.list_others.new.cells) c.args.id c.in-Some.top (g.C.Cells.state c.read_paths.new.cells).design.notes c.in-Some.ensures.value c.in_ok-paths.ensures.reads
    (ap (λ (d : Design). d.notes) c.in_ok-paths.ensures.reads.design) c.in_ok-others.ensures.reads)
    c.in_default-read_left.ensures.reads

pub returns-then-len-clause-notes : goal.returns-then-len-clause-notes
returns-then-len-clause-notes g c =
    let is = left_told (g.C.Cells.state c.args.cells.now).design (g.C.Cells.state c.read_paths.new.cells).design (g.C.Cells.state c.list_others.new.cells).design c.args.id c.in-Some.top c.args.inst.now c.in_ok-others.others.items c.as_slice-3.result.now c.in-Ok.left.items c.in_ok-paths.ensures.reads.design
    c.in_ok-others.ensures.reads.design c.in_ok-others.ensures.told c.as_slice-3.ensures.value c.in-Ok.ensures.value in
    let long = told_long (g.C.Cells.state c.args.cells.now).design (g.C.Cells.state c.read_paths.new.cells).design c.args.id c.in-Some.top c.args.inst.now c.in_ok-others.others.items c.in_ok-paths.ensures.reads.design c.in_ok-others.ensures.told in
    not_fewer (g.C.Cells.state c.args.cells.now).design c.args.id c.in-Some.top c.args.inst.now c.in-Ok.left.items c.in-Some.ensures.value is (omega (arith, c.len.ensures, c.len-2.ensures, c.if-len.true, long))

pub returns-clause-notes : goal.returns-clause-notes
returns-clause-notes g c =
    let is = left_told (g.C.Cells.state c.args.cells.now).design (g.C.Cells.state c.read_paths.new.cells).design (g.C.Cells.state c.list_others.new.cells).design c.args.id c.in-Some.top c.args.inst.now c.in_ok-others.others.items c.as_slice-3.result.now c.in-Ok.left.items c.in_ok-paths.ensures.reads.design
    c.in_ok-others.ensures.reads.design c.in_ok-others.ensures.told c.as_slice-3.ensures.value c.in-Ok.ensures.value in
    let long = told_long (g.C.Cells.state c.args.cells.now).design (g.C.Cells.state c.read_paths.new.cells).design c.args.id c.in-Some.top c.args.inst.now c.in_ok-others.others.items c.in_ok-paths.ensures.reads.design c.in_ok-others.ensures.told in
    are_fewer (g.C.Cells.state c.args.cells.now).design c.args.id c.in-Some.top c.args.inst.now c.in-Ok.left.items c.of.result c.in-Some.ensures.value is (λ same. c.if-len.false (omega (arith, same, c.len.ensures, c.len-2.ensures, long))) c.of.ensures

pub returns-then-len-clause-reads : goal.returns-then-len-clause-reads
returns-then-len-clause-reads g c =
    notes_again (g.C.Cells.state c.args.cells.now) (g.C.Cells.state c.list_others.new.cells) (g.C.Cells.state c.read_left.new.cells) c.args.id c.in-Some.top c.in-Some.ensures.value
    (notes_and_paths (g.C.Cells.state c.args.cells.now) (g.C.Cells.state c.read_paths.new.cells) (g.C.Cells.state c.list_others.new.cells) c.args.id c.in-Some.top (g.C.Cells.state c.read_paths.new.cells).design.notes c.in-Some.ensures.value c.in_ok-paths.ensures.reads
    (ap (λ (d : Design). d.notes) c.in_ok-paths.ensures.reads.design) c.in_ok-others.ensures.reads)
    c.in-Ok.ensures.reads

pub returns-clause-reads : goal.returns-clause-reads
returns-clause-reads g c =
    notes_again (g.C.Cells.state c.args.cells.now) (g.C.Cells.state c.list_others.new.cells) (g.C.Cells.state c.read_left.new.cells) c.args.id c.in-Some.top c.in-Some.ensures.value
    (notes_and_paths (g.C.Cells.state c.args.cells.now) (g.C.Cells.state c.read_paths.new.cells) (g.C.Cells.state c.list_others.new.cells) c.args.id c.in-Some.top (g.C.Cells.state c.read_paths.new.cells).design.notes c.in-Some.ensures.value c.in_ok-paths.ensures.reads
    (ap (λ (d : Design). d.notes) c.in_ok-paths.ensures.reads.design) c.in_ok-others.ensures.reads)
    c.in-Ok.ensures.reads
