use Rattle.std.proofs.Common.{◌≡◌, List, ap, sym, subst, ◌∙◌}
use Rattle.std.specs.Arc.{arc_value}
use Rattle.netlist_schema.specs.Design.{Design}
use Rattle.netlist_schema.specs.Types.{Note}
use Rattle.netlist_schema.specs.declared.ids.Object.TheVariants.{Notes}
use Rattle.db_work.specs.Becomes.{IsNearer}
use Rattle.db_work.proofs.Becoming.{notes_brought}
use Rattle.db_draft.specs.Drafts.{Drafted}
use Rattle.db_work.proofs.work.Work.bring_notes.Goals as goal

pub returns : goal.returns
returns c = λ target near.
    let m = c.args.moved.now.design in
    let notes : arc_value c.in_ok-notes.notes ≡ c.args.self.now.design.notes = c.in_ok-notes.ensures ∙ ap (λ (d : Design). d.notes) c.draft.ensures in
    subst (λ (f : Drafted). IsNearer c.args.self.now target m f.design Notes) (sym c.set_notes.ensures)
    (subst (λ (ns : List Note). IsNearer c.args.self.now target m (record m { notes = ns }) Notes) (sym notes) (notes_brought c.args.self.now target m near c.requires.written))
