use Rattle.std.proofs.Common.{◌≡◌, List, ◌++◌, ◌∷◌, [], sym, ap, ◌∙◌, Some, None, slice_get}
use Rattle.std.specs.Option.{option_copied}
use Rattle.std.specs.Borrow.{Bor}
use Rattle.std.proofs.lemmas.List.{map_push}
use Rattle.netlist_schema.specs.Types.{Property}
use Rattle.annot_view.specs.Lent.{lent}
use Rattle.flat_items.proofs.EnterLemmas.{none_noted, one_noted}
use Rattle.flat_items.proofs.noted.add_noted.Goals as goal

pub returns-in_default : goal.returns-in_default
returns-in_default c =
    let none : slice_get c.args.notes.now c.args.place ≡ None = sym c.note_at.ensures ∙ ap option_copied c.in_default.is in
    none_noted c.args.notes.now c.args.place (lent c.args.found.now.items) none

pub returns : goal.returns
returns c =
    let some : slice_get c.args.notes.now c.args.place ≡ Some c.in-Some.note.now = sym c.note_at.ensures ∙ ap option_copied c.in-Some.is in
    let pushed : lent c.push.new.self.items ≡ lent c.args.found.now.items ++ c.in-Some.note.now.property ∷ [] =
    ap (λ (v : List (Bor Property)). lent v) c.in_ok-push.ensures.items ∙ map_push (λ (r : Bor Property). r.now) c.args.found.now.items _ in
    one_noted c.args.notes.now c.args.place c.in-Some.note.now (lent c.args.found.now.items) (lent c.push.new.self.items) some pushed
