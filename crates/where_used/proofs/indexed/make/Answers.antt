use Rattle.std.proofs.Common.{◌≡◌, refl, sym, ap, ◌∙◌, Ok, Err}
use Rattle.std.specs.Prelude.{Result, OnErr, OnOk}
use Rattle.netlist_schema.specs.Design.{Design}
use Rattle.edit_rules_spec.specs.Edit.{edited}
use Rattle.edit_cells.specs.Change.{edits_of}
use Rattle.used_spec.specs.Uses.{uses}
use Rattle.where_used.proofs.indexed.make.Goals as goal

-- either way the uses stay
either : {T E : Type 0} (r : Result T E) (d made new : Design) → OnOk r (new ≡ made) → OnErr r (new ≡ d) → uses made ≡ uses d → uses d ≡ uses new
either (Ok x) d made new ok err same = sym same ∙ ap uses (sym ok)
either (Err e) d made new ok err same = ap uses (sym err)

pub returns-then-keeps_uses-clause-index : goal.returns-then-keeps_uses-clause-index
returns-then-keeps_uses-clause-index c =
    let d = c.args.pair.now.design in
    c.requires.index
    ∙ either c.put_in_place.result d (edited d (edits_of d c.args.change)) c.put_in_place.new.design c.put_in_place.ensures.ok c.put_in_place.ensures.err (c.if-keeps_uses.ensures refl)
