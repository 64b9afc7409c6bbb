use Rattle.std.proofs.Common.{◌≡◌, ◌∙◌, List, None, Option, Some, ap, false, is_none, is_some, option_and_then, refl, slice_get, sym, true}
use Rattle.std.proofs.lemmas.Bool.{false≢true, true≢false}
use Rattle.flat_spec.specs.Paths.{Bit}
use Rattle.netlist_schema.specs.Types.{Port}
use Rattle.net_rows.specs.Rows.{port_stands}
use Rattle.net_rows.proofs.RowLemmas.{block_bit, leaf_bit}
use Rattle.net_rows.proofs.leads.leads_in.Goals as goal

none_when : {A : Type 0} (o : Option A) → is_some o ≡ false → is_none o ≡ true
none_when None e = refl
none_when (Some x) e = absurd (true≢false e)

none_unless : {A : Type 0} (o : Option A) → is_some o ≡ true → is_none o ≡ false
none_unless None e = absurd (false≢true e)
none_unless (Some x) e = refl

pub returns-then-is_none : goal.returns-then-is_none
returns-then-is_none c =
    let b : Bit = record { port = c.args.joint.now.port; bit = c.args.joint.now.bit } in
    c.stands_as.ensures
    ∙ ap (port_stands c.args.role false) (c.direction_of.ensures ∙ ap (λ (ports : List Port). option_and_then (λ (p : Port). p.direction) (slice_get ports c.args.joint.now.port)) c.as_slice.ensures)
    ∙ sym (leaf_bit c.args.role c.args.classes.now c.args.rows.now c.args.of c.args.body.now b (none_when c.args.body.now.contents c.if-is_none.ensures))

pub returns : goal.returns
returns c =
    let b : Bit = record { port = c.args.joint.now.port; bit = c.args.joint.now.bit } in
    c.leads_inside.ensures ∙ sym (block_bit c.args.role c.args.classes.now c.args.rows.now c.args.of c.args.body.now b (none_unless c.args.body.now.contents c.if-is_none.ensures))
