use Rattle.std.proofs.Common.{subst, sym}
use Rattle.flat_items.specs.Lent.{item_of}
use Rattle.netdb_view.specs.Fields.{Adds, field_text}
use Rattle.netdb_view.specs.declared.fields.Field.{Field}
use Rattle.netdb_view.proofs.fields.item_field.Goals as goal

pub returns-in-Bit : goal.returns-in-Bit
returns-in-Bit g c =
    let d = g.S.Shown.design c.args.design.now in
    subst (λ (which : Field). Adds (field_text d (item_of c.args.item) which) c.args.out.now.items c.add_bit.new.out.items c.add_bit.result)
    (sym c.in-Bit.is) (c.add_bit.ensures d)
