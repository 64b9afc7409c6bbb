use Rattle.std.proofs.Common.{List, sym, ap, subst, ◌∙◌}
use Rattle.netlist_schema.specs.Design.{Design}
use Rattle.netlist_schema.specs.Types.{Lib}
use Rattle.netlist_schema.specs.Valid.{IsValid}
use Rattle.cell_puts.proofs.in_place.put_parts.Goals as goal

pub of-requires-2 : goal.of-requires-2
of-requires-2 c = subst (λ (libs : List Lib). IsValid (record { title = c.args.title; libs = libs; top = c.args.top; notes = c.args.notes })) (sym c.of.ensures) c.requires

pub returns : goal.returns
returns c = c.of-2.ensures ∙ ap (λ (libs : List Lib). (let d : Design = record { title = c.args.title; libs = libs; top = c.args.top; notes = c.args.notes } in d)) c.of.ensures
