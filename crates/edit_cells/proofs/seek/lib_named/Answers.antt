use Rattle.std.proofs.Common.{sym, ap, ◌∙◌, None, List}
use Rattle.std.specs.Prelude.{position}
use Rattle.netlist_schema.specs.Types.{Lib}
use Rattle.edit_rules_spec.specs.Find.{is_name}
use Rattle.edit_cells.proofs.Places.{lib_place}
use Rattle.edit_cells.proofs.seek.lib_named.Goals as goal

pub returns-in-None-clause-value : goal.returns-in-None-clause-value
returns-in-None-clause-value c =
    sym (lib_place c.args.design.now c.args.name.now None
    (c.in-None.ensures ∙ ap (λ (libs : List Lib). position (λ lib. is_name lib.head.name.id c.args.name.now) libs) c.libs.ensures.value))
