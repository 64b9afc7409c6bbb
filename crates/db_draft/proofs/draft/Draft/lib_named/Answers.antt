use Rattle.std.proofs.Common.{ap, ◌∙◌}
use Rattle.netlist_schema.specs.Design.{Design}
use Rattle.edit_rules_spec.specs.Find.{lib_named}
use Rattle.db_draft.specs.Drafts.{Drafted, notes_of}
use Rattle.db_draft.proofs.Works.{lib_named_laid}
use Rattle.db_draft.proofs.draft.Draft.lib_named.Goals as goal

pub returns : goal.returns
returns c =
    let w = c.self.inside in
    c.lib_named.ensures.value ∙ ap (λ (d : Design). lib_named d c.args.name.now) c.parts.ensures
    ∙ lib_named_laid w.base.design _ (notes_of w) c.args.name.now
    ∙ ap (λ (f : Drafted). lib_named f.design c.args.name.now) c.self.view_is
