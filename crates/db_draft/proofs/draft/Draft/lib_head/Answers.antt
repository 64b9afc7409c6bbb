use Rattle.std.proofs.Common.{ap, ◌∙◌, option_map}
use Rattle.netlist_schema.specs.Design.{lib_at}
use Rattle.db_draft.specs.Drafts.{Drafted}
use Rattle.db_draft.proofs.Works.{head_laid}
use Rattle.db_draft.proofs.draft.Draft.lib_head.Goals as goal

pub returns : goal.returns
returns c =
    let w = c.self.inside in
    c.lib.ensures ∙ head_laid _ w.base.design.libs c.args.lib.0
    ∙ ap (λ (f : Drafted). option_map (λ l. l.head) (lib_at f.design c.args.lib)) c.self.view_is
