use Rattle.std.proofs.Common.{◌≡◌, sym, subst, ◌∙◌}
use Rattle.netlist_schema.specs.Types.{LibId}
use Rattle.netlist_schema.specs.declared.ids.Object.TheVariants.{Directory}
use Rattle.db_work.specs.Becomes.{HasTargetNames}
use Rattle.db_work.proofs.Becoming.{fuller_none}
use Rattle.db_draft.proofs.Drafting.{on_ok}
use Rattle.db_work.proofs.work.Work.add_for.Goals as goal

pub returns-in-Directory : goal.returns-in-Directory
returns-in-Directory c =
    on_ok c.add_behind.result _ _
    (λ adds target behind.
    let after = adds target behind in (
      after.0,
      λ lib is.
          let both : Directory c.in-Directory.lib ≡ Directory lib = sym c.in-Directory.is ∙ is in
          let same : c.in-Directory.lib ≡ lib = cc in
          subst (λ (l : LibId). HasTargetNames target c.add_behind.new.moved.design l) same after.1,
    ))
    c.add_behind.ensures

pub returns-in_default : goal.returns-in_default
returns-in_default c = λ target behind. (fuller_none c.args.self.now target c.args.moved.now.design behind, λ lib is. absurd (c.in_default.not-Directory lib is))
