use Rattle.std.proofs.Common.{◌≡◌, sym, ap, subst, ◌∙◌}
use Rattle.netlist_schema.specs.Valid.{IsValid}
use Rattle.edit_spec.specs.Needs.{Reads}
use Rattle.edit_rules_spec.specs.Objects.{AgreesOn, Grown}
use Rattle.edit_spec.specs.Step.{run}
use Rattle.edit_tx.specs.Facts.{TxFacts}
use Rattle.edit_tx.proofs.Merging.{merges}
use Rattle.db_work.specs.Becomes.{CanBecome}
use Rattle.db_version.specs.Shot.{Shot}
use Rattle.edit_tx.proofs.tx.Tx.merged.Goals as goal
use Rattle.edit_tx.proofs.tx.Tx.merged.Goals.{After-design_is_valid-2}

-- the run on the later version is what the work can become there
can : (c : After-design_is_valid-2) → CanBecome c.args.head.now.design c.self.inside.work (run c.args.head.now.design c.self.inside.ops).design
can c =
    let tried = c.self.invariant.tried in
    let valid : IsValid c.self.inside.pin.design = subst (λ (x : Shot). IsValid x.design) c.snapshot_ref.ensures c.design_is_valid.ensures in
    merges c.self.inside.pin.design c.args.head.now.design c.self.inside.ops c.self.inside.work valid c.design_is_valid-2.ensures tried.typed
    (subst (λ (f : TxFacts). Grown f.pin.design c.args.head.now.design) (sym c.self.view_is) c.requires.grown)
    (subst (λ (f : TxFacts). AgreesOn f.pin.design c.args.head.now.design (Reads f.pin.design f.ops)) (sym c.self.view_is) c.requires.agree)
    c.self.invariant.design tried.written

pub onto-requires : goal.onto-requires
onto-requires c = ((run c.args.head.now.design c.self.inside.ops).design, can c)

pub returns : goal.returns
returns c =
    let made : c.in_ok-made.made ≡ (run c.args.head.now.design c.self.inside.ops).design = c.in_ok-made.ensures (run c.args.head.now.design c.self.inside.ops).design (can (goal.at.returns c).After-design_is_valid-2) in
    c.of.ensures ∙ λ i. record {
      version = c.args.version;
      design = (c.in_ok-new.ensures.ok ∙ (made ∙ ap (λ (f : TxFacts). (run c.args.head.now.design f.ops).design) c.self.view_is)) i;
    }
