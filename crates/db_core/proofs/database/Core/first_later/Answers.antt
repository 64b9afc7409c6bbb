use Rattle.std.proofs.Common.{◌≡◌, ◌↔◌, ℕ, List, Option, Some, None, ap, sym, subst, ◌∙◌, Contains}
use Rattle.std.specs.Prelude.{IfSome}
use Rattle.netlist_schema.specs.Design.{Design}
use Rattle.netlist_schema.specs.Types.{Object}
use Rattle.edit_spec.specs.Needs.{Reads}
use Rattle.edit_tx.specs.Facts.{PinFacts}
use Rattle.conflict_check.specs.Commits.{HasNoLater, IsFirstLater}
use Rattle.conflict_check.specs.declared.stamps.Later.{Later}
use Rattle.db_spec.specs.State.{design}
use Rattle.db_spec.specs.Answers.{IsConflict}
use Rattle.db_core.specs.Story.{Story, state}
use Rattle.db_core.specs.Inside.{IsStamped}
use Rattle.db_core.proofs.Commits.{conflict_found, none_found}
use Rattle.db_core.proofs.database.Core.first_later.Goals as goal
use Rattle.db_core.proofs.database.Core.first_later.Goals.{After-first_later}

stamped : (c : After-first_later) → IsStamped (state c.args.self.now) c.self.inside.stamps
stamped c = subst (λ (st : Story). IsStamped (state st) c.self.inside.stamps) c.self.view_is c.self.invariant.stands.stamped

same : (c : After-first_later) → (o : Object) → Contains c.reads.result.now o ↔ Reads (design (state c.args.self.now) c.args.tx.now.pin.version) c.args.tx.now.ops o
same c o =
    let tried = c.reads.ensures.tried in
    subst (λ (xs : List Object). Contains xs o ↔ Reads (design (state c.args.self.now) c.args.tx.now.pin.version) c.args.tx.now.ops o) (sym c.reads.ensures.value)
    (subst (λ (d : Design). Contains c.args.tx.now.reads o ↔ Reads d c.args.tx.now.ops o) c.requires.design (tried.reads o))

version_is : (c : After-first_later) → c.version.result ≡ c.args.tx.now.pin.version
version_is c = c.version.ensures ∙ ap (λ (p : PinFacts). p.version) c.pin.ensures

pub returns-clause-none : goal.returns-clause-none
returns-clause-none c = λ none.
    none_found (state c.args.self.now) c.self.inside.stamps c.args.tx.now.pin.version c.args.tx.now.ops c.reads.result.now (stamped c) (same c)
    (subst (λ (v : ℕ). HasNoLater c.self.inside.stamps c.reads.result.now v) (version_is c) (c.first_later.ensures.none.0 none))

found : (c : After-first_later) (later : Option Later) → IfSome later (IsFirstLater c.self.inside.stamps c.reads.result.now c.version.result)
    → IfSome later (λ l. IsConflict (state c.args.self.now) c.args.tx.now.pin.version c.args.tx.now.ops l.object l.version)
found c None is = tt
found c (Some l) is =
    conflict_found (state c.args.self.now) c.self.inside.stamps c.args.tx.now.pin.version c.args.tx.now.ops c.reads.result.now l (stamped c) (same c)
    (subst (λ (v : ℕ). IsFirstLater c.self.inside.stamps c.reads.result.now v l) (version_is c) is)

pub returns-clause-some : goal.returns-clause-some
returns-clause-some c = found c c.first_later.result c.first_later.ensures.first
