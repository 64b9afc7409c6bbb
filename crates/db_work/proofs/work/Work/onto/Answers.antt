use Rattle.std.proofs.Common.{◌≡◌, ap, sym, subst, ◌∙◌}
use Rattle.std.proofs.lemmas.Result.{IfOk-weaker}
use Rattle.netlist_schema.specs.Design.{Design}
use Rattle.netlist_schema.specs.Valid.{IsValid}
use Rattle.db_work.specs.Becomes.{AreNewMet, AreOldOrNew, CanBecome, IsBehind}
use Rattle.db_work.proofs.Becoming.{new_met, starts}
use Rattle.db_version.specs.Shot.{Shot}
use Rattle.db_draft.specs.Drafts.{Drafted}
use Rattle.db_work.proofs.work.Work.onto.Goals as goal
use Rattle.db_work.proofs.work.Work.onto.Goals.{In_ok-add_all, In_ok-moved}

-- the draft begins as the later version
begun : (c : In_ok-moved) (target : Design) → CanBecome c.args.head.now.design c.args.self.now target → IsBehind c.args.self.now target c.in_ok-moved.moved.design
begun c target can =
    let is : c.in_ok-moved.moved.design ≡ c.args.head.now.design = ap (λ (f : Drafted). f.design) c.in_ok-moved.ensures ∙ ap (λ (s : Shot). s.design) c.in_ok-share.ensures in
    subst (λ (d : Design). IsBehind c.args.self.now target d) (sym is) (starts c.args.head.now.design c.args.self.now target can)

pub add_all-requires : goal.add_all-requires
add_all-requires c = (c.requires.0, begun (goal.at.add_all-requires c).In_ok-moved c.requires.0 c.requires.1)

-- the cells that are added are as in the target
added : (c : In_ok-add_all) (target : Design) → IsBehind c.args.self.now target c.in_ok-moved.moved.design → AreNewMet c.args.head.now.design target c.add_all.new.moved.design
added c target behind =
    let is : c.in_ok-moved.moved.design ≡ c.args.head.now.design = ap (λ (f : Drafted). f.design) c.in_ok-moved.ensures ∙ ap (λ (s : Shot). s.design) c.in_ok-share.ensures in
    let made = c.in_ok-add_all.ensures target behind in
    new_met c.args.head.now.design target c.add_all.new.moved.design (subst (λ (d : Design). AreOldOrNew target d c.add_all.new.moved.design) is made.1) made.0.full

pub bring_all-requires : goal.bring_all-requires
bring_all-requires c =
    let at = goal.at.bring_all-requires c in
    let behind = begun at.In_ok-moved c.requires.0 c.requires.1 in
    (c.requires.0, (c.in_ok-add_all.ensures c.requires.0 behind).0, added at.In_ok-add_all c.requires.0 behind)

pub version-requires : goal.version-requires
version-requires c =
    let at = goal.at.version-requires c in
    let behind = begun at.In_ok-moved c.requires.0 c.requires.1 in
    subst IsValid (sym (c.in_ok-bring_all.ensures c.requires.0 (c.in_ok-add_all.ensures c.requires.0 behind).0 (added at.In_ok-add_all c.requires.0 behind))) c.requires.1.valid

pub returns : goal.returns
returns c =
    let at = goal.at.returns c in
    IfOk-weaker c.version.result _ _
    (λ made is target can.
    let behind = begun at.In_ok-moved target can in
    is ∙ c.in_ok-bring_all.ensures target (c.in_ok-add_all.ensures target behind).0 (added at.In_ok-add_all target behind))
    c.version.ensures
