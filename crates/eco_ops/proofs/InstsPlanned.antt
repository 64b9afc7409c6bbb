-- Instances that are planned.
use Rattle.std.proofs.Common.{◌++◌, arith, ◌≡◌, ◌<◌, ◌≤◌, ℕ, Bool, false, List, [], ◌∷◌, length, Option, Some, None, refl, sym, ap, subst, ◌∙◌}
use Rattle.std.specs.Prelude.{Ok}
use Rattle.std.specs.List.{list_any}
use Rattle.std.proofs.lemmas.Bool.{le-leb, lt-leb}
use Rattle.netlist_schema.specs.Types.{CellId, Contents, Inst}
use Rattle.edit_rules_spec.specs.Find.{is_same}
use Rattle.edit_rules_spec.specs.Rule.{first}
use Rattle.edit_spec.specs.AddInst.{new_inst, no_new_inst}
use Rattle.edit_rules_spec.specs.declared.reply.Reply.TheVariants.{TooMany}
use Rattle.eco_reads.specs.declared.plan.Plan.TheVariants.{Inst as PlannedInst}
use Rattle.eco_reads.proofs.Within.{put_last}
use Rattle.eco_ops.specs.Insts.{more_insts}
use Rattle.eco_reads.specs.Plan.{IsPlanned}

pub too_many_insts : (contents : Option Contents) (c : Contents) (name : List ℕ) (later cyclic : Bool) → contents ≡ Some c → list_any (λ inst. is_same inst.name.id name) c.insts ≡ false → later ≡ false → cyclic ≡ false → 1048576 ≤ length c.insts → first (no_new_inst contents name later cyclic) ≡ Some (TooMany 1048576)
too_many_insts contents c name later cyclic is free early acyclic many =
    let full = le-leb 1048576 (length c.insts) many in
    rw (is, free, early, acyclic, full) refl

pub room_for_inst : (contents : Option Contents) (c : Contents) (name : List ℕ) (later cyclic : Bool) → contents ≡ Some c → list_any (λ inst. is_same inst.name.id name) c.insts ≡ false → later ≡ false → cyclic ≡ false → length c.insts < 1048576 → first (no_new_inst contents name later cyclic) ≡ None
room_for_inst contents c name later cyclic is free early acyclic few =
    let room = lt-leb 1048576 (length c.insts) few in
    rw (is, free, early, acyclic, room) refl

pub inst_planned : (contents : Option Contents) (c : Contents) (name : List ℕ) (of : CellId) (later cyclic : Bool) (place : ℕ) (made : Inst) → contents ≡ Some c → list_any (λ inst. is_same inst.name.id name) c.insts ≡ false → later ≡ false → cyclic ≡ false → place ≡ length c.insts → place < 1048576 → made ≡ new_inst name of → IsPlanned contents (first (no_new_inst contents name later cyclic)) (more_insts name of contents) (Ok (PlannedInst place made))
inst_planned contents c name of later cyclic place made is free early acyclic at few same =
    subst (λ (o : Option Contents). IsPlanned o (first (no_new_inst o name later cyclic)) (more_insts name of o) (Ok (PlannedInst place made))) (sym is) (
      refl,
      omega arith,
      room_for_inst (Some c) c name later cyclic refl free early acyclic (omega arith),
      ap (λ (is : List Inst). let made_now : Contents = record { insts = is; nets = c.nets } in made_now) (put_last c.insts place made at ∙ ap (λ (i : Inst). c.insts ++ i ∷ []) same),
    )
