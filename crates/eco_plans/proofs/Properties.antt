-- Properties that are planned.
use Rattle.std.proofs.Common.{arith, ◌≡◌, ◌<◌, ℕ, List, [], ◌∷◌, length, get_or, Option, Some, None, refl, sym, ap, subst, ◌∙◌}
use Rattle.std.specs.Prelude.{Ok, slice_set}
use Rattle.std.specs.Option.{option_map_or}
use Rattle.netlist_schema.specs.Types.{Contents, Inst, Net, Property}
use Rattle.edit_rules_spec.specs.Edit.{changed_at}
use Rattle.edit_rules_spec.specs.Find.{inst_place, net_place}
use Rattle.edit_rules_spec.specs.Rule.{first, no_inst}
use Rattle.edit_spec.specs.Inside.{no_net}
use Rattle.edit_spec.specs.SetProp.{insts_with_property, nets_with_property, set_property}
use Rattle.edit_rules_spec.specs.declared.reply.Reply.TheVariants.{NoInst}
use Rattle.edit_cells.proofs.Patches.{changed_at_place}
use Rattle.eco_plans.proofs.NetsPlanned.{net_found}
use Rattle.eco_reads.specs.declared.plan.Plan.TheVariants.{Net as PlannedNet, Inst as PlannedInst}
use Rattle.eco_reads.proofs.Within.{put_within}
use Rattle.eco_reads.specs.Plan.{IsPlanned}
use Rattle.eco_plans.specs.Props.{insts_set, nets_set}

pub no_inst_found : (contents : Option Contents) (c : Contents) (inst : List ℕ) → contents ≡ Some c → inst_place inst c.insts ≡ None → first (no_inst contents inst ∷ []) ≡ Some NoInst
no_inst_found contents c inst is none = rw (is, none) refl

pub inst_found : (contents : Option Contents) (c : Contents) (inst : List ℕ) (place : ℕ) → contents ≡ Some c → inst_place inst c.insts ≡ Some place → first (no_inst contents inst ∷ []) ≡ None
inst_found contents c inst place is found = rw (is, found) refl

-- an item that is set is an item that is changed
pub inst_set : (insts : List Inst) (inst : List ℕ) (property : Property) (place : ℕ) (d made : Inst) → inst_place inst insts ≡ Some place → place < length insts → made ≡ (let old = get_or insts place d in record old { properties = set_property property old.properties }) → slice_set insts place made ≡ insts_with_property inst property insts
inst_set insts inst property place d made found within is =
    changed_at_place (λ (i : Inst). record i { properties = set_property property i.properties }) insts place d made within is
    ∙ ap (λ (o : Option ℕ). option_map_or (λ p. changed_at (λ (i : Inst). record i { properties = set_property property i.properties }) p insts) o insts) (sym found)

pub net_set : (nets : List Net) (net : List ℕ) (property : Property) (place : ℕ) (d made : Net) → net_place net nets ≡ Some place → place < length nets → made ≡ (let old = get_or nets place d in record old { properties = set_property property old.properties }) → slice_set nets place made ≡ nets_with_property net property nets
net_set nets net property place d made found within is =
    changed_at_place (λ (i : Net). record i { properties = set_property property i.properties }) nets place d made within is
    ∙ ap (λ (o : Option ℕ). option_map_or (λ p. changed_at (λ (i : Net). record i { properties = set_property property i.properties }) p nets) o nets) (sym found)

pub inst_planned : (contents : Option Contents) (c : Contents) (inst : List ℕ) (property : Property) (place : ℕ) (d made : Inst) → contents ≡ Some c → inst_place inst c.insts ≡ Some place → place < length c.insts → made ≡ (let old = get_or c.insts place d in record old { properties = set_property property old.properties }) → IsPlanned contents (first (no_inst contents inst ∷ [])) (insts_set inst property contents) (Ok (PlannedInst place made))
inst_planned contents c inst property place d made is found within same =
    subst (λ (o : Option Contents). IsPlanned o (first (no_inst o inst ∷ [])) (insts_set inst property o) (Ok (PlannedInst place made))) (sym is) (
      refl,
      omega arith,
      inst_found (Some c) c inst place refl found,
      ap (λ (is : List Inst). let made_now : Contents = record { insts = is; nets = c.nets } in made_now) (put_within c.insts place made within ∙ inst_set c.insts inst property place d made found within same),
    )

pub net_planned : (contents : Option Contents) (c : Contents) (net : List ℕ) (property : Property) (place : ℕ) (d made : Net) → contents ≡ Some c → net_place net c.nets ≡ Some place → place < length c.nets → made ≡ (let old = get_or c.nets place d in record old { properties = set_property property old.properties }) → IsPlanned contents (first (no_net contents net ∷ [])) (nets_set net property contents) (Ok (PlannedNet place made))
net_planned contents c net property place d made is found within same =
    subst (λ (o : Option Contents). IsPlanned o (first (no_net o net ∷ [])) (nets_set net property o) (Ok (PlannedNet place made))) (sym is) (
      refl,
      omega arith,
      net_found (Some c) c net place refl found,
      ap (λ (ns : List Net). let made_now : Contents = record { insts = c.insts; nets = ns } in made_now) (put_within c.nets place made within ∙ net_set c.nets net property place d made found within same),
    )
