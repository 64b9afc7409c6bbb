-- Nets that are planned.
use Rattle.std.proofs.Common.{◌≡◌, ◌<◌, ◌≤◌, ℕ, false, List, [], ◌∷◌, length, Option, Some, None, refl, sym, ap, subst, ◌∙◌}
use Rattle.std.specs.List.{list_any}
use Rattle.std.proofs.lemmas.Bool.{le-leb, lt-leb}
use Rattle.netlist_schema.specs.Design.{insts_in, nets_in}
use Rattle.netlist_schema.specs.Types.{Contents, Net}
use Rattle.edit_rules_spec.specs.Find.{is_same}
use Rattle.edit_rules_spec.specs.Rule.{first}
use Rattle.edit_spec.specs.AddNet.{no_new_net, with_net}
use Rattle.edit_spec.specs.Inside.{no_net}
use Rattle.edit_rules_spec.specs.declared.reply.Reply.TheVariants.{TooMany}
use Rattle.std.proofs.Common.{◌≡◌, ◌<◌, ◌++◌, false, length, arith, sym, ap, subst, ℕ, List, [], ◌∷◌, Option, Some, None, refl, ◌∙◌}
use Rattle.std.specs.Prelude.{Ok}
use Rattle.edit_rules_spec.specs.Find.{is_same}
use Rattle.netlist_schema.specs.Design.{insts_in, nets_in}
use Rattle.edit_rules_spec.specs.Find.{net_place}
use Rattle.netlist_schema.specs.Types.{Contents}
use Rattle.edit_rules_spec.specs.Rule.{first}
use Rattle.edit_spec.specs.AddNet.{new_net, no_new_net, with_net}
use Rattle.edit_spec.specs.Inside.{no_net}
use Rattle.edit_rules_spec.specs.declared.reply.Reply.TheVariants.{NoNet}
use Rattle.eco_reads.specs.declared.plan.Plan.TheVariants.{Net as PlannedNet}
use Rattle.eco_reads.proofs.Within.{put_last}
use Rattle.eco_reads.specs.Plan.{IsPlanned}

pub too_many_nets : (contents : Option Contents) (c : Contents) (name : List ℕ) → contents ≡ Some c → list_any (λ net. is_same net.name.id name) c.nets ≡ false → 1048576 ≤ length c.nets → first (no_new_net contents name) ≡ Some (TooMany 1048576)
too_many_nets contents c name is free many =
    let full = le-leb 1048576 (length c.nets) many in
    rw (is, free, full) refl

pub room_for_net : (contents : Option Contents) (c : Contents) (name : List ℕ) → contents ≡ Some c → list_any (λ net. is_same net.name.id name) c.nets ≡ false → length c.nets < 1048576 → first (no_new_net contents name) ≡ None
room_for_net contents c name is free few =
    let room = lt-leb 1048576 (length c.nets) few in
    rw (is, free, room) refl

abbrev pub more_nets : List ℕ → Option Contents → Contents
more_nets net c = record { insts = insts_in c; nets = with_net net (nets_in c) }

pub no_net_found : (contents : Option Contents) (c : Contents) (net : List ℕ) → contents ≡ Some c → net_place net c.nets ≡ None → first (no_net contents net ∷ []) ≡ Some NoNet
no_net_found contents c net is none = rw (is, none) refl

pub net_found : (contents : Option Contents) (c : Contents) (net : List ℕ) (place : ℕ) → contents ≡ Some c → net_place net c.nets ≡ Some place → first (no_net contents net ∷ []) ≡ None
net_found contents c net place is found = rw (is, found) refl

pub net_planned : (contents : Option Contents) (c : Contents) (name : List ℕ) (place : ℕ) (made : Net) → contents ≡ Some c → list_any (λ net. is_same net.name.id name) c.nets ≡ false → place ≡ length c.nets → place < 1048576 → made ≡ new_net name → IsPlanned contents (first (no_new_net contents name)) (more_nets name contents) (Ok (PlannedNet place made))
net_planned contents c name place made is free at few same =
    subst (λ (o : Option Contents). IsPlanned o (first (no_new_net o name)) (more_nets name o) (Ok (PlannedNet place made))) (sym is) (
      refl,
      omega arith,
      room_for_net (Some c) c name refl free (omega arith),
      ap (λ (ns : List Net). let made_now : Contents = record { insts = c.insts; nets = ns } in made_now) (put_last c.nets place made at ∙ ap (λ (n : Net). c.nets ++ n ∷ []) same),
    )
