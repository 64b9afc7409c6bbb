-- Adding a net and removing one.
use Rattle.std.proofs.Common.{◌≡◌, ℕ, List, [], ◌∷◌, Option, Some, None, ◌∙◌}
use Rattle.std.specs.Prelude.{Result, MatchResult}
use Rattle.netlist_schema.specs.Design.{Design, insts_in, nets_in}
use Rattle.edit_rules_spec.specs.Edit.{inner}
use Rattle.edit_rules_spec.specs.Find.{cell_named}
use Rattle.netlist_schema.specs.Types.{CellId, Contents}
use Rattle.netlist_schema.specs.Valid.{IsValid}
use Rattle.edit_rules_spec.specs.Seen.{contents_at, inside, named}
use Rattle.edit_rules_spec.specs.Rule.{first, unless}
use Rattle.edit_spec.specs.AddNet.{no_new_net}
use Rattle.edit_spec.specs.DropNet.{without_net}
use Rattle.edit_spec.specs.Inside.{no_net, set_nets}
use Rattle.edit_spec.specs.Rows.{outcome}
use Rattle.edit_spec.specs.Typed.{IsTypedOp}
use Rattle.edit_rules_spec.specs.declared.reply.CellName.{CellName}
use Rattle.edit_spec.specs.declared.ops.Op.TheVariants.{AddNet, DropNet}
use Rattle.edit_rules_spec.specs.declared.reply.Reply.{Reply}
use Rattle.edit_rules_spec.specs.declared.reply.Reply.TheVariants.{Done}
use Rattle.edit_cells.specs.State.{State}
use Rattle.eco_plans.proofs.NetsPlanned.{more_nets}
use Rattle.eco_reads.specs.declared.plan.Plan.{Plan}
use Rattle.eco_reads.specs.Done.{IsDoneOrFails}
use Rattle.eco_reads.specs.Plan.{CanBePut, IsPlanned, IsPut}
use Rattle.eco_plans.proofs.Planned.{add_net_comes, set_nets_is}
use Rattle.eco_reads.proofs.Found.{found_row, inside_is}
use Rattle.eco_reads.proofs.Reading.{HasFound, inside_can, inside_done, inside_needs}

pub add_net_can : (s u : State) (name : CellName) (net : List ℕ) (id : CellId) (contents : Option Contents) (made : Result Plan Reply) → IsTypedOp (AddNet name net) → IsValid s.design → HasFound s u name id contents → IsPlanned contents (first (no_new_net contents net)) (more_nets net contents) made → CanBePut u.design id None made
add_net_can s u name net id contents made typed valid found planned =
    inside_can s u (AddNet name net) name id contents (λ c. first (no_new_net c net)) (more_nets net) made typed valid found (add_net_comes s.design name net id found.named) planned

pub add_net_done : {E : Type 0} (s u v : State) (name : CellName) (net : List ℕ) (id : CellId) (contents : Option Contents) (made : Result Plan Reply) (result : Result Reply E) → HasFound s u name id contents → IsPlanned contents (first (no_new_net contents net)) (more_nets net contents) made → MatchResult result (IsPut u v id None made) (λ _. v ≡ u) → IsDoneOrFails result s v (AddNet name net)
add_net_done s u v name net id contents made result found planned put =
    inside_done s u v (AddNet name net) name id contents (λ c. first (no_new_net c net)) (more_nets net) made result found (λ o. inside_needs s.design name id o found.named) (add_net_comes s.design name net id found.named) planned put

abbrev pub fewer_nets : List ℕ → Option Contents → Contents
fewer_nets net c = record { insts = insts_in c; nets = without_net net (nets_in c) }

pub drop_net_comes : (d : Design) (name : CellName) (net : List ℕ) (id : CellId) → cell_named d name ≡ Some id → outcome d (DropNet name net) ≡ unless (first (no_net (contents_at d id) net ∷ [])) Done (inner id (fewer_nets net (contents_at d id)) ∷ [])
drop_net_comes d name net id is =
    found_row d name id (no_net (inside d name) net ∷ []) Done (set_nets (named d name) (inside d name) (without_net net)) is
    ∙ (λ i. unless (first (no_net (inside_is d name id is i) net ∷ [])) Done (set_nets_is d name id (without_net net) is i))

pub drop_net_can : (s u : State) (name : CellName) (net : List ℕ) (id : CellId) (contents : Option Contents) (made : Result Plan Reply) → IsValid s.design → HasFound s u name id contents → IsPlanned contents (first (no_net contents net ∷ [])) (fewer_nets net contents) made → CanBePut u.design id None made
drop_net_can s u name net id contents made valid found planned =
    inside_can s u (DropNet name net) name id contents (λ c. first (no_net c net ∷ [])) (fewer_nets net) made tt valid found (drop_net_comes s.design name net id found.named) planned

pub drop_net_done : {E : Type 0} (s u v : State) (name : CellName) (net : List ℕ) (id : CellId) (contents : Option Contents) (made : Result Plan Reply) (result : Result Reply E) → HasFound s u name id contents → IsPlanned contents (first (no_net contents net ∷ [])) (fewer_nets net contents) made → MatchResult result (IsPut u v id None made) (λ _. v ≡ u) → IsDoneOrFails result s v (DropNet name net)
drop_net_done s u v name net id contents made result found planned put =
    inside_done s u v (DropNet name net) name id contents (λ c. first (no_net c net ∷ [])) (fewer_nets net) made result found (λ o. inside_needs s.design name id o found.named) (drop_net_comes s.design name net id found.named) planned put
