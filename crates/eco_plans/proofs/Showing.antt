-- Showing a cell.
use Rattle.std.proofs.Common.{◌≡◌, ℕ, length, [], Option, Some, sym, ap, ◌∙◌}
use Rattle.std.specs.Prelude.{is_none}
use Rattle.std.specs.Option.{option_map, option_map_or}
use Rattle.netlist_schema.specs.Design.{Design, insts_in, nets_in}
use Rattle.netlist_schema.specs.Types.{CellId, Contents}
use Rattle.edit_rules_spec.specs.Find.{cell_named}
use Rattle.edit_rules_spec.specs.Reading.{IsForCell, IsForName}
use Rattle.edit_rules_spec.specs.Rule.{Outcome}
use Rattle.edit_rules_spec.specs.Seen.{contents_at, ports_seen}
use Rattle.edit_rules_spec.specs.Objects.{face_at}
use Rattle.edit_rules_spec.specs.declared.reply.CellName.{CellName}
use Rattle.edit_spec.specs.declared.ops.Op.TheVariants.{ShowCell}
use Rattle.edit_rules_spec.specs.declared.reply.Reply.{Reply}
use Rattle.edit_rules_spec.specs.declared.reply.Reply.TheVariants.{Cell}
use Rattle.edit_cells.specs.Parts.{IsFace, IsInside, seen_at, shown_by}
use Rattle.edit_cells.specs.State.{State, HasRead}
use Rattle.edit_cells.specs.declared.face.Face.{Face}
use Rattle.eco_reads.specs.Done.{IsDone}
use Rattle.eco_plans.proofs.Planned.{ports_are, show_cell_comes}
use Rattle.eco_reads.proofs.Reading.{done_read, face_needs, inside_needs, read_then}

pub show_cell_done : (s t u v : State) (name : CellName) (id : CellId) (face : Option Face) (contents : Option Contents) (ports : ℕ) (reply : Reply) → cell_named s.design name ≡ Some id → HasRead s t (IsForName s.design name) → HasRead t u (IsFace id) → option_map shown_by face ≡ seen_at t.design id → ports ≡ option_map_or (λ seen. length seen.ports.now) face 0 → HasRead u v (IsInside id) → contents ≡ contents_at u.design id → reply ≡ Cell ports (length (insts_in contents)) (length (nets_in contents)) (is_none contents) → IsDone s v (ShowCell name) reply
show_cell_done s t u v name id face contents ports reply named first second seen count third inside is =
    done_read s v (ShowCell name) reply (IsForCell s.design name)
    (read_then s u v _ _ _ (read_then s t u _ _ _ first second (λ o. face_needs s.design name id o named)) third (λ o. inside_needs s.design name id o named))
    (λ o. (λ x. x, λ x. x))
    (show_cell_comes s.design name id named ∙ sym (λ i. let out : Outcome = record { reply = whole i; edits = [] } in out))
  where
    ports_is : ports ≡ option_map_or length (ports_seen (face_at s.design id)) 0
    ports_is = count ∙ ports_are face _ (seen ∙ ap (λ (d : Design). seen_at d id) first.design)

    inside_is : contents ≡ contents_at s.design id
    inside_is = inside ∙ ap (λ (d : Design). contents_at d id) (second.design ∙ first.design)

    whole : reply ≡ Cell (option_map_or length (ports_seen (face_at s.design id)) 0) (length (insts_in (contents_at s.design id))) (length (nets_in (contents_at s.design id))) (is_none (contents_at s.design id))
    whole = is ∙ (λ i. Cell (ports_is i) (length (insts_in (inside_is i))) (length (nets_in (inside_is i))) (is_none (inside_is i)))
