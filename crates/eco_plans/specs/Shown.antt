-- The ends of a net as they are looked up one by one.
use Rattle.std.specs.Prelude.{◌≡◌, ◌⊎◌, ℕ, List, [], ◌∷◌, Option, Some, None, option_map, option_and_then, option_to_list, slice_get}
use Rattle.std.specs.List.{flat_map}
use Rattle.netlist_schema.specs.Design.{Design, insts_in}
use Rattle.netlist_schema.specs.Types.{CellId, Contents, End, Inst, Object}
use Rattle.edit_rules_spec.specs.Objects.{face_at, face_object}
use Rattle.edit_rules_spec.specs.Seen.{ports_seen}
use Rattle.edit_rules_spec.specs.declared.reply.EndName.{EndName}
use Rattle.eco_plans.specs.declared.show_plans.EndAt.{EndAt}

-- an end with the name of its instance, where it is at one, and the cell whose port it is at
pub record EndSeen : Type 0 where
  pub port : ℕ
  pub bit : ℕ
  pub inst : Option (List ℕ)
  pub of : CellId

abbrev pub seen_end : EndAt → EndSeen
seen_end at = record { port = at.port; bit = at.bit; inst = at.inst; of = at.of }

abbrev pub end_seen_at : End → Option Inst → Option EndSeen
end_seen_at end found = option_map (λ inst. record { port = end.port; bit = end.bit; inst = Some inst.name.id; of = inst.of }) found

abbrev pub end_seen : Option Contents → CellId → End → Option ℕ → Option EndSeen
end_seen contents id end None = Some (record { port = end.port; bit = end.bit; inst = None; of = id })
end_seen contents id end (Some place) = end_seen_at end (slice_get (insts_in contents) place)

abbrev pub ends_seen : Option Contents → CellId → List End → List EndSeen
ends_seen contents id ends = flat_map (λ end. option_to_list (end_seen contents id end end.inst)) ends

-- its name in a design
abbrev pub seen_name : Design → EndSeen → Option EndName
seen_name d seen =
    option_map (λ port. record { inst = seen.inst; port = port.name.id; bit = seen.bit }) (option_and_then (λ ports. slice_get ports seen.port) (ports_seen (face_at d seen.of)))

-- what is seen of the cells of these
abbrev pub AreFacesOf : List EndSeen → Object → Type 0
AreFacesOf [] o = ⊥
AreFacesOf (seen ∷ rest) o = (o ≡ face_object seen.of) ⊎ AreFacesOf rest o
