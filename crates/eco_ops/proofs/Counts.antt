-- How many ends there are, and ports that are not there.
use Rattle.std.proofs.Common.{◌≡◌, ◌+◌, ℕ, List, [], ◌∷◌, length, length-append, Option, Some, None, refl, sym, ap, ◌∙◌}
use Rattle.std.specs.List.{flat_map}
use Rattle.std.specs.Prelude.{is_none, slice_get}
use Rattle.std.specs.Option.{option_and_then, option_map, option_or}
use Rattle.netlist_schema.specs.Design.{port_width}
use Rattle.netlist_schema.specs.Types.{Net, Port}
use Rattle.netlist_schema.proofs.Lists.{get_there}
use Rattle.edit_spec.specs.Ends.{bad_bit, no_port}
use Rattle.edit_rules_spec.specs.Rule.{first, refuse}
use Rattle.edit_rules_spec.specs.Find.{port_named, port_place}
use Rattle.edit_rules_spec.specs.declared.reply.Reply.TheVariants.{NoPort}
use Rattle.eco_ops.specs.Ends.{PortSeen, port_in}
use Rattle.eco_reads.proofs.Within.{place_within}

-- the ends of the next net, and of those behind it
pub ends_left : (left rest : List Net) (net : Net) → left ≡ net ∷ rest → length (flat_map (λ (n : Net). n.ends) left) ≡ length net.ends + length (flat_map (λ (n : Net). n.ends) rest)
ends_left left rest net is = ap (λ (nets : List Net). length (flat_map (λ (n : Net). n.ends) nets)) is ∙ length-append net.ends (flat_map (λ (n : Net). n.ends) rest)

no_place : (name : List ℕ) (ports : List Port) → port_in name ports ≡ None → port_place name ports ≡ None
no_place name ports none = at (port_place name ports) refl none
  where
    at : (place : Option ℕ) → place ≡ port_place name ports → option_and_then (λ k. option_map (λ (port : Port). let p : PortSeen = record { place = k; width = port_width port } in p) (port_named name ports)) place ≡ None → port_place name ports ≡ None
    at None is never = sym is
    at (Some k) is never =
        let there = get_there ports k (place_within (λ (port : Port). port.name.id) name ports (Some k) is) in
        let named : port_named name ports ≡ Some there.0 = ap (option_and_then (slice_get ports)) (sym is) ∙ there.1 in
        let some : option_map (λ (port : Port). let p : PortSeen = record { place = k; width = port_width port } in p) (port_named name ports) ≡ Some (record { place = k; width = port_width there.0 }) =
        ap (option_map (λ (port : Port). let p : PortSeen = record { place = k; width = port_width port } in p)) named in
        let both = sym some ∙ never in cc

pub no_port_there : (ports : Option (List Port)) (name : List ℕ) (bit : ℕ) → option_and_then (port_in name) ports ≡ None → first (no_port ports name ∷ bad_bit ports name bit ∷ []) ≡ Some NoPort
no_port_there None name bit none = refl
no_port_there (Some ports) name bit none =
    ap (λ (place : Option ℕ). option_or (refuse (is_none place) NoPort) (first (bad_bit (Some ports) name bit ∷ []))) (no_place name ports none)
