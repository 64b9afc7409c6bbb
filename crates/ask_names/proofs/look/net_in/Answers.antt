use Rattle.std.proofs.Common.{[], List, Option, ap, map, sym, ◌∙◌}
use Rattle.std.specs.Option.{option_map_or}
use Rattle.netlist_schema.specs.Design.{nets_of}
use Rattle.netlist_schema.specs.Types.{CellBody, Net}
use Rattle.edit_rules_spec.specs.Find.{net_place}
use Rattle.ask_names.proofs.OrderLemmas.{in_order_as}
use Rattle.ask_names.proofs.look.net_in.Goals as goal

pub place_in-requires : goal.place_in-requires
place_in-requires g c = in_order_as _ _ _ _ (ap (λ (v : List Net). map (λ (x : Net). x.name.id) v) (sym c.nets_at.ensures.value)) (sym c.as_slice.ensures.value) c.in-Some.ensures.nets

pub returns-in-Some : goal.returns-in-Some
returns-in-Some g c = c.place_in.ensures ∙ ap (net_place c.args.name.now) c.nets_at.ensures.value

pub returns-in-None : goal.returns-in-None
returns-in-None g c = sym (ap (λ (o : Option CellBody). net_place c.args.name.now (option_map_or nets_of o [])) c.in-None.ensures)
