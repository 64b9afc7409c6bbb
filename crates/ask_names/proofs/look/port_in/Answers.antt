use Rattle.std.proofs.Common.{[], List, Option, ap, map, sym, ◌∙◌}
use Rattle.std.specs.Option.{option_map_or}
use Rattle.netlist_schema.specs.Types.{CellBody, Port}
use Rattle.edit_rules_spec.specs.Find.{port_place}
use Rattle.ask_names.proofs.OrderLemmas.{in_order_as}
use Rattle.ask_names.proofs.look.port_in.Goals as goal

pub place_in-requires : goal.place_in-requires
place_in-requires g c = in_order_as _ _ _ _ (ap (λ (v : List Port). map (λ (x : Port). x.name.id) v) (sym c.ports_at.ensures.value)) (sym c.as_slice.ensures.value) c.in-Some.ensures.ports

pub returns-in-Some : goal.returns-in-Some
returns-in-Some g c = c.place_in.ensures ∙ ap (port_place c.args.name.now) c.ports_at.ensures.value

pub returns-in-None : goal.returns-in-None
returns-in-None g c = sym (ap (λ (o : Option CellBody). port_place c.args.name.now (option_map_or (λ (body : CellBody). body.ports) o [])) c.in-None.ensures)
