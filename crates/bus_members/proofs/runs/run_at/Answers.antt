use Rattle.std.proofs.Common.{◌≡◌, ℕ, Option, Some, drop, ap, ◌∙◌}
use Rattle.std.specs.Prelude.{option_map, unwrap_or}
use Rattle.netlist_schema.specs.Types.{CellBody}
use Rattle.bus_members.specs.Widths.{ports_among, width_from}
use Rattle.netlist_bus_spec.specs.Runs.{run_width}
use Rattle.bus_members.proofs.runs.run_at.Goals as goal

pub returns : goal.returns
returns g c =
    let F : Option CellBody → ℕ = λ o. unwrap_or (option_map (λ (body : CellBody). width_from (g.S.Shown.design c.args.design.now) body c.args.net) o) 1 in
    let own = c.as_slice.ensures in
    let insts = c.insts_of.ensures in
    let nets = c.nets_of-nets.ensures in
    let listed = c.nets_of-nets.result in
    let rest : c.iter_from.result ≡ drop c.args.net listed = c.iter_from.ensures in
    let same : c.run_from.result ≡ F (Some c.in-Some.body.now) = c.run_from.ensures ∙ (ap (run_width (ports_among (g.S.Shown.design c.args.design.now) c.as_slice.result.now c.insts_of.result)) rest
    ∙ (λ j. run_width (ports_among (g.S.Shown.design c.args.design.now) (own j) (insts j)) (drop c.args.net (nets j)))) in
    same ∙ ap F c.in-Some.ensures.value
