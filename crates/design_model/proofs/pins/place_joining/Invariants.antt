use Rattle.std.proofs.Common.{◌≡◌, drop}
use Rattle.std.specs.Prelude.{position}
use Rattle.std.specs.List.{position_from}
use Rattle.netlist_schema.specs.Types.{Net}
use Rattle.flat_spec.specs.ConnectionTest.{has_end}
use Rattle.flat_spec.specs.Paths.{nets_at}
use Rattle.design_model.proofs.pins.place_joining.Given as goal

-- the place among the nets that are left is the place among all
abbrev pub invariant-loop-place : goal.invariant-loop-place
invariant-loop-place g l =
    position_from (λ (net : Net). has_end net.ends l.end) l.place (drop l.place l.nets)
    ≡ position (λ (net : Net). has_end net.ends l.end) (nets_at (g.S.Shown.design l.design) l.fn.cell)
