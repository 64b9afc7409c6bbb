use Rattle.std.proofs.Common.{◌≡◌, ℕ, List, ◌∙◌, Option, ap}
use Rattle.std.specs.Prelude.{option_and_then}
use Rattle.netlist_schema.specs.Design.{Design}
use Rattle.netlist_schema.specs.Types.{Port}
use Rattle.ask_names.specs.Places.{ports_at}
use Rattle.netdb_questions.specs.Named.{bit_at}
use Rattle.netdb_questions.proofs.finding.bit_in.Goals as goal

pub returns-in-Some : goal.returns-in-Some
returns-in-Some c =
    let d = c.args.names.now in
    let ports : c.ports_in.result.now ≡ ports_at d c.args.cell = c.ports_in.ensures ∙ ap (λ (v : Design). ports_at v c.args.cell) c.design.ensures in
    c.bit_at.ensures
    ∙ ap (λ (v : List Port). bit_at v c.args.bit c.in-Some.place) ports
    ∙ ap (λ (o : Option ℕ). option_and_then (bit_at (ports_at d c.args.cell) c.args.bit) o) c.in-Some.ensures

pub returns-in-None : goal.returns-in-None
returns-in-None c = ap (λ (o : Option ℕ). option_and_then (bit_at (ports_at c.args.names.now c.args.cell) c.args.bit) o) c.in-None.ensures
