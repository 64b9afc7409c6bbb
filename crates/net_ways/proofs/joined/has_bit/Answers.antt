use Rattle.std.proofs.Common.{◌≡◌, List, Some, None, sym, ap, ◌∙◌, arith, slice_get}
use Rattle.std.specs.Option.{option_copied}
use Rattle.std.proofs.lemmas.Bool.{false≢true, lt-ltb, ltb-true}
use Rattle.std.proofs.lemmas.Option.{none-some, same_Some}
use Rattle.netlist_schema.specs.Design.{cell_at, port_width}
use Rattle.netlist_schema.specs.Types.{Port}
use Rattle.net_ways.proofs.JoinedLemmas.{bit_there, there_bit}
use Rattle.net_ways.proofs.joined.has_bit.Goals as goal

pub returns-in-Some-port_at-clause-yes : goal.returns-in-Some-port_at-clause-yes
returns-in-Some-port_at-clause-yes g c = λ yes_is.
    let d = g.S.Shown.design c.args.design.now in
    let is : cell_at d c.args.cell ≡ Some c.in-Some.body.now = sym c.cell.ensures.value ∙ ap option_copied c.in-Some.is in
    let at : slice_get c.in-Some.body.now.ports c.args.port ≡ Some c.in-Some-port_at.found.now =
    ap (λ (v : List Port). slice_get v c.args.port) (sym c.as_slice.ensures) ∙ sym c.port_at.ensures ∙ ap option_copied c.in-Some-port_at.is in
    let less = ltb-true c.args.bit c.width.result yes_is in
    bit_there d c.args.cell c.in-Some.body.now is c.args.port c.args.bit c.in-Some-port_at.found.now at (omega (arith, less, c.width.ensures.width))

pub returns-in-Some-port_at-clause-no : goal.returns-in-Some-port_at-clause-no
returns-in-Some-port_at-clause-no g c = λ no_is has.
    let d = g.S.Shown.design c.args.design.now in
    let is : cell_at d c.args.cell ≡ Some c.in-Some.body.now = sym c.cell.ensures.value ∙ ap option_copied c.in-Some.is in
    let at : slice_get c.in-Some.body.now.ports c.args.port ≡ Some c.in-Some-port_at.found.now =
    ap (λ (v : List Port). slice_get v c.args.port) (sym c.as_slice.ensures) ∙ sym c.port_at.ensures ∙ ap option_copied c.in-Some-port_at.is in
    let found = there_bit d c.args.cell c.in-Some.body.now is c.args.port c.args.bit has in
    let same : found.0 ≡ c.in-Some-port_at.found.now = same_Some found.0 c.in-Some-port_at.found.now (sym found.1 ∙ at) in
    let wide : port_width found.0 ≡ c.width.result = ap (λ (p : Port). port_width p) same ∙ sym c.width.ensures.width in
    let less = found.2 in
    false≢true (sym no_is ∙ lt-ltb c.args.bit c.width.result (omega (arith, less, wide)))

pub returns-in-None-clause-no : goal.returns-in-None-clause-no
returns-in-None-clause-no g c = λ no_is has.
    let d = g.S.Shown.design c.args.design.now in
    let is : cell_at d c.args.cell ≡ Some c.in-Some.body.now = sym c.cell.ensures.value ∙ ap option_copied c.in-Some.is in
    let none : slice_get c.in-Some.body.now.ports c.args.port ≡ None =
    ap (λ (v : List Port). slice_get v c.args.port) (sym c.as_slice.ensures) ∙ sym c.port_at.ensures ∙ ap option_copied c.in-None.is in
    let found = there_bit d c.args.cell c.in-Some.body.now is c.args.port c.args.bit has in
    none-some found.0 (sym none ∙ found.1)
