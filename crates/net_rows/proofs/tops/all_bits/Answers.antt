use Rattle.std.proofs.Common.{◌≡◌, ◌+◌, ◌++◌, ◌∙◌, ℕ, List, Some, suc, ap, arith, map, sym, take, slice_get}
use Rattle.std.specs.List.{enumerate_from, flat_map, range_with_len}
use Rattle.std.proofs.lemmas.List.{take_all}
use Rattle.std.proofs.lemmas.Option.{slice_get-get_or}
use Rattle.netlist_schema.specs.Types.{Port}
use Rattle.net_rows.specs.Tops.{bit_at, bit_of, port_bits}
use Rattle.net_rows.proofs.TopLemmas.{bits_more}
use Rattle.net_rows.proofs.tops.all_bits.Goals as goal

pub loop-place-preserved : goal.loop-place-preserved
loop-place-preserved c =
    let ports : List Port = c.as_slice-ports.result.now in
    let place : ℕ = c.loop-place.place in
    let port : Port = c.index-ports-place.result in
    let at : slice_get ports place ≡ Some port = slice_get-get_or ports place port c.loop-place-test.true ∙ ap Some (sym c.index-ports-place.is) in
    let step : suc place ≡ place + 1 = omega arith in
    c.in_ok-add_port.ensures
    ∙ ap (λ v. map bit_of c.loop-place.bits.items ++ map (bit_at place) (range_with_len 0 v)) c.width.ensures.width
    ∙ ap (λ v. v ++ port_bits place port) c.loop-place.invariant
    ∙ sym (bits_more 0 ports place place port (omega arith) at)
    ∙ ap (λ n. flat_map (λ (p : ℕ × Port). port_bits p.0 p.1) (enumerate_from 0 (take n ports))) step

pub returns : goal.returns
returns c =
    let ports : List Port = c.as_slice-ports.result.now in
    c.loop-place.invariant
    ∙ ap (λ (v : List Port). flat_map (λ (p : ℕ × Port). port_bits p.0 p.1) (enumerate_from 0 v)) (take_all c.loop-place.place ports c.loop-place-test.false ∙ c.as_slice-ports.ensures)
