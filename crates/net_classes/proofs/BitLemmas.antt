-- The number of an own bit, by the starts of the ports.
use Rattle.std.proofs.Common.{◌≡◌, ◌<◌, ◌+◌, ℕ, List, length, get_or, ap, ◌∙◌, arith, Some, slice_get}
use Rattle.std.specs.Prelude.{sum_by, take}
use Rattle.std.specs.Option.{option_map}
use Rattle.std.proofs.lemmas.Option.{slice_get_within, slice_get-get_or}
use Rattle.netlist_schema.specs.Design.{port_width}
use Rattle.netlist_schema.specs.Types.{Port}
use Rattle.net_classes.specs.Bits.{AreStarts}
use Rattle.net_classes.specs.Facts.{number_of}
use Rattle.flat_spec.specs.Paths.{Bit}
use Rattle.flat_spec.proofs.BitLemmas.{bits_from, number_back}

-- what stands at a number has that number by the starts of the ports
pub number_of-back : (ports : List Port) (starts : List ℕ) (number : ℕ) (b : Bit) → AreStarts ports starts → slice_get (bits_from 0 ports) number ≡ Some b
    → number_of starts b ≡ Some number
number_of-back ports starts number b are at =
    let from = number_back 0 ports number b at in
    let place : b.port ≡ from.at = omega (arith, from.port_is) in
    let inside : b.port < length starts = omega (arith, slice_get_within ports from.at from.port from.there, are.long, place) in
    let start : slice_get starts b.port ≡ Some (get_or starts b.port 0) = slice_get-get_or starts b.port 0 inside in
    let is : get_or starts b.port 0 ≡ sum_by port_width (take b.port ports) = are.each b.port inside in
    let sum : sum_by port_width (take b.port ports) ≡ sum_by port_width (take from.at ports) = ap (λ v. sum_by port_width (take v ports)) place in
    let whole : get_or starts b.port 0 + b.bit ≡ number = omega (arith, is, sum, from.number_is) in
    ap (option_map (λ s. s + b.bit)) start ∙ ap Some whole
