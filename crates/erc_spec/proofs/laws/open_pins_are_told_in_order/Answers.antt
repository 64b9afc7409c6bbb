use Rattle.std.specs.List.{flat_map}
use Rattle.flat_spec.specs.Flattening.{flattening}
use Rattle.flat_spec.proofs.ListLemmas.{Ascends-pairs}
use Rattle.erc_spec.specs.Findings.{findings}
use Rattle.erc_spec.specs.Told.{NetComesFirst, PinBefore, told_pin}
use Rattle.erc_spec.proofs.OpenLemmas.{pins_come_last, told_pins-ascend}
use Rattle.erc_spec.proofs.laws.open_pins_are_told_in_order.Goals as goal

pub returns : goal.returns
returns c = record {
  in_order = λ d top valid is. Ascends-pairs PinBefore (flat_map told_pin (findings d)) (told_pins-ascend d top valid is);
  behind = λ d. Ascends-pairs NetComesFirst (findings d) (pins_come_last d (flattening d));
}
