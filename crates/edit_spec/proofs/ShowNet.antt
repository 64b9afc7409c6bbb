-- Showing a net is an operation.
use Rattle.std.proofs.Common.{ℕ, List, Option, refl, inl, inr}
use Rattle.netlist_schema.specs.Types.{Contents}
use Rattle.edit_rules_spec.specs.Local.{IsLocal}
use Rattle.edit_rules_spec.specs.Objects.{AgreesOn}
use Rattle.edit_rules_spec.specs.Reading.{IsForCell}
use Rattle.edit_rules_spec.specs.Seen.{inside}
use Rattle.edit_rules_spec.specs.declared.reply.CellName.{CellName}
use Rattle.edit_spec.specs.ShowNet.{ends_of_net, show_net, show_net_of, IsAtEnd, show_net_needs}
use Rattle.edit_rules_spec.proofs.Reached.{either_same}
use Rattle.edit_rules_spec.proofs.Same.{both_ways, named_same, inside_same, cell_needs_same, by_name}
use Rattle.edit_spec.proofs.Shown.{net_shown_same}

pub show_net_local : (cell : CellName) (net : List ℕ) → IsLocal (show_net_of cell net) (show_net_needs cell net) (Unit {0})
show_net_local cell net = record {
  same = λ d e closed grown agree.
      let whole : AgreesOn d e (IsForCell d cell) = λ o is. agree o (inl is) in
      λ i. show_net (named_same d e cell grown (by_name d e cell whole) i) (inside_same d e cell grown whole i) (net_shown_same d e cell net grown whole (λ o is. agree o (inr is)) i) net;
  needs_same = λ d e grown agree o.
      let whole : AgreesOn d e (IsForCell d cell) = λ ob is. agree ob (inl is) in
      either_same (cell_needs_same d e cell o grown whole) (both_ways (λ (c : Option Contents). IsAtEnd c (ends_of_net c net) o) (inside d cell) (inside e cell) (inside_same d e cell grown whole));
  writes_seen = λ d o is. absurd is;
  last = λ d. tt;
  finds = λ d. tt;
  places = λ d closed. tt;
  valid = λ d typed valid allowed. valid;
  refuses = λ d. inl refl;
}
