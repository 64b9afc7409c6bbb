-- Joining an end is an operation.
use Rattle.std.proofs.Common.{◌≡◌, ℕ, List, Option, Some, None, sym, ap, subst, ◌∙◌, inl, inr}
use Rattle.std.specs.Option.{option_map, option_and_then}
use Rattle.netlist_schema.specs.Design.{Design, cell_at, insts_in, nets_in, nets_of}
use Rattle.netlist_schema.specs.Types.{CellBody, CellId, Contents}
use Rattle.netlist_schema.specs.Valid.{IsValid}
use Rattle.edit_rules_spec.specs.Edit.{inner, edited}
use Rattle.edit_rules_spec.specs.Find.{cell_named, inst_named}
use Rattle.edit_rules_spec.specs.Local.{IsLocal}
use Rattle.edit_rules_spec.specs.Objects.{face_at, face_of, AgreesOn}
use Rattle.edit_rules_spec.specs.Reading.{IsForCell}
use Rattle.edit_rules_spec.specs.Rule.{first}
use Rattle.edit_rules_spec.specs.Seen.{named, inside, end_ports, ports_seen}
use Rattle.edit_rules_spec.specs.declared.reply.CellName.{CellName}
use Rattle.edit_rules_spec.specs.declared.reply.EndName.{EndName}
use Rattle.edit_spec.specs.Ends.{end_named}
use Rattle.edit_spec.specs.Join.{with_end, no_join, join, join_of, join_needs}
use Rattle.edit_rules_spec.proofs.Reached.{either_same}
use Rattle.edit_rules_spec.proofs.Same.{cell_needs_same, end_needs_same}
use Rattle.edit_spec.proofs.Changed.{of_end, nets_written, one_last, one_places, insts_there, one_finds}
use Rattle.edit_spec.proofs.InsideStep.{nets_step, after_cell}
use Rattle.edit_spec.proofs.JoinValid.{ports_from, join_seen_good}
use Rattle.edit_spec.proofs.Valid.{AreGoodNets}
use Rattle.edit_rules_spec.proofs.There.{named_cell_there}

-- the ports that are seen are those of the cell that is found
ports_found : (d : Design) (cell : CellName) (id : CellId) (body : CellBody) (inst : Option (List ℕ)) → cell_named d cell ≡ Some id → cell_at d id ≡ Some body → inside d cell ≡ body.contents → ports_from d body inst ≡ end_ports d cell inst
ports_found d cell id body None is found contents = sym (ap (λ (c : Option CellId). ports_seen (option_and_then (face_at d) c)) is ∙ ap (λ (b : Option CellBody). ports_seen (option_map face_of b)) found)
ports_found d cell id body (Some name) is found contents = ap (λ (c : Option Contents). ports_seen (option_and_then (λ inst. face_at d inst.of) (inst_named name (insts_in c)))) (sym contents)

pub join_done : (d : Design) (cell : CellName) (net : List ℕ) (end : EndName) → IsValid d → first (join_of cell net end d).refusals ≡ None → IsValid (edited d (join_of cell net end d).edits)
join_done d cell net end valid allowed =
    nets_step d cell (with_end net (end_named (inside d cell) (end_ports d cell end.inst) end)) valid (λ id body is found contents.
    let free : first (no_join body.contents (end_ports d cell end.inst) net end) ≡ None = subst (λ (c : Option Contents). first (no_join c (end_ports d cell end.inst) net end) ≡ None) contents (after_cell (named d cell) (no_join (inside d cell) (end_ports d cell end.inst) net end) allowed) in
    subst (λ (c : Option Contents). AreGoodNets d body (with_end net (end_named c (end_ports d cell end.inst) end) (nets_of body))) (sym contents)
    (join_seen_good d id body net end (end_ports d cell end.inst) valid found (ports_found d cell id body end.inst is found contents) free))

pub join_local : (cell : CellName) (net : List ℕ) (end : EndName) → IsLocal (join_of cell net end) (join_needs cell end) (Unit {0})
join_local cell net end = record {
  same = λ d e closed grown agree. of_end d e cell end (λ at contents ports. join at contents ports net end) grown agree;
  needs_same = λ d e grown agree o.
      let whole : AgreesOn d e (IsForCell d cell) = λ ob is. agree ob (inl is) in
      either_same (cell_needs_same d e cell o grown whole) (end_needs_same d e cell end.inst o grown whole);
  writes_seen = λ d o is. inl (inl (inr (nets_written (named d cell) (inside d cell) (with_end net (end_named (inside d cell) (end_ports d cell end.inst) end)) o is)));
  last = λ d. one_last d (cell_named d cell) (λ id. inner id (record { insts = insts_in (inside d cell); nets = with_end net (end_named (inside d cell) (end_ports d cell end.inst) end) (nets_in (inside d cell)) })) (λ c. tt);
  finds = λ d. one_finds d (cell_named d cell) (λ id. inner id (record { insts = insts_in (inside d cell); nets = with_end net (end_named (inside d cell) (end_ports d cell end.inst) end) (nets_in (inside d cell)) })) (named_cell_there d cell);
  places = λ d closed. one_places d (cell_named d cell) (λ id. inner id (record { insts = insts_in (inside d cell); nets = with_end net (end_named (inside d cell) (end_ports d cell end.inst) end) (nets_in (inside d cell)) })) (λ c. insts_there d (cell_named d cell) closed);
  valid = λ d typed valid allowed. join_done d cell net end valid allowed;
  refuses = λ d. inr (λ refusal. refusal);
}
