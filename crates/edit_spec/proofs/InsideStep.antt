-- Changes of the contents of the cell that is named keep a design valid.
use Rattle.std.proofs.Common.{◌≡◌, List, ◌∷◌, Option, Some, None, refl, sym, ap, subst}
use Rattle.std.specs.Option.{option_map, option_and_then, option_to_list}
use Rattle.netlist_schema.specs.Design.{Design, cell_at, insts_in, insts_of, nets_in, nets_of}
use Rattle.netlist_schema.specs.Types.{CellBody, CellId, Contents, Net, Inst}
use Rattle.netlist_schema.specs.Valid.{IsValid}
use Rattle.edit_rules_spec.specs.Edit.{inner, edited, edited_once}
use Rattle.edit_rules_spec.specs.Find.{cell_named}
use Rattle.edit_rules_spec.specs.Rule.{first, no_lib, no_cell}
use Rattle.edit_rules_spec.specs.Seen.{Named, named, inside, contents_at}
use Rattle.edit_rules_spec.specs.declared.reply.CellName.{CellName}
use Rattle.edit_rules_spec.specs.declared.reply.Reply.{Reply}
use Rattle.edit_spec.specs.Inside.{set_nets}
use Rattle.edit_rules_spec.proofs.Filled.{inner_is_valid, filled}
use Rattle.edit_rules_spec.proofs.Named.{cell_there}
use Rattle.edit_rules_spec.proofs.Refusals.{first_none}
use Rattle.edit_spec.proofs.JoinValid.{there}
use Rattle.edit_spec.proofs.Valid.{AreGoodNets, nets_valid}

abbrev pub inside_of : Design → Option CellId → Option Contents
inside_of d id = option_and_then (contents_at d) id

nets_edit : (d : Design) (r : Option CellId) (change : List Net → List Net) → IsValid d → ((id : CellId) (body : CellBody) → r ≡ Some id → cell_at d id ≡ Some body → inside_of d r ≡ body.contents → AreGoodNets d body (change (nets_of body))) → ((id : CellId) → r ≡ Some id → (body : CellBody) × (cell_at d id ≡ Some body)) → IsValid (edited d (option_to_list (option_map (λ id. inner id (record { insts = insts_in (inside_of d r); nets = change (nets_in (inside_of d r)) })) r)))
nets_edit d None change valid good there = valid
nets_edit d (Some id) change valid good there =
    let found = there id refl in
    let contents : contents_at d id ≡ found.0.contents = ap (option_and_then (λ (b : CellBody). b.contents)) found.1 in
    subst (λ (c : Option Contents). IsValid (edited_once d (inner id (record { insts = insts_in c; nets = change (nets_in c) })))) (sym contents)
    (inner_is_valid d id (record { insts = insts_of found.0; nets = change (nets_of found.0) }) found.0 found.1 valid (nets_valid d id found.0 (change (nets_of found.0)) valid found.1 (good id found.0 refl found.1 contents)))

-- a change of the nets of the cell that is named
pub nets_step : (d : Design) (cell : CellName) (change : List Net → List Net) → IsValid d → ((id : CellId) (body : CellBody) → cell_named d cell ≡ Some id → cell_at d id ≡ Some body → inside d cell ≡ body.contents → AreGoodNets d body (change (nets_of body))) → IsValid (edited d (set_nets (named d cell) (inside d cell) change))
nets_step d cell change valid good = nets_edit d (cell_named d cell) change valid good (cell_there d cell)

pub after_cell : (at : Named) (rest : List (Option Reply)) → first (no_lib at ∷ no_cell at ∷ rest) ≡ None → first rest ≡ None
after_cell at rest none = (first_none (no_cell at) rest (first_none (no_lib at) (no_cell at ∷ rest) none).1).1

-- a change of the instances of the cell that is named
pub contents_edit : (d : Design) (r : Option CellId) (f : List Inst → List Inst) → IsValid d → ((id : CellId) (body : CellBody) → r ≡ Some id → cell_at d id ≡ Some body → inside_of d r ≡ body.contents → IsValid (filled d id (record { insts = f (insts_of body); nets = nets_of body }))) → ((id : CellId) → r ≡ Some id → (body : CellBody) × (cell_at d id ≡ Some body)) → IsValid (edited d (option_to_list (option_map (λ id. inner id (record { insts = f (insts_in (inside_of d r)); nets = nets_in (inside_of d r) })) r)))
contents_edit d None f valid good there = valid
contents_edit d (Some id) f valid good there =
    let found = there id refl in
    let contents : inside_of d (Some id) ≡ found.0.contents = ap (option_and_then (λ (b : CellBody). b.contents)) found.1 in
    subst (λ (c : Option Contents). IsValid (edited_once d (inner id (record { insts = f (insts_in c); nets = nets_in c })))) (sym contents) (inner_is_valid d id (record { insts = f (insts_of found.0); nets = nets_of found.0 }) found.0 found.1 valid (good id found.0 refl found.1 contents))
