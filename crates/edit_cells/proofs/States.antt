-- What a read does to the state of plain cells.
use Rattle.std.proofs.Common.{◌≡◌, length, take, ◌⊎◌, ◌↔◌, ℕ, List, Option, Some, None, refl, sym, ap, subst, ◌∙◌}
use Rattle.netlist_schema.specs.Design.{Design}
use Rattle.std.specs.Prelude.{option_to_list, unwrap_or}
use Rattle.std.specs.Option.{option_map}
use Rattle.netlist_schema.specs.Types.{CellId, Lib, LibId, Note, Object}
use Rattle.edit_rules_spec.specs.Edit.{noted, edited}
use Rattle.edit_rules_spec.specs.Find.{cell_in}
use Rattle.edit_rules_spec.specs.Edit.{IsChanged}
use Rattle.edit_rules_spec.specs.Objects.{IsPrefix}
use Rattle.edit_rules_spec.specs.Reading.{IsFor}
use Rattle.edit_cells.specs.Change.{HasMade, cell_edits, edits_of}
use Rattle.edit_cells.specs.declared.change.CellChange.{CellChange}
use Rattle.edit_cells.specs.declared.change.Change.{Change}
use Rattle.edit_cells.proofs.Patches.{edited_joined}
use Rattle.edit_cells.specs.State.{State, GrowsBy, HasRead}
use Rattle.edit_cells.proofs.Growing.{cut_back, grows_by_same}

pub read_done : (old : State) (b d : Design) (reads written new : List Object) (P : Object → Type 0) → old ≡ record { base = b; design = d; reads = reads; written = written } → GrowsBy reads new P → HasRead old (record { base = b; design = d; reads = new; written = written }) P
read_done old b d reads written new P is grows = record {
  base = sym (ap (λ (s : State). s.base) is);
  design = sym (ap (λ (s : State). s.design) is);
  written = sym (ap (λ (s : State). s.written) is);
  reads = subst (λ (rs : List Object). GrowsBy rs new P) (sym (ap (λ (s : State). s.reads) is)) grows;
}

pub read_one : (old : State) (b d : Design) (reads written new : List Object) (x y : Object) → old ≡ record { base = b; design = d; reads = reads; written = written } → x ≡ y → GrowsBy reads new (λ o. o ≡ x) → HasRead old (record { base = b; design = d; reads = new; written = written }) (λ o. o ≡ y)
read_one old b d reads written new x y is same grows =
    subst (λ (z : Object). HasRead old (record { base = b; design = d; reads = new; written = written }) (λ o. o ≡ z)) same (read_done old b d reads written new (λ o. o ≡ x) is grows)

pub read_two : (old : State) (b d : Design) (reads written new : List Object) (x y v w : Object) → old ≡ record { base = b; design = d; reads = reads; written = written } → x ≡ v → y ≡ w → GrowsBy reads new (λ o. (o ≡ x) ⊎ (o ≡ y)) → HasRead old (record { base = b; design = d; reads = new; written = written }) (λ o. (o ≡ v) ⊎ (o ≡ w))
read_two old b d reads written new x y v w is first second grows =
    subst (λ (z : Object). HasRead old (record { base = b; design = d; reads = new; written = written }) (λ o. (o ≡ z) ⊎ (o ≡ w))) first
    (subst (λ (z : Object). HasRead old (record { base = b; design = d; reads = new; written = written }) (λ o. (o ≡ x) ⊎ (o ≡ z))) second
    (read_done old b d reads written new (λ o. (o ≡ x) ⊎ (o ≡ y)) is grows))

-- a name was looked for
pub read_found : (old : State) (b d : Design) (reads written new : List Object) (name : List ℕ) (lib : LibId) (found : Option CellId) (x : Object) → old ≡ record { base = b; design = d; reads = reads; written = written } → found ≡ cell_in d name lib → ((o : Object) → IsFor found (Some lib) o ↔ (o ≡ x)) → GrowsBy reads new (λ o. o ≡ x) → HasRead old (record { base = b; design = d; reads = new; written = written }) (IsFor (cell_in old.design name lib) (Some lib))
read_found old b d reads written new name lib found x is same for grows =
    let found_is : found ≡ cell_in old.design name lib = same ∙ ap (λ (s : State). cell_in s.design name lib) (sym is) in
    subst (λ (f : Option CellId). HasRead old (record { base = b; design = d; reads = new; written = written }) (IsFor f (Some lib))) found_is
    (read_done old b d reads written new (IsFor found (Some lib)) is (grows_by_same reads new (λ o. o ≡ x) (IsFor found (Some lib)) grows (λ o. ((for o).1, (for o).0))))

-- changes were made of the libraries, and the notes put in place
pub made_is : (d : Design) (cells : List CellChange) (notes : Option (List Note)) (libs : List Lib) → edited d (cell_edits d cells) ≡ record d { libs = libs } → edited d (edits_of d (record { cells = cells; notes = notes })) ≡ record d { libs = libs; notes = unwrap_or notes d.notes }
made_is d cells notes libs made =
    edited_joined d (cell_edits d cells) (option_to_list (option_map noted notes))
    ∙ ap (λ (e : Design). edited e (option_to_list (option_map noted notes))) made
    ∙ noted_is notes
  where
    noted_is : (given : Option (List Note)) → edited (record d { libs = libs }) (option_to_list (option_map noted given)) ≡ record d { libs = libs; notes = unwrap_or given d.notes }
    noted_is None = refl
    noted_is (Some given) = refl

-- a change was made of the design
pub made_done : (old : State) (b d e : Design) (reads written new : List Object) (change : Change) → old ≡ record { base = b; design = d; reads = reads; written = written } → e ≡ edited d (edits_of d change) → ((f : Design) → GrowsBy written new (IsChanged (edits_of f change))) → HasMade old (record { base = b; design = e; reads = reads; written = new }) (edits_of old.design change)
made_done old b d e reads written new change is put grows = record {
  base = sym (ap (λ (s : State). s.base) is);
  design = put ∙ sym (ap (λ (s : State). edited s.design (edits_of s.design change)) is);
  reads = sym (ap (λ (s : State). s.reads) is);
  written = subst (λ (ws : List Object). GrowsBy ws new (IsChanged (edits_of old.design change))) (sym (ap (λ (s : State). s.written) is)) (grows old.design);
}

-- the objects written are cut back, and the design stays
pub nothing_done : (old : State) (b d e : Design) (reads written more back : List Object) → old ≡ record { base = b; design = d; reads = reads; written = written } → e ≡ d → ((f : Design) → IsPrefix written more) → back ≡ take (length written) more → let now : State = record { base = b; design = e; reads = reads; written = back } in now ≡ old
nothing_done old b d e reads written more back is same grew cut =
    (λ i. record { base = b; design = same i; reads = reads; written = (cut ∙ cut_back written more (grew d)) i }) ∙ sym is
