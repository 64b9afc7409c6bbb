-- Adding a cell.
use Rattle.std.proofs.Common.{◌≡◌, ◌⊎◌, ◌↔◌, inl, ⊎_elim, ℕ, Bool, true, false, not, List, [], ◌∷◌, length, Option, Some, None, sym, ap, subst, ◌∙◌}
use Rattle.std.specs.Prelude.{IsSome}
use Rattle.std.specs.List.{list_any}
use Rattle.std.proofs.lemmas.List.{length-map}
use Rattle.netlist_schema.specs.Design.{Design, cells_in, lib_at}
use Rattle.netlist_schema.specs.Names.{cell_names}
use Rattle.netlist_schema.specs.Types.{CellBody, CellId, LibId, Object}
use Rattle.netlist_schema.specs.Valid.{IsValid}
use Rattle.netlist_schema.specs.declared.ids.Object.TheVariants.{Directory}
use Rattle.edit_rules_spec.specs.Edit.{fresh}
use Rattle.edit_rules_spec.specs.Find.{is_same, lib_named}
use Rattle.edit_rules_spec.specs.Reading.{IsForLib}
use Rattle.edit_rules_spec.specs.Rule.{first, ruled, unless}
use Rattle.edit_rules_spec.specs.declared.reply.CellName.{CellName}
use Rattle.edit_rules_spec.specs.declared.reply.Reply.{Reply}
use Rattle.edit_rules_spec.specs.declared.reply.Reply.TheVariants.{Done, NoLib}
use Rattle.edit_rules_spec.proofs.There.{named_lib_there}
use Rattle.edit_spec.specs.AddCell.{add_cell, names_in, new_cell, no_new_cell}
use Rattle.edit_spec.specs.Rows.{outcome}
use Rattle.edit_spec.specs.Typed.{IsTypedOp}
use Rattle.edit_spec.specs.declared.ops.Op.TheVariants.{AddCell}
use Rattle.edit_spec.specs.declared.ops.PortDecl.{PortDecl}
use Rattle.edit_cells.specs.Change.{HasMade, edits_of}
use Rattle.edit_cells.specs.State.{State, HasRead}
use Rattle.edit_cells.specs.declared.change.CellChange.TheVariants.{Fresh}
use Rattle.eco_reads.specs.Done.{IsDone}
use Rattle.eco_reads.specs.Plan.{IsGood, one_change}
use Rattle.eco_reads.proofs.Reading.{done_made, done_read, made_valid, read_both, read_nothing}

abbrev pub new_id : LibId → ℕ → CellId
new_id lib slot = record { lib = lib; slot = slot }

-- a library that is found, whether the name is free in it, and how many cells it has
pub record HasLib (s u : State) (name : CellName) (lib : LibId) (free : Bool) (count : ℕ) : Type 0 where
  pub found : lib_named s.design name.lib ≡ Some lib
  pub taken : not free ≡ list_any (λ other. is_same other name.cell) (cell_names (cells_in s.design lib))
  pub many : count ≡ length (cells_in s.design lib)
  pub read : HasRead s u (λ o. (o ≡ Directory lib) ⊎ (o ≡ Directory lib))

not_free : (free b : Bool) → free ≡ not b → not free ≡ b
not_free free true is = ap not is
not_free free false is = ap not is

pub lib_read : (s t u : State) (name : CellName) (lib : LibId) (free : Bool) (count : ℕ) → Some lib ≡ lib_named s.design name.lib → free ≡ not (list_any (λ other. is_same other name.cell) (cell_names (cells_in s.design lib))) → HasRead s t (λ o. o ≡ Directory lib) → count ≡ length (cells_in t.design lib) → HasRead t u (λ o. o ≡ Directory lib) → HasLib s u name lib free count
lib_read s t u name lib free count found is one many two = record {
  found = sym found;
  taken = not_free free (list_any (λ other. is_same other name.cell) (cell_names (cells_in s.design lib))) is;
  many = many ∙ ap (λ (d : Design). length (cells_in d lib)) one.design;
  read = read_both s t u (λ o. o ≡ Directory lib) (λ o. o ≡ Directory lib) one two;
}

names_count : (d : Design) (lib : LibId) → length (cell_names (cells_in d lib)) ≡ length (cells_in d lib)
names_count d lib = length-map (cells_in d lib) (λ (cell : CellBody). cell.name.id)

add_comes : (s u : State) (name : CellName) (leaf : Bool) (ports : List PortDecl) (lib : LibId) (free : Bool) (count : ℕ) → HasLib s u name lib free count → outcome s.design (AddCell name leaf ports) ≡ unless (first (no_new_cell (not free) count ports)) Done (fresh (new_id lib count) (new_cell name.cell leaf ports) ∷ [])
add_comes s u name leaf ports lib free count has =
    (λ i. ruled (add_cell (has.found i) (names_in s.design (has.found i)) name.cell leaf ports))
    ∙ (λ i. unless (first (no_new_cell (sym has.taken i) (same i) ports)) Done (fresh (new_id lib (same i)) (new_cell name.cell leaf ports) ∷ []))
  where
    same : length (cell_names (cells_in s.design lib)) ≡ count
    same = names_count s.design lib ∙ sym has.many

directory_needs : (s : State) (name : CellName) (lib : LibId) (o : Object) → lib_named s.design name.lib ≡ Some lib → ((o ≡ Directory lib) ⊎ (o ≡ Directory lib)) ↔ IsForLib (lib_named s.design name.lib) o
directory_needs s name lib o found = (
  λ x. subst (λ (l : Option LibId). IsForLib l o) (sym found) (⊎_elim (λ (a : o ≡ Directory lib). a) (λ (b : o ≡ Directory lib). b) x),
  λ x. inl (subst (λ (l : Option LibId). IsForLib l o) found x),
)

pub add_refused : (s u : State) (name : CellName) (leaf : Bool) (ports : List PortDecl) (lib : LibId) (free : Bool) (count : ℕ) (reply : Reply) → HasLib s u name lib free count → first (no_new_cell (not free) count ports) ≡ Some reply → IsDone s u (AddCell name leaf ports) reply
add_refused s u name leaf ports lib free count reply has refused =
    done_read s u (AddCell name leaf ports) reply _ has.read (λ o. directory_needs s name lib o has.found)
    (add_comes s u name leaf ports lib free count has ∙ ap (λ (r : Option Reply). unless r Done (fresh (new_id lib count) (new_cell name.cell leaf ports) ∷ [])) refused)

made_comes : (s u : State) (name : CellName) (leaf : Bool) (ports : List PortDecl) (lib : LibId) (free : Bool) (count : ℕ) (body : CellBody) → HasLib s u name lib free count → first (no_new_cell (not free) count ports) ≡ None → body ≡ new_cell name.cell leaf ports → outcome s.design (AddCell name leaf ports) ≡ record { reply = Done; edits = fresh (new_id lib count) body ∷ [] }
made_comes s u name leaf ports lib free count body has none same =
    add_comes s u name leaf ports lib free count has ∙ (λ i. unless (none i) Done (fresh (new_id lib count) (sym same i) ∷ []))

pub add_good : (s u : State) (name : CellName) (leaf : Bool) (ports : List PortDecl) (lib : LibId) (free : Bool) (count : ℕ) (body : CellBody) → IsTypedOp (AddCell name leaf ports) → IsValid s.design → HasLib s u name lib free count → (first (no_new_cell (not free) count ports) ≡ None) × (body ≡ new_cell name.cell leaf ports) → IsGood u.design (one_change (Fresh (new_id lib count) body) None)
add_good s u name leaf ports lib free count body typed valid has (none, same) = record {
  can = ((subst (λ (d : Design). IsSome (lib_at d lib)) (sym has.read.design) (named_lib_there s.design name.lib lib has.found), has.many ∙ ap (λ (d : Design). length (cells_in d lib)) (sym has.read.design)), tt);
  valid = made_valid s u (AddCell name leaf ports) Done (fresh (new_id lib count) body ∷ []) _ typed valid has.read (made_comes s u name leaf ports lib free count body has none same);
}

pub add_done : (s u v : State) (name : CellName) (leaf : Bool) (ports : List PortDecl) (lib : LibId) (free : Bool) (count : ℕ) (body : CellBody) → HasLib s u name lib free count → (first (no_new_cell (not free) count ports) ≡ None) × (body ≡ new_cell name.cell leaf ports) → HasMade u v (edits_of u.design (one_change (Fresh (new_id lib count) body) None)) → IsDone s v (AddCell name leaf ports) Done
add_done s u v name leaf ports lib free count body has (none, same) made =
    done_made s u v (AddCell name leaf ports) Done (fresh (new_id lib count) body ∷ []) _ has.read (λ o. directory_needs s name lib o has.found) (made_comes s u name leaf ports lib free count body has none same) made

-- the library is not there
pub no_lib_there : (s : State) (name : CellName) (leaf : Bool) (ports : List PortDecl) → None ≡ lib_named s.design name.lib → IsDone s s (AddCell name leaf ports) NoLib
no_lib_there s name leaf ports none =
    done_read s s (AddCell name leaf ports) NoLib (λ o. ⊥) (read_nothing s (λ o. ⊥) (λ o never. never))
    (λ o. (λ never. absurd never, λ x. subst (λ (l : Option LibId). IsForLib l o) (sym none) x))
    (λ i. ruled (add_cell (sym none i) (names_in s.design (sym none i)) name.cell leaf ports))
