-- The design after changes is grown.
use Rattle.std.proofs.Common.{◌≡◌, ◌≢◌, ⊎_elim, ◌++◌, List, [], ◌∷◌, Option, Some, None, refl, sym, ap, subst, ◌∙◌, append-nil, append_assoc}
use Rattle.std.proofs.lemmas.Bool.{cases_eq}
use Rattle.std.proofs.lemmas.List.{map-append}
use Rattle.std.specs.Option.{option_map}
use Rattle.netlist_schema.specs.Design.{Design, lib_at, cell_at, cells_in}
use Rattle.netlist_schema.specs.Names.{cell_names}
use Rattle.netlist_schema.specs.Types.{CellBody, Lib, LibId}
use Rattle.edit_rules_spec.specs.Edit.{Edit, fresh, inner, own, noted, edited, edited_once, with_more_cell, lib_with_more}
use Rattle.edit_rules_spec.specs.Objects.{Grown, IsPrefix, Outside, outside_of}
use Rattle.edit_rules_spec.proofs.Closed.{kept_with_more}
use Rattle.edit_rules_spec.proofs.Edits.{IsAlike, once_alike, cells_of, more_same, more_other, map-changed_at}

prefix_refl : {X : Type 0} (xs ys : List X) → ys ≡ xs → IsPrefix xs ys
prefix_refl xs ys same = ([], same ∙ sym (append-nil xs))

-- a design of the same directories and outsides is grown
alike_is_grown : (d e : Design) → IsAlike e d → Grown d e
alike_is_grown d e alike = record {
  title = sym alike.title;
  libs = sym alike.libs;
  top = sym alike.top;
  directories = λ lib. prefix_refl (cell_names (cells_in d lib)) (cell_names (cells_in e lib)) (alike.names lib);
  cells = λ id outside is. alike.outside id ∙ is;
}

names_more : (body : CellBody) (o : Option Lib) → IsPrefix (cell_names (cells_of o)) (cell_names (cells_of (option_map (lib_with_more body) o)))
names_more body None = ([], refl)
names_more body (Some lib) = (body.name.id ∷ [], map-append (λ (c : CellBody). c.name.id) lib.cells (body ∷ []))

pub outside_found : (o : Option CellBody) (outside : Outside) → option_map outside_of o ≡ Some outside → (body : CellBody) × (o ≡ Some body) × (outside_of body ≡ outside)
outside_found None outside is = cc
outside_found (Some body) outside is = (body, refl, cc)

more_is_grown : (d : Design) (lib : LibId) (body : CellBody) → Grown d (with_more_cell d lib body)
more_is_grown d lib body = record {
  title = refl;
  libs = sym (map-changed_at (lib_with_more body) (λ (l : Lib). l.head) (λ _. refl) lib.0 d.libs);
  top = refl;
  directories = λ other. ⊎_elim
      (λ (same : other.0 ≡ lib.0).
      subst (λ (o : Option Lib). IsPrefix (cell_names (cells_in d other)) (cell_names (cells_of o))) (sym (more_same d lib body other same)) (names_more body (lib_at d other)))
      (λ (apart : other.0 ≢ lib.0).
      prefix_refl (cell_names (cells_in d other)) (cell_names (cells_in (with_more_cell d lib body) other)) (ap (λ (o : Option Lib). cell_names (cells_of o)) (more_other d lib body other apart)))
      (cases_eq other.0 lib.0);
  cells = λ id outside is.
      let found = outside_found (cell_at d id) outside is in
      ap (option_map outside_of) (kept_with_more d lib body id found.0 found.1) ∙ ap (λ (o : Outside). Some o) found.2;
}

once_is_grown : (edit : Edit) (d : Design) → Grown d (edited_once d edit)
once_is_grown (fresh id body) d = more_is_grown d id.lib body
once_is_grown (inner id contents) d = alike_is_grown d (edited_once d (inner id contents)) (once_alike d (inner id contents) tt)
once_is_grown (own id properties) d = alike_is_grown d (edited_once d (own id properties)) (once_alike d (own id properties) tt)
once_is_grown (noted notes) d = alike_is_grown d (edited_once d (noted notes)) (once_alike d (noted notes) tt)

prefix_trans : {X : Type 0} (xs ys zs : List X) → IsPrefix xs ys → IsPrefix ys zs → IsPrefix xs zs
prefix_trans xs ys zs first second = (first.0 ++ second.0, second.1 ∙ ap (λ ws. ws ++ second.0) first.1 ∙ append_assoc xs first.0 second.0)

pub Grown-refl : (d : Design) → Grown d d
Grown-refl d = record {
  title = refl;
  libs = refl;
  top = refl;
  directories = λ lib. prefix_refl (cell_names (cells_in d lib)) (cell_names (cells_in d lib)) refl;
  cells = λ id outside is. is;
}

pub Grown-trans : (d e f : Design) → Grown d e → Grown e f → Grown d f
Grown-trans d e f first second = record {
  title = first.title ∙ second.title;
  libs = first.libs ∙ second.libs;
  top = first.top ∙ second.top;
  directories = λ lib. prefix_trans (cell_names (cells_in d lib)) (cell_names (cells_in e lib)) (cell_names (cells_in f lib)) (first.directories lib) (second.directories lib);
  cells = λ id outside is. second.cells id outside (first.cells id outside is);
}

pub edited_is_grown : (edits : List Edit) (d : Design) → Grown d (edited d edits)
edited_is_grown [] d = Grown-refl d
edited_is_grown (edit ∷ edits) d = Grown-trans d (edited_once d edit) (edited (edited_once d edit) edits) (once_is_grown edit d) (edited_is_grown edits (edited_once d edit))
