-- A design whose cells are changed in their places.
use Rattle.std.proofs.Common.{◌≡◌, arith, List, [], ◌∷◌, ◌++◌, length, Option, None, refl, sym, ap, subst, ◌∙◌}
use Rattle.std.specs.Prelude.{option_map, option_to_list, unwrap_or}
use Rattle.std.specs.List.{All}
use Rattle.netlist_schema.specs.Design.{Design}
use Rattle.netlist_schema.specs.Hierarchy.{IsBelow, NoCellIsBelowItself, deeper, placed}
use Rattle.netlist_schema.specs.Typed.{IsTypedName}
use Rattle.netlist_schema.specs.Types.{CellId, Lib, Name, Note, TopHead}
use Rattle.netlist_schema.specs.Valid.{IsValid}
use Rattle.edit_rules_spec.specs.Edit.{changed_at, edited, noted}
use Rattle.edit_cells.specs.Change.{cell_edits, edits_of}
use Rattle.edit_cells.specs.Patch.{lib_after, place_of}
use Rattle.edit_cells.specs.declared.change.Change.{Change}
use Rattle.edit_cells.specs.declared.change.CellChange.{CellChange}
use Rattle.edit_cells.proofs.Patches.{edited_by_change}
use Rattle.edit_cells.proofs.States.{made_is}

-- ---- a design with nothing in it

abbrev pub with_title : Name → Design
with_title title = record { title = title; libs = []; top = None; notes = [] }

none : {A : Type 0} (P : A → Type 0) → All P []
none P k x within = absurd (omega (arith, within))

nothing_below : (title : Name) → NoCellIsBelowItself (with_title title)
nothing_below title id below = go id below
  where
    go : (id : CellId) {inner : CellId} → IsBelow (with_title title) inner id → ⊥
    go id (placed inst has) = absurd (let less = has.1 in omega (arith, less))
    go id (deeper inst has more) = absurd (let less = has.1 in omega (arith, less))

pub titled_valid : (title : Name) → IsTypedName title → IsValid (with_title title)
titled_valid title h = record {
  typed = record { title = h; libs = none _; cells = none _; top = tt; notes = none _ };
  limits = record { libs = omega arith; cells = none _; notes = omega arith };
  names = record { libs = λ i j d l m. absurd (omega (arith, m)); cells = none _ };
  cells = λ id body e. absurd (cc e);
  no_cycle = nothing_below title;
  top = tt;
  notes = tt;
  notes_need_top = refl;
  notes_differ = λ i j d l m. absurd (omega (arith, m));
}

-- ---- its parts, put together again

pub whole_put : (d : Design) (change : CellChange) (given : Option (List Note)) (title : Name) (libs new : List Lib) (top : Option TopHead) (old made : List Note) → d ≡ record { title = title; libs = libs; top = top; notes = old }
    → new ≡ changed_at (lib_after change) (place_of change) libs → made ≡ unwrap_or given old
    → record { title = title; libs = new; top = top; notes = made } ≡ edited d (edits_of d (record { cells = change ∷ []; notes = given }))
whole_put d change given title libs new top old made parts is same =
    (λ i. record { title = title; libs = is i; top = top; notes = same i })
    ∙ sym (ap (λ (x : Design). record { title = x.title; libs = changed_at (lib_after change) (place_of change) x.libs; top = x.top; notes = unwrap_or given x.notes }) parts)
    ∙ sym (made_is d (change ∷ []) given (changed_at (lib_after change) (place_of change) d.libs) (edited_by_change d change))

pub notes_put : (d : Design) (given : Option (List Note)) (title : Name) (libs : List Lib) (top : Option TopHead) (old made : List Note) → d ≡ record { title = title; libs = libs; top = top; notes = old }
    → made ≡ unwrap_or given old → record { title = title; libs = libs; top = top; notes = made } ≡ edited d (edits_of d (record { cells = []; notes = given }))
notes_put d given title libs top old made parts same =
    (λ i. record { title = title; libs = libs; top = top; notes = same i })
    ∙ sym (ap (λ (x : Design). record { title = x.title; libs = x.libs; top = x.top; notes = unwrap_or given x.notes }) parts)
    ∙ sym (made_is d [] given d.libs refl)

pub stays_put : (d : Design) (title : Name) (libs new : List Lib) (top : Option TopHead) (notes : List Note) → d ≡ record { title = title; libs = libs; top = top; notes = notes }
    → new ≡ libs → record { title = title; libs = new; top = top; notes = notes } ≡ d
stays_put d title libs new top notes parts is = (λ i. record { title = title; libs = is i; top = top; notes = notes }) ∙ sym parts

-- ---- the cells of a change

pub with_cells : (d : Design) (change : Change) (cells : List CellChange) → cells ≡ change.cells → edited d (edits_of d change) ≡ edited d (edits_of d (record { cells = cells; notes = change.notes }))
with_cells d change cells same = λ i. edited d (cell_edits d (sym same i) ++ option_to_list (option_map noted change.notes))

pub no_cells : (cells : List CellChange) → length cells ≡ 0 → cells ≡ []
no_cells [] none = refl
no_cells (change ∷ cells) none = absurd (omega (arith, none))

-- ---- a design with nothing in it, put together

pub blank_valid : (title : Name) (libs : List Lib) (notes : List Note) → libs ≡ [] → notes ≡ [] → IsTypedName title → IsValid (record { title = title; libs = libs; top = None; notes = notes })
blank_valid title libs notes e f h = subst IsValid (λ i. record { title = title; libs = sym e i; top = None; notes = sym f i }) (titled_valid title h)
