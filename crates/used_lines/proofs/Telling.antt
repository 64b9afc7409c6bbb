-- The lines of cells, one after another.
use Rattle.std.proofs.Common.{◌≡◌, ◌+◌, ◌<◌, ℕ, List, [], ◌∷◌, ◌++◌, sym, ap, ◌∙◌, append-nil, get_or, length, take}
use Rattle.std.specs.Prelude.{option_map}
use Rattle.std.specs.List.{flat_map}
use Rattle.std.proofs.lemmas.Grind.{flat_map-append}
use Rattle.std.proofs.lemmas.List.{take_more}
use Rattle.netlist_schema.specs.Design.{Design, cells_in}
use Rattle.netlist_schema.proofs.Lists.{get_there}
use Rattle.used_spec.specs.Lines.{cell_lines, use_line}
use Rattle.used_spec.specs.Uses.{count_in, id_at, ids_of, users, users_at, uses}
use Rattle.used_spec.specs.declared.used_at.UsedAt.{UsedAt}
use Rattle.used_spec.proofs.Entries.{used_entry}
use Rattle.where_used.proofs.Adding.{cells_upto, ids_next, upto_next}
use Rattle.used_lines.specs.Told.{told}

-- one line more
pub one_more_use : (d : Design) (us : List UsedAt) (i : ℕ) (none : UsedAt) → i < length us
    → flat_map (use_line d) (take i us) ++ use_line d (get_or us i none) ≡ flat_map (use_line d) (take (i + 1) us)
one_more_use d us i none within =
    sym (ap (flat_map (use_line d)) (take_more us i none within)
    ∙ flat_map-append (use_line d) (take i us) (get_or us i none ∷ [])
    ∙ ap (λ v. flat_map (use_line d) (take i us) ++ v) (append-nil (use_line d (get_or us i none))))

-- a cell that is there is told by its uses
pub told_there : (d : Design) (lib slot : ℕ) → slot < count_in d lib → told d (id_at lib slot) (users_at (uses d) (id_at lib slot)) ≡ cell_lines d (id_at lib slot)
told_there d lib slot within =
    let cell = id_at lib slot in
    let there = get_there (cells_in d (record { 0 = lib })) slot within in
    ap (told d cell) (used_entry d cell ∙ ap (option_map (λ _. users d cell)) there.1)

pub one_more_cell : (d : Design) (lib slot : ℕ) → flat_map (cell_lines d) (ids_of lib slot) ++ cell_lines d (id_at lib slot) ≡ flat_map (cell_lines d) (ids_of lib (slot + 1))
one_more_cell d lib slot =
    sym (ap (flat_map (cell_lines d)) (ids_next lib slot)
    ∙ flat_map-append (cell_lines d) (ids_of lib slot) (id_at lib slot ∷ [])
    ∙ ap (λ v. flat_map (cell_lines d) (ids_of lib slot) ++ v) (append-nil (cell_lines d (id_at lib slot))))

pub one_more_lib : (d : Design) (lib : ℕ) → flat_map (cell_lines d) (cells_upto d lib) ++ flat_map (cell_lines d) (ids_of lib (count_in d lib)) ≡ flat_map (cell_lines d) (cells_upto d (lib + 1))
one_more_lib d lib =
    sym (ap (flat_map (cell_lines d)) (upto_next d lib) ∙ flat_map-append (cell_lines d) (cells_upto d lib) (ids_of lib (count_in d lib)))
