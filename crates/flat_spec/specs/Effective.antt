-- The properties of an occurrence: those of its instance, as the notes for it change them.
use Rattle.std.specs.Prelude.{ℕ, List, [], ◌∷◌, ◌++◌, Bool, not, nat_eq, None, slice_get, find, unwrap_or, map, filter}
use Rattle.std.specs.Cmp.Lexicographic.{pointwise}
use Rattle.std.specs.List.{last_or, list_any}
use Rattle.std.specs.Option.{option_map_or}
use Rattle.netlist_schema.specs.Design.{Design}
use Rattle.netlist_schema.specs.Hierarchy.{insts_at}
use Rattle.netlist_schema.specs.Types.{CellId, Inst, Note, Property, TopHead}

-- the instances through which the path goes, as far as it leads
abbrev pub insts_along : Design → CellId → List ℕ → List Inst
insts_along d c [] = []
insts_along d c (i ∷ path) = option_map_or (λ inst. inst ∷ insts_along d inst.of path) (slice_get (insts_at d c) i) []

-- their identifiers
abbrev pub names_along : Design → CellId → List ℕ → List (List ℕ)
names_along d c path = map (λ inst. inst.name.id) (insts_along d c path)

-- the properties of the last instance on the path, and at the top those of the design
abbrev pub base_properties : Design → TopHead → List ℕ → List Property
base_properties d top path =
    option_map_or (λ inst. inst.properties) (last_or None (insts_along d top.cell path)) top.properties

-- the properties of the notes whose path has these identifiers, byte for byte, in order
abbrev pub notes_for : List (List ℕ) → List Note → List Property
notes_for names notes = map (λ note. note.property) (filter (λ note. pointwise (pointwise nat_eq) note.path names) notes)

-- two properties have keys that are equal byte for byte
abbrev pub same_key : Property → Property → Bool
same_key p q = pointwise nat_eq p.key.id q.key.id

-- the property among the notes that has its key, where there is one, else the property itself
abbrev pub replaced : List Property → Property → Property
replaced notes p = unwrap_or (find (same_key p) notes) p

-- each base property or what replaces it, and then the notes that replace none
abbrev pub merged : List Property → List Property → List Property
merged base notes = map (replaced notes) base ++ filter (λ note. not (list_any (same_key note) base)) notes

-- the effective properties of the occurrence at the path below the top
abbrev pub effective : Design → TopHead → List ℕ → List Property
effective d top path = merged (base_properties d top path) (notes_for (names_along d top.cell path) d.notes)
