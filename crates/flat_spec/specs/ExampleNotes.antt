-- A note gives one of two occurrences of an instance another value.
use Rattle.std.specs.Prelude.{◌≡◌, List, [], ◌∷◌, codes}
use Rattle.netlist_schema.specs.Design.{Design}
use Rattle.flat_spec.specs.Effective.{merged}
use Rattle.flat_spec.specs.ExampleParts.{named, id_of, inst, says, leaf, body, lib, top}
use Rattle.flat_spec.specs.Flattening.{flattening}
use Rattle.flat_spec.specs.declared.item.Item.{Item}
use Rattle.flat_spec.specs.declared.item.Item.TheVariants.{Enter}

-- two blocks with a table in each, and a note for the table in u1
abbrev pub pair : Design
pair = record {
  title = named (codes "e");
  libs =
      lib (codes "w") (
      leaf (codes "table") []
      ∷ body (codes "block") [] (inst (codes "u2") (id_of 0 0) (says (codes "INIT") (codes "0") ∷ []) ∷ []) []
      ∷ body (codes "pair") [] (inst (codes "u1") (id_of 0 1) [] ∷ inst (codes "u3") (id_of 0 1) [] ∷ []) []
      ∷ []
      )
      ∷ [];
  top = top (codes "pair") (id_of 0 2) [];
  notes = record { path = codes "u1" ∷ codes "u2" ∷ []; property = says (codes "INIT") (codes "1") } ∷ [];
}

-- the table in u1 has the value of the note, and the one in u3 that of its instance
abbrev pub pair_items : List Item
pair_items =
    Enter [] (id_of 0 2) []
    ∷ Enter (0 ∷ []) (id_of 0 1) []
    ∷ Enter (0 ∷ 0 ∷ []) (id_of 0 0) (says (codes "INIT") (codes "1") ∷ [])
    ∷ Enter (1 ∷ []) (id_of 0 1) []
    ∷ Enter (1 ∷ 0 ∷ []) (id_of 0 0) (says (codes "INIT") (codes "0") ∷ [])
    ∷ []

-- the flattening of the pair is these items
abbrev pub PairIsFlattened : Type 0
PairIsFlattened = flattening pair ≡ pair_items

-- a note replaces the property of its key in that property's place, and the notes of other keys come after, in their order
abbrev pub NotesAreMerged : Type 0
NotesAreMerged =
    merged
    (says (codes "A") (codes "0") ∷ says (codes "B") (codes "0") ∷ says (codes "C") (codes "0") ∷ [])
    (says (codes "X") (codes "1") ∷ says (codes "B") (codes "1") ∷ says (codes "a") (codes "1") ∷ [])
    ≡ says (codes "A") (codes "0") ∷ says (codes "B") (codes "1") ∷ says (codes "C") (codes "0")
    ∷ says (codes "X") (codes "1") ∷ says (codes "a") (codes "1") ∷ []
