-- Two blocks with a table in each, made unique: the second one gets a copy.
use Rattle.std.specs.Prelude.{◌≡◌, ℕ, List, [], ◌∷◌, map, codes}
use Rattle.netlist_schema.specs.Design.{Design}
use Rattle.netlist_schema.specs.Names.{cell_names}
use Rattle.edit_rules_spec.specs.declared.reply.Reply.TheVariants.{Copies}
use Rattle.flat_spec.specs.ExampleNotes.{pair}
use Rattle.flat_spec.specs.ExampleParts.{id_of, says}
use Rattle.flat_spec.specs.Flattening.{flattening}
use Rattle.flat_spec.specs.Types.{Item}
use Rattle.flat_spec.specs.declared.item.Item.TheVariants.{Enter}
use Rattle.uniquify_spec.specs.Rows.{uniquified}

-- the names in the libraries
abbrev pub directories : Design → List (List (List ℕ))
directories d = map (λ lib. cell_names lib.cells) d.libs

-- as before, but for the cell at u3
abbrev pub unique_pair_items : List Item
unique_pair_items =
    Enter [] (id_of 0 2) []
    ∷ Enter (0 ∷ []) (id_of 0 1) []
    ∷ Enter (0 ∷ 0 ∷ []) (id_of 0 0) (says (codes "INIT") (codes "1") ∷ [])
    ∷ Enter (1 ∷ []) (id_of 0 3) []
    ∷ Enter (1 ∷ 0 ∷ []) (id_of 0 0) (says (codes "INIT") (codes "0") ∷ [])
    ∷ []

pub record PairIsUnique : Type 0 where
  pub reply : (uniquified pair).reply ≡ Copies 1
  pub directory : directories (uniquified pair).design ≡ (codes "table" ∷ codes "block" ∷ codes "pair" ∷ codes "block_u1" ∷ []) ∷ []
  pub items : flattening (uniquified pair).design ≡ unique_pair_items
  -- once more makes no copy
  pub again : (uniquified (uniquified pair).design).reply ≡ Copies 0
