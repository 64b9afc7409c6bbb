-- The arguments of a form, as they are written one after another.
use Rattle.std.specs.Prelude.{ℕ, suc, List, [], ◌∷◌, ◌++◌, Option, Some, None}
use Rattle.std.specs.List.{flat_map}
use Rattle.edif_spelling_spec.specs.Tree.{Bare, word}
use Rattle.edif_spec.specs.Canonical.{layout, make, new_line, string_text}
use Rattle.edif_spec.specs.Design as design
use Rattle.edif_spec.specs.declared.keyword.Keyword.TheVariants as keywords

-- on the line of the form, each behind a blank
abbrev pub spaced : ℕ → List Bare → List ℕ
spaced level ts = flat_map (λ t. 32 ∷ layout (suc level) t) ts

-- each on a line of its own
abbrev pub lined : ℕ → List Bare → List ℕ
lined level ts = flat_map (λ t. new_line level ++ layout (suc level) t) ts

-- a text, where there is one, between the beginning of its form and `)`
abbrev pub enclosed : List ℕ → Option (List ℕ) → List ℕ
enclosed opening None = []
enclosed opening (Some text) = opening ++ (string_text text ++ 41 ∷ [])

-- a reference to the instance at a place
abbrev pub instance_ref_tree : List design.Inst → ℕ → Bare
instance_ref_tree insts place = make keywords.InstanceRef (word (design.inst_id insts place) ∷ [])
