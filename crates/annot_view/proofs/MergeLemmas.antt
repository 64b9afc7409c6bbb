-- The properties of an occurrence, from what was gathered.
use Rattle.std.proofs.Common.{◌≡◌, ℕ, List, [], map, ap, sym, ◌∙◌, Option, Some, None}
use Rattle.std.specs.List.{last_or}
use Rattle.std.specs.Option.{option_map_or}
use Rattle.std.specs.Borrow.{Bor}
use Rattle.netlist_schema.specs.Design.{Design}
use Rattle.netlist_schema.specs.Types.{Inst, Property, TopHead}
use Rattle.flat_spec.specs.Effective.{effective, insts_along, merged, notes_for}
use Rattle.annot_view.specs.Lent.{lent, lent_names}
use Rattle.annot_view.proofs.NameLemmas.{map-lent}

-- the properties that notes may change
abbrev base_from : TopHead → List Inst → List Property
base_from top insts = option_map_or (λ (inst : Inst). inst.properties) (last_or None insts) top.properties

pub effective_from_parts : (d : Design) (top : TopHead) (path : List ℕ) (insts : List (Bor Inst)) (notes base all : List Property) → d.top ≡ Some top
    → lent insts ≡ insts_along d top.cell path → notes ≡ notes_for (lent_names insts) d.notes → base ≡ base_from top (lent insts) → all ≡ merged base notes
    → all ≡ option_map_or (λ (t : TopHead). effective d t path) d.top []
effective_from_parts d top path insts notes base all here along picked own whole =
    whole
    ∙ (ap (λ ps. merged ps notes) own
    ∙ (ap (merged (base_from top (lent insts))) (picked ∙ ap (λ names. notes_for names d.notes) (sym (map-lent insts)))
    ∙ (ap (λ (is : List Inst). merged (base_from top is) (notes_for (map (λ (inst : Inst). inst.name.id) is) d.notes)) along
    ∙ ap (λ (t : Option TopHead). option_map_or (λ (t : TopHead). effective d t path) t []) (sym here))))
