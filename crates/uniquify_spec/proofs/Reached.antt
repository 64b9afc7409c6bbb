-- What is at the end of a path is a cell below the cell where it begins.
use Rattle.std.proofs.Common.{◌≡◌, ℕ, List, [], ◌∷◌, refl, subst, Option, Some, None, true}
use Rattle.std.specs.Prelude.{slice_get, is_some, IfSome, option_and_then}
use Rattle.std.specs.Option.{option_map_or}
use Rattle.std.proofs.lemmas.Option.{none-some}
use Rattle.netlist_schema.specs.Design.{Design, cell_at, insts_in, insts_of}
use Rattle.netlist_schema.specs.Hierarchy.{IsCell, IsBelow, placed, deeper, insts_at}
use Rattle.netlist_schema.specs.Names.{HasDistinctKeys}
use Rattle.netlist_schema.specs.Types.{CellBody, CellId, Contents, Inst, TopHead}
use Rattle.netlist_schema.specs.Valid.{IsValid}
use Rattle.edit_rules_spec.specs.Objects.{IsClosed}
use Rattle.flat_spec.specs.Paths.{Reaches}
use Rattle.flat_spec.proofs.ListLemmas.{slice_get-contains}
use Rattle.flat_spec.proofs.PathLemmas.{Some-same, Reaches-parts}
use Rattle.uniquify_spec.specs.Blocks.{is_block}

pub reached_is_below : (d : Design) (path : List ℕ) (i : ℕ) (c k : CellId) → Reaches d c (i ∷ path) k → IsBelow d k c
reached_is_below d [] i c k reached =
    let parts = Reaches-parts d c i [] k reached in
    let same : parts.0.of ≡ k = Some-same (Some parts.0.of) refl parts.2 in
    subst (λ x. IsBelow d x c) same (placed parts.0 (slice_get-contains (insts_at d c) i parts.0 parts.1))
reached_is_below d (j ∷ path) i c k reached =
    let parts = Reaches-parts d c i (j ∷ path) k reached in
    deeper parts.0 (slice_get-contains (insts_at d c) i parts.0 parts.1) (reached_is_below d path j parts.0.of k parts.2)

below_is_cell : (d : Design) → IsClosed d → {a b : CellId} → IsBelow d a b → IsCell d a
below_is_cell d closed (placed {id} inst has) = closed id inst has
below_is_cell d closed (deeper inst has below) = below_is_cell d closed below

pub reached_is_cell : (d : Design) → IsClosed d → (r : CellId) → IsCell d r → (path : List ℕ) (c : CellId) → Reaches d r path c → IsCell d c
reached_is_cell d closed r is [] c reached = subst (λ k. IsCell d k) (Some-same (Some r) refl reached) is
reached_is_cell d closed r is (i ∷ path) c reached = below_is_cell d closed (reached_is_below d path i r c reached)

-- the top is a cell
pub top_is_cell : (d : Design) (top : TopHead) → d.top ≡ Some top → IsValid d → IsCell d top.cell
top_is_cell d top at valid = (subst (λ (o : Option TopHead). IfSome o (λ t. IsCell d t.cell × HasDistinctKeys t.properties)) at valid.top).0

-- a cell with an instance is a block
has_contents : (o : Option Contents) (i : ℕ) (inst : Inst) → slice_get (insts_in o) i ≡ Some inst → is_some o ≡ true
has_contents None i inst is = absurd (none-some inst is)
has_contents (Some contents) i inst is = refl

pub block_of_inst : (d : Design) (c : CellId) (i : ℕ) (inst : Inst) → slice_get (insts_at d c) i ≡ Some inst → is_block d c ≡ true
block_of_inst d c i inst is = at (cell_at d c) is
  where
    at : (o : Option CellBody) → slice_get (option_map_or insts_of o []) i ≡ Some inst → is_some (option_and_then (λ (b : CellBody). b.contents) o) ≡ true
    at None is = absurd (none-some inst is)
    at (Some body) is = has_contents body.contents i inst is

-- ---- lists
