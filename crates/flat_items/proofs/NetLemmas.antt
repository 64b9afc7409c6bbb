-- The nets of an occurrence by the names of its frame.
use Rattle.std.proofs.Common.{◌≡◌, ◌≤◌, ℕ, List, [], ◌∷◌, length, sym, ap, subst, ◌∙◌, inl, inr, Some}
use Rattle.std.specs.Option.{option_map_or}
use Rattle.std.proofs.lemmas.Option.{same_Some, slice_get_within, get_or_from_slice_get}
use Rattle.netlist_schema.specs.Design.{Design}
use Rattle.netlist_schema.specs.Hierarchy.{HasInst, IsBelow, placed, deeper}
use Rattle.netlist_schema.specs.Types.{CellId}
use Rattle.flat_spec.specs.Paths.{IsNet, Reaches, at_path, at_root}
use Rattle.flat_spec.specs.Representatives.{representative}
use Rattle.flat_spec.proofs.PathLemmas.{Reaches-parts}
use Rattle.flat_cells.specs.Below.{IsAtOrBelow}
use Rattle.net_classes.specs.Facts.{CellFacts, Facts, facts_at}
use Rattle.net_classes.specs.PortClasses.{AreFactsOf}
use Rattle.net_names.specs.Names.{name_in, net_named}
use Rattle.net_names.specs.declared.names.NetName.{NetName}
use Rattle.net_names.proofs.NameLemmas.{name_known}
use Rattle.flat_items.specs.declared.notes.PlacedNotes.{PlacedNotes}
use Rattle.flat_items.specs.Stand.{IsFrame, IsGround, top_of}
use Rattle.flat_items.specs.declared.place.Frame.{Frame}

-- a path leads from a cell to itself or to a cell below it
pub reached_below : (d : Design) (root c : CellId) (path : List ℕ) → Reaches d root path c → IsAtOrBelow d root c
reached_below d root c [] is = inl (sym (same_Some root c is))
reached_below d root c (i ∷ path) is =
    let first = Reaches-parts d root i path c is in
    let has : HasInst d root first.0 = (i, slice_get_within _ i first.0 first.1, get_or_from_slice_get _ i first.0 first.0 first.1) in
    elim (reached_below d first.0.of c path first.2) [
      | inl same ↦ inr (subst (λ (v : CellId). IsBelow d v root) (sym same) (placed first.0 has))
      | inr below ↦ inr (deeper first.0 has below)
    ]

-- what is known of the frame's cell
pub record IsToldOf (d : Design) (facts : Facts) (c : CellId) : Type 0 where
  pub known : CellFacts
  pub is : facts_at facts c ≡ Some known
  pub told : AreFactsOf d c known

pub frame_told : (d : Design) (facts : Facts) (notes : PlacedNotes) → IsGround d facts notes → (path : List ℕ) (f : Frame) → IsFrame d path f → IsToldOf d facts f.cell
frame_told d facts notes ground path f frame =
    let at = ground.classes.cells f.cell (reached_below d (top_of d).cell f.cell path frame.reached) in
    record { known = at.0; is = at.1; told = at.2 }

-- a name in these lists, which is the net's representative
pub record IsNamed (d : Design) (path : List ℕ) (names : List NetName) (firsts : List ℕ) (n : ℕ) : Type 0 where
  pub name : NetName
  pub found : name_in names firsts n ≡ Some name
  pub is : net_named path name ≡ representative d (top_of d).cell (at_path path n)
  pub shallow : name.depth ≤ length path

pub net_is_named : (d : Design) (facts : Facts) (notes : PlacedNotes) → IsGround d facts notes → (path : List ℕ) (f : Frame) → IsFrame d path f
    → (n : ℕ) → IsNet d f.cell (at_root n) → (names : List NetName) (firsts : List ℕ) → names ≡ f.names.items
    → firsts ≡ option_map_or (λ (k : CellFacts). k.firsts) (facts_at facts f.cell) [] → IsNamed d path names firsts n
net_is_named d facts notes ground path f frame n net names firsts names_are firsts_are =
    let at = frame_told d facts notes ground path f frame in
    let known = name_known d ground.valid (top_of d).cell path f.cell frame.reached at.known at.told f.names.items frame.names n net in
    let firsts_at : firsts ≡ at.known.firsts = firsts_are ∙ ap (λ o. option_map_or (λ (k : CellFacts). k.firsts) o []) at.is in
    record {
      name = known.0;
      found = ap (λ v. name_in v firsts n) names_are ∙ ap (λ v. name_in f.names.items v n) firsts_at ∙ known.1;
      is = known.2;
      shallow = known.3;
    }
