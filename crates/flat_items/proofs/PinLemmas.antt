-- The net at a pin, in the top's own contents or in those of the parent.
use Rattle.std.proofs.Common.{◌≡◌, ℕ, List, [], ◌∷◌, ◌++◌, refl, sym, ap, subst, ◌∙◌, Some, None, Option, slice_get}
use Rattle.std.specs.Prelude.{option_and_then}
use Rattle.std.specs.List.{AllPairs, Contains}
use Rattle.std.specs.Option.{option_map, option_map_or}
use Rattle.std.proofs.lemmas.List.{same_from_push}
use Rattle.std.proofs.lemmas.Option.{same_Some}
use Rattle.netlist_schema.specs.Design.{Design}
use Rattle.netlist_schema.specs.Types.{CellId}
use Rattle.flat_spec.specs.Paths.{Bit, Joins, at_path, at_root, on, own}
use Rattle.flat_spec.specs.Pins.{JoinsPin, net_at_pin, own_bits}
use Rattle.flat_spec.specs.declared.item.NetAt.{NetAt}
use Rattle.flat_spec.proofs.PathLemmas.{Joins-inward_here, Joins-outward_here}
use Rattle.flat_spec.proofs.PinLemmas.{net_at_pin-from, net_at_pin-joins}
use Rattle.net_classes.specs.Facts.{CellFacts, Facts, entry, facts_at}
use Rattle.net_classes.specs.Joints.{IsNotBehind}
use Rattle.net_classes.specs.PortClasses.{IsNetAnswer}
use Rattle.net_classes.specs.declared.joints.Joint.{Joint}
use Rattle.net_names.specs.Search.{IsNetFound, joint_at}
use Rattle.flat_items.specs.declared.notes.PlacedNotes.{PlacedNotes}
use Rattle.flat_items.specs.Stand.{IsFrame, IsGround, top_of}
use Rattle.flat_items.specs.declared.place.Frame.{Frame}
use Rattle.flat_items.proofs.NetLemmas.{IsToldOf, frame_told}

none_of : {A : Type 0} (o : Option A) → ((x : A) → o ≡ Some x → ⊥) → o ≡ None
none_of None none = refl
none_of (Some x) none = absurd (none x refl)

-- a net of the parent that joins the bit on the instance joins the pin, and no other does
joins_outer : (d : Design) (root : CellId) (path : List ℕ) (step : ℕ) (b : Bit) (n : ℕ) → Joins d root (at_path path n) (on step b)
    → JoinsPin d root (at_path path n) (path ++ step ∷ []) b
joins_outer d root [] step b n j = (step, refl, j)
joins_outer d root (i ∷ path) step b n j = (step, refl, j)

outer_joins : (d : Design) (root : CellId) (path : List ℕ) (step : ℕ) (b : Bit) (x : NetAt) → JoinsPin d root x (path ++ step ∷ []) b
    → Joins d root (at_path path x.net) (on step b)
outer_joins d root path step b x j = go path refl j
  where
    from : (s : ℕ) → path ++ step ∷ [] ≡ x.path ++ s ∷ [] → Joins d root x (on s b) → Joins d root (at_path path x.net) (on step b)
    from s is joins =
        let same = same_from_push path x.path step s is in
        subst (λ p. Joins d root (at_path p x.net) (on step b)) (sym same.0) (subst (λ v. Joins d root x (on v b)) (sym same.1) joins)

    go : (p : List ℕ) → path ≡ p → JoinsPin d root x (p ++ step ∷ []) b → Joins d root (at_path path x.net) (on step b)
    go [] is j = from j.0 (ap (λ v. v ++ step ∷ []) is ∙ j.1) j.2
    go (i ∷ p) is j = from j.0 (ap (λ v. v ++ step ∷ []) is ∙ j.1) j.2

module _ (d : Design) (facts : Facts) (notes : PlacedNotes) (ground : IsGround d facts notes) where
  -- at the top
  pub record IsInside (f : Frame) (b : Bit) (o : Option ℕ) : Type 0 where
    pub answer : IsNetAnswer d f.cell b o
    pub pin : net_at_pin d (top_of d).cell [] b ≡ option_map (at_path []) o

  pub pin_inside : (f : Frame) → IsFrame d [] f → (number : ℕ) (b : Bit) → slice_get (own_bits d f.cell) number ≡ Some b
      → (o : Option ℕ) → o ≡ option_and_then (λ (k : CellFacts). entry k.nets number) (facts_at facts f.cell) → IsInside f b o
  pin_inside f frame number b at o is =
      let told = frame_told d facts notes ground [] f frame in
      let entry_is : entry told.known.nets number ≡ o = sym (is ∙ ap (option_and_then (λ (k : CellFacts). entry k.nets number)) told.is) in
      let answer : IsNetAnswer d f.cell b o = subst (λ v. IsNetAnswer d f.cell b v) entry_is (told.told.nets number b at) in
      let top : (top_of d).cell ≡ f.cell = same_Some (top_of d).cell f.cell frame.reached in
      record { answer = answer; pin = subst (λ (c : CellId). net_at_pin d c [] b ≡ option_map (at_path []) o) (sym top) (go o answer) }
    where
      go : (o : Option ℕ) → IsNetAnswer d f.cell b o → net_at_pin d f.cell [] b ≡ option_map (at_path []) o
      go None none =
          none_of (net_at_pin d f.cell [] b) (λ (x : NetAt) found.
          let j = net_at_pin-joins d f.cell [] b x found in
          none x.net (subst (λ p. Joins d f.cell (at_path p x.net) (own b)) j.0 j.1))
      go (Some n) joins = net_at_pin-from d ground.valid f.cell [] b (at_root n) (refl, joins)

  -- the joints of a cell are in order
  pub joints_ordered : (path : List ℕ) (f : Frame) → IsFrame d path f → (joints : List Joint) → joints ≡ option_map_or (λ (k : CellFacts). k.joints) (facts_at facts f.cell) []
      → AllPairs IsNotBehind joints
  joints_ordered path f frame joints are =
      let told = frame_told d facts notes ground path f frame in
      let same : joints ≡ told.known.joints = are ∙ ap (λ v. option_map_or (λ (k : CellFacts). k.joints) v []) told.is in
      subst (AllPairs IsNotBehind) (sym same) told.told.in_order

  -- below it
  pub record IsOutside (path : List ℕ) (f : Frame) (step : ℕ) (b : Bit) (o : Option ℕ) : Type 0 where
    pub joins : (n : ℕ) → o ≡ Some n → Joins d f.cell (at_root n) (on step b)
    pub pin : net_at_pin d (top_of d).cell (path ++ step ∷ []) b ≡ option_map (at_path path) o

  pub pin_outside : (path : List ℕ) (f : Frame) → IsFrame d path f → (step : ℕ) (b : Bit) (joints : List Joint)
      → joints ≡ option_map_or (λ (k : CellFacts). k.joints) (facts_at facts f.cell) [] → (o : Option ℕ) → IsNetFound joints step b o → IsOutside path f step b o
  pin_outside path f frame step b joints are o found = record { joins = λ n is. join n (subst (λ v. IsNetFound joints step b v) is found); pin = go o found }
    where
      root : CellId
      root = (top_of d).cell

      told : IsToldOf d facts f.cell
      told = frame_told d facts notes ground path f frame

      joints_at : joints ≡ told.known.joints
      joints_at = are ∙ ap (λ v. option_map_or (λ (k : CellFacts). k.joints) v []) told.is

      join : (n : ℕ) → Contains joints (joint_at step b n) → Joins d f.cell (at_root n) (on step b)
      join n has = (told.told.joints (joint_at step b n)).0 (subst (λ v. Contains v (joint_at step b n)) joints_at has)

      go : (o : Option ℕ) → IsNetFound joints step b o → net_at_pin d root (path ++ step ∷ []) b ≡ option_map (at_path path) o
      go None none =
          none_of (net_at_pin d root (path ++ step ∷ []) b) (λ (x : NetAt) found.
          let j = outer_joins d root path step b x (net_at_pin-joins d root (path ++ step ∷ []) b x found) in
          let inner = Joins-inward_here d root f.cell path x.net (on step b) frame.reached j in
          none x.net (subst (λ v. Contains v (joint_at step b x.net)) (sym joints_at) ((told.told.joints (joint_at step b x.net)).1 inner)))
      go (Some n) has =
          net_at_pin-from d ground.valid root (path ++ step ∷ []) b (at_path path n)
          (joins_outer d root path step b n (Joins-outward_here d root f.cell path n (on step b) frame.reached (join n has)))
