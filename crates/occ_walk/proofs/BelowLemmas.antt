-- The frame of an occurrence below another.
use Rattle.std.proofs.Common.{◌≡◌, ◌<◌, ◌≤◌, ◌+◌, ℕ, suc, List, [], ◌∷◌, ◌++◌, length, get_or, refl, sym, ap, subst, arith, Some, None, Option, slice_get}
use Rattle.std.specs.Prelude.{◌↔◌, IsSome, option_and_then}
use Rattle.std.specs.List.{All, AllPairs, Contains}
use Rattle.std.specs.Option.{option_map_or}
use Rattle.std.proofs.lemmas.List.{get_or_default, length-append}
use Rattle.std.proofs.lemmas.Option.{get_or_from_slice_get, none-some, slice_get_within}
use Rattle.netlist_schema.specs.Design.{Design, cell_at, insts_of}
use Rattle.netlist_schema.specs.Hierarchy.{HasInst, insts_at}
use Rattle.netlist_schema.specs.Types.{CellBody, CellId, Inst}
use Rattle.netlist_schema.specs.Valid.{IsValid}
use Rattle.netlist_schema.proofs.Ranks.{depth, depth-le, depth_falls}
use Rattle.flat_spec.specs.Paths.{Reaches, at_root, nets_at}
use Rattle.flat_spec.proofs.PathLemmas.{Joins-net, Reaches-append, Reaches-cons, Reaches-parts}
use Rattle.net_classes.specs.Facts.{CellFacts, Facts, facts_at, first_in}
use Rattle.net_classes.specs.Joints.{IsNotBehind}
use Rattle.net_classes.specs.PortClasses.{AreFactsOf, IsJoint}
use Rattle.net_classes.specs.declared.joints.Joint.{Joint}
use Rattle.net_names.specs.Names.{AreHanded, AreNames, AreOwnNames, first_of, name_in}
use Rattle.net_names.specs.declared.names.NetName.{NetName}
use Rattle.net_names.proofs.NameLemmas.{handed_are_names, own_are_names}
use Rattle.path_texts.specs.Texts.{steps_text}
use Rattle.path_texts.proofs.StepLemmas.{more_text}
use Rattle.flat_items.specs.declared.notes.PlacedNotes.{PlacedNotes}
use Rattle.flat_items.specs.Stand.{IsFrame, IsGround, top_of}
use Rattle.flat_items.specs.declared.place.Frame.{Frame}
use Rattle.flat_items.proofs.NetLemmas.{IsToldOf, frame_told, net_is_named, reached_below}

-- a path has fewer steps than there are cells
depth_along : (d : Design) → IsValid d → (most : ℕ) → most ≡ 67108864 → (root c : CellId) (path : List ℕ) → Reaches d root path c → length path + depth d most c ≤ depth d most root
depth_along d valid most is root c [] at = let same : depth d most root ≡ depth d most c = ap (λ o. depth_or o) at in omega (arith, same)
  where
    depth_or : Option CellId → ℕ
    depth_or None = 0
    depth_or (Some v) = depth d most v
depth_along d valid most is root c (i ∷ path) at =
    let first = Reaches-parts d root i path c at in
    let has : HasInst d root first.0 = (i, slice_get_within _ i first.0 first.1, get_or_from_slice_get _ i first.0 first.0 first.1) in
    let falls = depth_falls d most root first.0 is valid has in
    let more = depth_along d valid most is first.0.of c path first.2 in
    omega (arith, falls, more)

pub path_is_short : (d : Design) → IsValid d → (root c : CellId) (path : List ℕ) → Reaches d root path c → length path ≤ 67108864
path_is_short d valid root c path at = short 67108864 refl
  where
    short : (most : ℕ) → most ≡ 67108864 → length path ≤ 67108864
    short most is = omega (arith, depth_along d valid most is root c path at, depth-le d most root, is)

insts_few : (d : Design) → IsValid d → (c : CellId) → length (insts_at d c) ≤ 1048576
insts_few d valid c = go (cell_at d c) refl
  where
    go : (o : Option CellBody) → cell_at d c ≡ o → length (option_map_or insts_of o []) ≤ 1048576
    go None is = omega arith
    go (Some body) is = (valid.cells c body is).limits.insts

pub next_is_small : (d : Design) → IsValid d → (c : CellId) (i : ℕ) (inst : Inst) → slice_get (insts_at d c) i ≡ Some inst → i < 1048576
next_is_small d valid c i inst at = omega (arith, slice_get_within (insts_at d c) i inst at, insts_few d valid c)

-- the joints of a cell, and its first nets, as they are looked up
abbrev pub joints_in : Facts → CellId → List Joint
joints_in facts c = option_map_or (λ (k : CellFacts). k.joints) (facts_at facts c) []

abbrev pub firsts_in : Facts → CellId → List ℕ
firsts_in facts c = option_map_or (λ (k : CellFacts). k.firsts) (facts_at facts c) []

module _ (d : Design) (facts : Facts) (notes : PlacedNotes) (ground : IsGround d facts notes) (path : List ℕ) (here : Frame) (frame : IsFrame d path here) where
  abbrev root : CellId
  root = (top_of d).cell

  told : IsToldOf d facts here.cell
  told = frame_told d facts notes ground path here frame

  joints_at : joints_in facts here.cell ≡ told.known.joints
  joints_at = ap (λ o. option_map_or (λ (k : CellFacts). k.joints) o []) told.is

  firsts_at : firsts_in facts here.cell ≡ told.known.firsts
  firsts_at = ap (λ o. option_map_or (λ (k : CellFacts). k.firsts) o []) told.is

  pub joints_in_order : AllPairs IsNotBehind (joints_in facts here.cell)
  joints_in_order = subst (AllPairs IsNotBehind) (sym joints_at) told.told.in_order

  joint_joins : (j : Joint) → Contains (joints_in facts here.cell) j → IsJoint d here.cell j
  joint_joins j has = (told.told.joints j).0 (subst (λ v. Contains v j) joints_at has)

  -- these are the joints of one instance
  abbrev pub AreOn : ℕ → List Joint → Type 0
  AreOn step on = (j : Joint) → Contains on j ↔ (Contains (joints_in facts here.cell) j × (j.inst ≡ step))

  pub joints_are_named : (step : ℕ) (on : List Joint) → AreOn step on → All (λ j. IsSome (name_in here.names.items (firsts_in facts here.cell) j.net)) on
  joints_are_named step on are k j within =
      let has = (are (get_or on k j)).0 (k, within, get_or_default on k (get_or on k j) j within) in
      let net = Joins-net d here.cell (at_root (get_or on k j).net) _ (joint_joins (get_or on k j) has.0) in
      let named = net_is_named d facts notes ground path here frame (get_or on k j).net net here.names.items (firsts_in facts here.cell) refl refl in
      some_is (name_in here.names.items (firsts_in facts here.cell) (get_or on k j).net) named.name named.found
    where
      some_is : (o : Option NetName) (name : NetName) → o ≡ Some name → IsSome o
      some_is None name is = absurd (none-some name is)
      some_is (Some v) name is = refl

  module _ (inst : Inst) (step : ℕ) (there : slice_get (insts_at d here.cell) step ≡ Some inst) where
    step_at : Reaches d here.cell (step ∷ []) inst.of
    step_at = Reaches-cons d here.cell step inst [] inst.of there refl

    reached : Reaches d root (path ++ step ∷ []) inst.of
    reached = Reaches-append d root here.cell inst.of path (step ∷ []) frame.reached step_at

    inner : (k : CellFacts) × (facts_at facts inst.of ≡ Some k) × AreFactsOf d inst.of k
    inner = ground.classes.cells inst.of (reached_below d root inst.of (path ++ step ∷ []) reached)

    text_more : steps_text d root (path ++ step ∷ []) ≡ steps_text d root path ++ 47 ∷ inst.name.id
    text_more = more_text d root here.cell path step inst frame.reached there

    end_more : (end : ℕ) → end ≡ here.end + 1 + length inst.name.id → end ≡ length (steps_text d root (path ++ step ∷ []))
    end_more end is = omega (arith, is, frame.end_is, ap length text_more, length-append (steps_text d root path) (47 ∷ inst.name.id))

    pub frame_is_below : (on : List Joint) → AreOn step on → (deep_at : ℕ) (new : Frame) → new.cell ≡ inst.of → deep_at ≡ suc (length path)
        → new.end ≡ here.end + 1 + length inst.name.id
        → AreHanded (first_of facts inst.of) (name_in here.names.items (firsts_in facts here.cell)) deep_at on (length (nets_at d inst.of)) new.names.items
        → IsFrame d (path ++ step ∷ []) new
    frame_is_below on are deep_at new cell depth_is end_is handed =
        let names : List NetName = new.names.items in
        let first : AreHanded (λ (j : Joint). first_in inner.0 (record { port = j.port; bit = j.bit })) (name_in here.names.items (firsts_in facts here.cell)) deep_at on (length (nets_at d inst.of)) names =
        subst (λ (o : Option CellFacts). AreHanded (λ (j : Joint). option_and_then (λ (k : CellFacts). first_in k (record { port = j.port; bit = j.bit })) o) (name_in here.names.items (firsts_in facts here.cell)) deep_at on (length (nets_at d inst.of)) names)
        inner.1 handed in
        let outside : AreHanded (λ (j : Joint). first_in inner.0 (record { port = j.port; bit = j.bit })) (name_in here.names.items told.known.firsts) deep_at on (length (nets_at d inst.of)) names =
        subst (λ v. AreHanded (λ (j : Joint). first_in inner.0 (record { port = j.port; bit = j.bit })) (name_in here.names.items v) deep_at on (length (nets_at d inst.of)) names) firsts_at first in
        let deep : AreHanded (λ (j : Joint). first_in inner.0 (record { port = j.port; bit = j.bit })) (name_in here.names.items told.known.firsts) (suc (length path)) on (length (nets_at d inst.of)) names =
        subst (λ v. AreHanded (λ (j : Joint). first_in inner.0 (record { port = j.port; bit = j.bit })) (name_in here.names.items told.known.firsts) v on (length (nets_at d inst.of)) names) depth_is outside in
        let are_names : AreNames d root (path ++ step ∷ []) inst.of names =
        handed_are_names d ground.valid root path here.cell inst.of step frame.reached step_at told.known inner.0 told.told inner.2 here.names.items frame.names on
        (λ j has. let at = (are j).0 has in (joint_joins j at.0, at.1))
        (λ j joins is. (are j).1 (subst (λ v. Contains v j) (sym joints_at) ((told.told.joints j).1 joins), is))
        names deep in
        record {
          reached = subst (λ (c : CellId). Reaches d root (path ++ step ∷ []) c) (sym cell) reached;
          names = subst (λ (c : CellId). AreNames d root (path ++ step ∷ []) c names) (sym cell) are_names;
          end_is = end_more new.end end_is;
        }

-- the frame of the top
pub top_is_frame : (d : Design) → IsValid d → (f : Frame) → (top_of d).cell ≡ f.cell → f.end ≡ 0 → AreOwnNames 0 (length (nets_at d f.cell)) f.names.items → IsFrame d [] f
top_is_frame d valid f is end_is own =
    let at_root : AreOwnNames 0 (length (nets_at d (top_of d).cell)) f.names.items = subst (λ (c : CellId). AreOwnNames 0 (length (nets_at d c)) f.names.items) (sym is) own in
    record {
      reached = ap Some is;
      names = subst (λ (c : CellId). AreNames d (top_of d).cell [] c f.names.items) is (own_are_names d valid (top_of d).cell f.names.items at_root);
      end_is = end_is;
    }
