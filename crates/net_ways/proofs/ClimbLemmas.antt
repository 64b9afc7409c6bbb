-- A net of an occurrence has the first net of its parent's net that is connected with it, or that of the same contents.
use Rattle.std.proofs.Common.{◌≡◌, ◌<◌, ◌≤◌, ℕ, List, [], ◌∷◌, ◌++◌, length, refl, sym, ap, subst, ◌∙◌, ◌+◌, ◌-◌, Some, None, Option, slice_get, take, arith}
use Rattle.std.specs.List.{AllPairs, Contains}
use Rattle.std.specs.Option.{option_map, option_map_or}
use Rattle.std.specs.Prelude.{IsSome, option_and_then}
use Rattle.std.proofs.lemmas.List.{take_all, take_more}
use Rattle.std.proofs.lemmas.Option.{get_or_from_slice_get, none-some, same_Some, slice_get_within}
use Rattle.netlist_schema.specs.Design.{Design, cell_at, insts_of}
use Rattle.netlist_schema.specs.Hierarchy.{IsCell, insts_at}
use Rattle.netlist_schema.specs.Types.{CellBody, CellId, Inst}
use Rattle.flat_spec.specs.HandedDown.{IsFirstInside, IsHandedDown}
use Rattle.flat_spec.specs.Paths.{Bit, IsNet, Joins, Reaches, at_path, at_root, cell_along, nets_at, on, own}
use Rattle.flat_spec.specs.Pins.{own_bits}
use Rattle.flat_spec.specs.Representatives.{representative}
use Rattle.flat_spec.specs.Types.{NetAt}
use Rattle.flat_spec.proofs.BitLemmas.{on_there, own_there}
use Rattle.flat_spec.proofs.ConnectionLemmas.{Connected-same}
use Rattle.flat_spec.proofs.FirstLemmas.{firsts-connected, firsts-same, own_bit-once}
use Rattle.flat_spec.proofs.HandedDownLemmas.{first_inside, representative-handed, representative-untouched}
use Rattle.flat_spec.proofs.PathLemmas.{IsNet-from, IsNet-parts, Joins-inward_here, Joins-net, Joins-outward_here, Reaches-append, Reaches-front, Reaches-parts, Some-same}
use Rattle.flat_spec.proofs.RepresentativeLemmas.{Connected-net}
use Rattle.net_classes.specs.Facts.{CellFacts, Facts, first_at, first_in}
use Rattle.net_classes.specs.Inside.{IsFirstAt}
use Rattle.net_classes.specs.Joints.{IsNotBehind}
use Rattle.net_classes.specs.PortClasses.{IsJoint}
use Rattle.net_classes.specs.declared.joints.Joint.{Joint}
use Rattle.flat_items.specs.declared.notes.PlacedNotes.{PlacedNotes}
use Rattle.flat_items.specs.Stand.{IsGround, top_of}
use Rattle.flat_items.proofs.NetLemmas.{IsToldOf, reached_below}
use Rattle.ask_spec.specs.Nets.{first_of}
use Rattle.ask_spec.proofs.ClassLemmas.{first_is as class_first, own_of_no_net}
use Rattle.net_ways.specs.Climb.{AreCellsOn, IsNetOn}
use Rattle.net_ways.specs.Ways.{AreWaysInto, IsOuter, firsts_in, joints_in, lead_of, way_of}
use Rattle.net_ways.specs.declared.ways.Way.{Way}

-- inside the cell of its instance the joint leads to this first net
abbrev pub LeadsInto : Facts → CellId → ℕ → Joint → Type 0
LeadsInto facts cell first j = first_at facts cell (record { port = j.port; bit = j.bit }) ≡ Some first

-- a net outside that joins a bit of the instance which is connected inside with this first net; none where no net does
abbrev pub IsOuterNet : Facts → CellId → ℕ → CellId → ℕ → Option ℕ → Type 0
IsOuterNet facts up step cell first None = (j : Joint) → Contains (joints_in facts up) j → j.inst ≡ step → LeadsInto facts cell first j → ⊥
IsOuterNet facts up step cell first (Some m) =
    (j : Joint) × Contains (joints_in facts up) j × (j.inst ≡ step) × LeadsInto facts cell first j × (j.net ≡ m)

module _ (d : Design) (facts : Facts) (notes : PlacedNotes) (ground : IsGround d facts notes) where
  abbrev root : CellId
  root = (top_of d).cell

  module _ (path : List ℕ) (c : CellId) (at : Reaches d root path c) where
    pub told_at : IsToldOf d facts c
    told_at = let k = ground.classes.cells c (reached_below d root c path at) in record { known = k.0; is = k.1; told = k.2 }

    pub joints_at : joints_in facts c ≡ told_at.known.joints
    joints_at = ap (λ o. option_map_or (λ (k : CellFacts). k.joints) o []) told_at.is

    pub firsts_at : firsts_in facts c ≡ told_at.known.firsts
    firsts_at = ap (λ o. option_map_or (λ (k : CellFacts). k.firsts) o []) told_at.is

    pub first_at_is : (b : Bit) → first_at facts c b ≡ first_in told_at.known b
    first_at_is b = ap (option_and_then (λ (k : CellFacts). first_in k b)) told_at.is

    pub ordered : AllPairs IsNotBehind (joints_in facts c)
    ordered = subst (AllPairs IsNotBehind) (sym joints_at) told_at.told.in_order

    pub joint_joins : (j : Joint) → Contains (joints_in facts c) j → IsJoint d c j
    joint_joins j has = (told_at.told.joints j).0 (subst (λ v. Contains v j) joints_at has)

    pub joins_joint : (j : Joint) → IsJoint d c j → Contains (joints_in facts c) j
    joins_joint j joins = subst (λ v. Contains v j) (sym joints_at) ((told_at.told.joints j).1 joins)

    -- the first net inside of a net
    pub first_of_net : (n : ℕ) → IsNet d c (at_root n) → (first : ℕ) × (slice_get (firsts_in facts c) n ≡ Some first) × IsFirstInside d c n first
    first_of_net n net = let k = told_at.told.firsts n net in (k.0, ap (λ v. slice_get v n) firsts_at ∙ k.1, k.2)

    pub first_is : (n first : ℕ) → IsNet d c (at_root n) → slice_get (firsts_in facts c) n ≡ Some first → IsFirstInside d c n first
    first_is n first net is = let k = first_of_net n net in subst (IsFirstInside d c n) (same_Some k.0 first (sym k.1 ∙ is)) k.2

    pub net_has_first : (n : ℕ) → IsNet d c (at_root n) → n < length (firsts_in facts c)
    net_has_first n net = let k = first_of_net n net in slice_get_within (firsts_in facts c) n k.0 k.1

  -- at the top
  pub at_top : (n first : ℕ) (c : CellId) → Reaches d root [] c → IsNet d c (at_root n) → IsFirstInside d c n first → representative d root (at_root n) ≡ at_root first
  at_top n first c at net is =
      let same : root ≡ c = same_Some root c at in
      let there = first_inside d c n ground.valid.no_cycle net in
      let one : there.0 ≡ first = firsts-same d c n n there.0 first there.1 is (Connected-same d c (at_root n)) in
      subst (λ (v : CellId). representative d v (at_root n) ≡ at_root first) (sym same) (there.2 ∙ ap at_root one)

  -- below it
  module _ (path : List ℕ) (up cell : CellId) (step : ℕ) (up_at : Reaches d root path up) (at : Reaches d root (path ++ step ∷ []) cell) where
    step_at : (b : Bit) (m : ℕ) → Joins d up (at_root m) (on step b) → (Contains (own_bits d cell) b)
    step_at b m joins =
        let bit = on_there d up m step b ground.valid joins in
        let reached : Reaches d root (path ++ step ∷ []) bit.0 = Reaches-append d root up bit.0 path (step ∷ []) up_at bit.1 in
        let same : bit.0 ≡ cell = Some-same _ reached at in
        subst (λ (v : CellId). Contains (own_bits d v) b) same bit.2

    -- the first net inside of a joint's bit is that of a net inside that joins it
    pub leads_inside : (j : Joint) (first : ℕ) → IsJoint d up j → j.inst ≡ step → LeadsInto facts cell first j
        → (m : ℕ) × Joins d cell (at_root m) (own (record { port = j.port; bit = j.bit })) × IsFirstInside d cell m first
    leads_inside j first joins is leads =
        let b : Bit = record { port = j.port; bit = j.bit } in
        let there = step_at b j.net (subst (λ s. Joins d up (at_root j.net) (on s b)) is joins) in
        subst (λ o. IsFirstAt d cell b o) (sym (first_at_is (path ++ step ∷ []) cell at b) ∙ leads) ((told_at (path ++ step ∷ []) cell at).told.inside b there)

    pub handed_by : (n first : ℕ) (j : Joint) → IsFirstInside d cell n first → IsJoint d up j → j.inst ≡ step → LeadsInto facts cell first j
        → IsHandedDown d root (record { parent = path; step = step; cell = cell }) j.net n
    handed_by n first j is joins on_it leads =
        let b : Bit = record { port = j.port; bit = j.bit } in
        let inner = leads_inside j first joins on_it leads in
        record {
          joint = b;
          inside = (inner.0, inner.1, firsts-connected d cell inner.0 n first inner.2 is);
          outside = Joins-outward_here d root up path j.net (on step b) up_at (subst (λ s. Joins d up (at_root j.net) (on s b)) on_it joins);
        }

    -- a joint of each net that is handed down leads to the first net
    pub handed_has : (n first m : ℕ) → IsFirstInside d cell n first → IsHandedDown d root (record { parent = path; step = step; cell = cell }) m n
        → (j : Joint) × Contains (joints_in facts up) j × (j.inst ≡ step) × LeadsInto facts cell first j × (j.net ≡ m)
    handed_has n first m is h =
        let joins : Joins d up (at_root m) (on step h.joint) = Joins-inward_here d root up path m (on step h.joint) up_at h.outside in
        let j : Joint = record { inst = step; port = h.joint.port; bit = h.joint.bit; net = m } in
        let there = own_there d cell h.inside.0 h.joint ground.valid h.inside.1 in
        (j, joins_joint path up up_at j joins, refl, first_at_is (path ++ step ∷ []) cell at h.joint ∙ go (first_in (told_at (path ++ step ∷ []) cell at).known h.joint) ((told_at (path ++ step ∷ []) cell at).told.inside h.joint there), refl)
      where
        go : (o : Option ℕ) → IsFirstAt d cell h.joint o → o ≡ Some first
        go None none = absurd (none h.inside.0 h.inside.1)
        go (Some f) some =
            let one : some.0 ≡ h.inside.0 = own_bit-once d ground.valid cell h.joint some.0 h.inside.0 some.1 h.inside.1 in
            let first_f : IsFirstInside d cell h.inside.0 f = subst (λ v. IsFirstInside d cell v f) one some.2 in
            ap Some (firsts-same d cell h.inside.0 n f first first_f is h.inside.2)

    -- the net outside has the same first net; where none is, the first net inside is the first of all
    pub outer_is : (n first m : ℕ) → IsFirstInside d cell n first → IsOuterNet facts up step cell first (Some m)
        → IsNet d up (at_root m) × (representative d root (at_path (path ++ step ∷ []) n) ≡ representative d root (at_path path m))
    outer_is n first m is h =
        let joins = joint_joins path up up_at h.0 h.1 in
        let handed = handed_by n first h.0 is joins h.2 h.3 in
        let same = representative-handed d root (record { parent = path; step = step; cell = cell }) at h.0.net n ground.valid.no_cycle handed in
        (subst (λ v. IsNet d up (at_root v)) h.4 (Joins-net d up (at_root h.0.net) (on h.0.inst (record { port = h.0.port; bit = h.0.bit })) joins), same ∙ ap (λ v. representative d root (at_path path v)) h.4)

    pub none_outer : (n first : ℕ) → IsNet d cell (at_root n) → IsFirstInside d cell n first → IsOuterNet facts up step cell first None
        → representative d root (at_path (path ++ step ∷ []) n) ≡ at_path (path ++ step ∷ []) first
    none_outer n first net is none =
        representative-untouched d root (record { parent = path; step = step; cell = cell }) at n first ground.valid.no_cycle net
        (λ m h. let j = handed_has n first m is h in none j.0 j.1 j.2 j.3) is

  no_steps : (path : List ℕ) → length path ≡ 0 → path ≡ []
  no_steps [] e = refl
  no_steps (i ∷ path) e = absurd (omega (arith, e))

  -- what a climb gives at the top, where it goes on, and where it ends below
  pub top_named : (path : List ℕ) (c : CellId) (n first : ℕ) → length path ≡ 0 → Reaches d root path c → IsNet d c (at_root n)
      → slice_get (firsts_in facts c) n ≡ Some first → at_path path first ≡ representative d root (at_path path n)
  top_named path c n first none at net is =
      let empty = no_steps path none in
      let at_it = subst (λ p. Reaches d root p c) empty at in
      let same = at_top n first c at_it net (first_is path c at n first net is) in
      subst (λ p. at_path p first ≡ representative d root (at_path p n)) (sym empty) (sym same)

  module _ (path above : List ℕ) (step : ℕ) (is : path ≡ above ++ step ∷ []) (cell : CellId) (at : Reaches d root path cell) where
    pub above_there : (c : CellId) × Reaches d root above c × ((inst : Inst) × (slice_get (insts_at d c) step ≡ Some inst))
    above_there =
        let front = Reaches-front d root cell above (step ∷ []) (subst (λ p. Reaches d root p cell) is at) in
        let last = Reaches-parts d front.0 step [] cell front.2 in
        (front.0, front.1, (last.0, last.1))

    module _ (up : CellId) (up_at : Reaches d root above up) (n first : ℕ) (net : IsNet d cell (at_root n)) (named : slice_get (firsts_in facts cell) n ≡ Some first) where
      whole : Reaches d root (above ++ step ∷ []) cell
      whole = subst (λ p. Reaches d root p cell) is at

      pub goes_on : (m : ℕ) → IsOuterNet facts up step cell first (Some m)
          → IsNet d up (at_root m) × (representative d root (at_path above m) ≡ representative d root (at_path path n))
      goes_on m h =
          let on_it = outer_is above up cell step up_at whole n first m (first_is path cell at n first net named) h in
          (on_it.0, sym on_it.1 ∙ ap (λ p. representative d root (at_path p n)) (sym is))

      pub ends : IsOuterNet facts up step cell first None → at_path path first ≡ representative d root (at_path path n)
      ends none =
          let same = none_outer above up cell step up_at whole n first net (first_is path cell at n first net named) none in
          subst (λ p. at_path p first ≡ representative d root (at_path p n)) (sym is) (sym same)

  -- the first net inside of a net is one
  pub first_net : (path : List ℕ) (c : CellId) → Reaches d root path c → (n first : ℕ) → IsNet d c (at_root n) → IsFirstInside d c n first → IsNet d c (at_root first)
  first_net path c at n first net is = Connected-net d c (at_root n) (at_root first) is.connected net

  -- the first net to which a joint leads has a place among those of the cell
  pub lead_within : (path : List ℕ) (up cell : CellId) (step : ℕ) → Reaches d root path up → Reaches d root (path ++ step ∷ []) cell → (j : Joint) (first : ℕ)
      → Contains (joints_in facts up) j → j.inst ≡ step → LeadsInto facts cell first j → first < length (firsts_in facts cell)
  lead_within path up cell step up_at at j first has on_it leads =
      let joins = joint_joins path up up_at j has in
      let inner = leads_inside path up cell step up_at at j first joins on_it leads in
      let net = Joins-net d cell (at_root inner.0) (own (record { port = j.port; bit = j.bit })) inner.1 in
      net_has_first (path ++ step ∷ []) cell at first (first_net (path ++ step ∷ []) cell at inner.0 first net inner.2)

  -- what is no net is its own first, and what is one has the first to which a climb comes
  module _ (path : List ℕ) (net : ℕ) where
    pub own_of_no_path : cell_along d root path ≡ None → at_path path net ≡ first_of d (at_path path net)
    own_of_no_path none =
        sym (own_of_no_net d (top_of d) ground.top ground.valid (at_path path net) (λ is.
        let parts = IsNet-parts d root (at_path path net) is in
        none-some parts.0 (sym none ∙ parts.1)))

    pub own_of_no_such : (c : CellId) → Reaches d root path c → length (nets_at d c) ≤ net → at_path path net ≡ first_of d (at_path path net)
    own_of_no_such c at past =
        sym (own_of_no_net d (top_of d) ground.top ground.valid (at_path path net) (λ is.
        let parts = IsNet-parts d root (at_path path net) is in
        let same : parts.0 ≡ c = Some-same _ parts.1 at in
        let less : net < length (nets_at d c) = subst (λ (v : CellId). net < length (nets_at d v)) same parts.2 in
        omega (arith, less, past)))

    pub first_climbed : (x : NetAt) → x ≡ representative d root (at_path path net) → x ≡ first_of d (at_path path net)
    first_climbed x e = e ∙ sym (class_first d (top_of d) ground.top (at_path path net))

  -- the ways into a cell tell which net outside leads to a first net inside
  module _ (up cell : CellId) (step : ℕ) (inst : Inst) (there : slice_get (insts_at d up) step ≡ Some inst) (of : inst.of ≡ cell) (ways : List Way) (are : AreWaysInto d facts up ways) where
    lead_is : (j : Joint) → j.inst ≡ step → lead_of d facts up j ≡ first_at facts cell (record { port = j.port; bit = j.bit })
    lead_is j on_it =
        ap (option_and_then (λ (i : Inst). first_at facts i.of (record { port = j.port; bit = j.bit }))) (ap (slice_get (insts_at d up)) on_it ∙ there)
        ∙ ap (λ (c : CellId). first_at facts c (record { port = j.port; bit = j.bit })) of

    pub ways_tell : (first : ℕ) (o : Option ℕ) → IsOuter ways step first o → IsOuterNet facts up step cell first o
    ways_tell first None none = λ j has on_it leads.
        let w : Way = record { inst = step; first = first; net = j.net } in
        let make : ℕ → ℕ → Way = λ i f. record { inst = i; first = f; net = j.net } in
        let is : way_of d facts up j ≡ Some w = ap (option_map (make j.inst)) (lead_is j on_it ∙ leads) ∙ ap (λ i. Some (make i first)) on_it in
        none j.net ((are.each w).1 (j, has, is))
    ways_tell first (Some m) has =
        let from = (are.each (record { inst = step; first = first; net = m })).0 has in
        let j = from.0 in
        let parts = way_parts j (lead_of d facts up j) from.2 in
        (j, from.1, parts.0, sym (lead_is j parts.0) ∙ parts.1, parts.2)
      where
        way_parts : (j : Joint) (o : Option ℕ) → option_map {U = Way} (λ f. record { inst = j.inst; first = f; net = j.net }) o ≡ Some (record { inst = step; first = first; net = m })
            → (j.inst ≡ step) × (o ≡ Some first) × (j.net ≡ m)
        way_parts j None e = absurd (none-some _ e)
        way_parts j (Some f) e =
            let same = same_Some (record { inst = j.inst; first = f; net = j.net }) (record { inst = step; first = first; net = m }) e in
            (ap (λ (w : Way). w.inst) same, ap (λ (w : Way). Some w.first) same, ap (λ (w : Way). w.net) same)

-- how far a climb has come: up to a net of the occurrence at a front of the path, which is connected with the net at its end
pub record IsClimb (d : Design) (facts : Facts) (path : List ℕ) (cells : List CellId) (net depth first : ℕ) : Type 0 where
  pub bound : depth ≤ length path
  pub cell : CellId
  pub at : slice_get cells depth ≡ Some cell
  pub n : ℕ
  pub there : IsNet d cell (at_root n)
  pub named : slice_get (firsts_in facts cell) n ≡ Some first
  pub same : representative d (top_of d).cell (at_path (take depth path) n) ≡ representative d (top_of d).cell (at_path path net)

module _ (d : Design) (facts : Facts) (notes : PlacedNotes) (ground : IsGround d facts notes) (path : List ℕ) (cells : List CellId) (on_it : AreCellsOn d (top_of d).cell path cells) (net : ℕ) where
  abbrev top : CellId
  top = (top_of d).cell

  pub cell_reached : (k : ℕ) (c : CellId) → k ≤ length path → slice_get cells k ≡ Some c → Reaches d top (take k path) c
  cell_reached k c within at =
      let known = on_it.each k within in
      subst (λ (v : CellId). Reaches d top (take k path) v) (same_Some known.0 c (sym known.1 ∙ at)) known.2

  pub reached_whole : (c : CellId) → slice_get cells (length path) ≡ Some c → Reaches d top path c
  reached_whole c at = subst (λ p. Reaches d top p c) (take_all (length path) path (omega arith)) (cell_reached (length path) c (omega arith) at)

  pub is_net_on : (c : CellId) → slice_get cells (length path) ≡ Some c → net < length (nets_at d c) → IsNetOn d path cells net
  is_net_on c at less = (c, at, IsNet-from d c c [] net refl less)

  module _ (on_net : IsNetOn d path cells net) (depth : ℕ) (k : CellId) (whole : depth ≡ length path) (at : slice_get cells depth ≡ Some k) where
    lowest : k ≡ on_net.0
    lowest = same_Some k on_net.0 (sym at ∙ ap (slice_get cells) whole ∙ on_net.1)

    there : IsNet d k (at_root net)
    there = subst (λ (v : CellId). IsNet d v (at_root net)) (sym lowest) on_net.2

    pub lowest_has : net < length (firsts_in facts k)
    lowest_has = net_has_first d facts notes ground (take depth path) k (cell_reached depth k (omega (arith, whole)) at) net there

    pub climb_starts : (first : ℕ) → slice_get (firsts_in facts k) net ≡ Some first → IsClimb d facts path cells net depth first
    climb_starts first named = record {
      bound = omega (arith, whole);
      cell = k;
      at = at;
      n = net;
      there = there;
      named = named;
      same = ap (λ p. representative d top (at_path p net)) (take_all depth path (omega (arith, whole)));
    }

  pub climb_ends : (depth first : ℕ) → depth ≡ 0 → IsClimb d facts path cells net depth first → at_path (take depth path) first ≡ representative d top (at_path path net)
  climb_ends depth first zero_is h =
      top_named d facts notes ground (take depth path) h.cell h.n first (ap (λ k. length (take k path)) zero_is) (cell_reached depth h.cell h.bound h.at) h.there h.named ∙ h.same

  module _ (depth first : ℕ) (some : 0 < depth) (h : IsClimb d facts path cells net depth first) (step : ℕ) (step_is : slice_get path (depth - 1) ≡ Some step)
      (up : CellId) (up_at : slice_get cells (depth - 1) ≡ Some up) where
    front : take depth path ≡ take (depth - 1) path ++ step ∷ []
    front =
        let less : depth - 1 < length path = slice_get_within path (depth - 1) step step_is in
        let one : depth ≡ (depth - 1) + 1 = omega (arith, some) in
        ap (λ k. take k path) one ∙ take_more path (depth - 1) step less ∙ ap (λ v. take (depth - 1) path ++ v ∷ []) (get_or_from_slice_get path (depth - 1) step step step_is)

    at_cell : Reaches d top (take depth path) h.cell
    at_cell = cell_reached depth h.cell h.bound h.at

    at_up : Reaches d top (take (depth - 1) path) up
    at_up = let b = h.bound in cell_reached (depth - 1) up (omega (arith, b)) up_at

    above_inst : (inst : Inst) × (slice_get (insts_at d up) step ≡ Some inst) × (inst.of ≡ h.cell)
    above_inst =
        let whole : Reaches d top (take (depth - 1) path ++ step ∷ []) h.cell = subst (λ p. Reaches d top p h.cell) front at_cell in
        let parts = Reaches-front d top h.cell (take (depth - 1) path) (step ∷ []) whole in
        let same : parts.0 ≡ up = Some-same _ parts.1 at_up in
        let last = Reaches-parts d up step [] h.cell (subst (λ (v : CellId). Reaches d v (step ∷ []) h.cell) same parts.2) in
        (last.0, last.1, same_Some last.0.of h.cell last.2)

    module _ (ways : List Way) (are : AreWaysInto d facts up ways) where
      pub climb_stops : IsOuter ways step first None → at_path (take depth path) first ≡ representative d top (at_path path net)
      climb_stops none =
          let i = above_inst in
          ends d facts notes ground (take depth path) (take (depth - 1) path) step front h.cell at_cell up at_up h.n first h.there h.named
          (ways_tell d facts notes ground up h.cell step i.0 i.1 i.2 ways are first None none) ∙ h.same

      pub outer_there : (m : ℕ) → IsOuter ways step first (Some m) → m < length (firsts_in facts up)
      outer_there m has =
          let i = above_inst in
          let on = goes_on d facts notes ground (take depth path) (take (depth - 1) path) step front h.cell at_cell up at_up h.n first h.there h.named m
          (ways_tell d facts notes ground up h.cell step i.0 i.1 i.2 ways are first (Some m) has) in
          net_has_first d facts notes ground (take (depth - 1) path) up at_up m on.0

      pub climb_on : (m next : ℕ) → IsOuter ways step first (Some m) → slice_get (firsts_in facts up) m ≡ Some next → IsClimb d facts path cells net (depth - 1) next
      climb_on m next has named =
          let i = above_inst in
          let b = h.bound in
          let on = goes_on d facts notes ground (take depth path) (take (depth - 1) path) step front h.cell at_cell up at_up h.n first h.there h.named m
          (ways_tell d facts notes ground up h.cell step i.0 i.1 i.2 ways are first (Some m) has) in
          record {
            bound = omega (arith, b);
            cell = up;
            at = up_at;
            n = m;
            there = on.0;
            named = named;
            same = on.1 ∙ h.same;
          }

    pub up_is_cell : IsCell d up
    up_is_cell = let i = above_inst in go (cell_at d up) refl i.0 i.1
      where
        go : (o : Option CellBody) → cell_at d up ≡ o → (inst : Inst) → slice_get (option_map_or insts_of o []) step ≡ Some inst → IsCell d up
        go None is inst e = absurd (none-some inst e)
        go (Some body) is inst e = subst IsSome (sym is) refl
