-- Whether another item of the same occurrence follows the next one.
use Rattle.std.proofs.Common.{◌≡◌, ◌+◌, ℕ, zero, suc, List, [], ◌∷◌, ◌++◌, map, drop, refl, sym, ap, subst, ◌∙◌, true, false}
use Rattle.std.specs.Prelude.{Bool, not, ◌&&◌}
use Rattle.std.specs.List.{enumerate_from, flat_map}
use Rattle.std.specs.Option.{option_map_or}
use Rattle.netlist_schema.specs.Design.{Design, cell_at}
use Rattle.netlist_schema.specs.Hierarchy.{insts_at}
use Rattle.netlist_schema.specs.Types.{CellId, Inst}
use Rattle.netlist_schema.specs.Valid.{IsValid}
use Rattle.flat_spec.specs.Below.{items_under}
use Rattle.flat_spec.specs.Flattening.{net_item, pin_item}
use Rattle.flat_spec.specs.Occurrences.{Occurrence, own_nets}
use Rattle.flat_spec.specs.Paths.{Bit}
use Rattle.flat_spec.specs.Pins.{shown_bits}
use Rattle.flat_spec.specs.Types.{Item, NetAt}
use Rattle.flat_spec.proofs.BelowLemmas.{items_go_down}
use Rattle.flat_items.specs.Left.{GoesOn, is_over, own_left, pins_of}
use Rattle.flat_items.specs.Stand.{MayStand, Stand, here_of, top_of}
use Rattle.flat_items.specs.declared.place.Frame.{Frame}
use Rattle.flat_items.specs.declared.place.Stage.{Stage}
use Rattle.flat_items.specs.declared.place.Stage.TheVariants.{Whole, Nets, Pins, Done}
use Rattle.flat_items.proofs.StageLemmas.{over_left, own_opens}
use Rattle.occ_walk.specs.Left.{below_from, left, left_above, rest_of}
use Rattle.occ_walk.specs.Walk.{another_follows, begins_inside, is_inside}
use Rattle.occ_walk.proofs.LeftLemmas.{over_behind}

-- behind its first item an occurrence gives nets and pins
abbrev AreInside : List Item → Type 0
AreInside [] = Unit {0}
AreInside (item ∷ items) = (is_inside item ≡ true) × AreInside items

nets_inside : (d : Design) (root : CellId) (xs : List NetAt) (others : List Item) → AreInside others → AreInside (map (net_item d root) xs ++ others)
nets_inside d root [] others h = h
nets_inside d root (x ∷ xs) others h = (refl, nets_inside d root xs others h)

pins_inside : (d : Design) (root : CellId) (path : List ℕ) (bits : List Bit) → AreInside (map (pin_item d root path) bits)
pins_inside d root path [] = tt
pins_inside d root path (b ∷ bits) = (refl, pins_inside d root path bits)

drop_inside : (n : ℕ) (items : List Item) → AreInside items → AreInside (drop n items)
drop_inside zero items h = h
drop_inside (suc n) [] h = tt
drop_inside (suc n) (item ∷ items) h = drop_inside n items h.1

behind_inside : (d : Design) (o : Occurrence) (stage : Stage) → AreInside (drop 1 (own_left d o stage))
behind_inside d o stage = go stage
  where
    pins : AreInside (pins_of d o)
    pins = pins_inside d (top_of d).cell o.path (option_map_or (shown_bits o.path) (cell_at d o.cell) [])

    go : (s : Stage) → AreInside (drop 1 (own_left d o s))
    go Whole = nets_inside d (top_of d).cell (own_nets d o) (pins_of d o) pins
    go (Nets n) =
        drop_inside 1 (own_left d o (Nets n)) (nets_inside d (top_of d).cell (drop n (own_nets d o)) (pins_of d o) pins)
    go (Pins p) = drop_inside 1 (own_left d o (Pins p)) (drop_inside p.number (pins_of d o) pins)
    go Done = tt

-- what is at and below occurrences begins with the entry of one
both_enter : (xs ys : List Item) → begins_inside xs ≡ false → begins_inside ys ≡ false → begins_inside (xs ++ ys) ≡ false
both_enter [] ys h k = k
both_enter (x ∷ xs) ys h k = h

under_enters : (d : Design) → IsValid d → (path : List ℕ) (c : CellId) → begins_inside (items_under d (top_of d) path c) ≡ false
under_enters d valid path c = ap begins_inside (items_go_down d (top_of d) path c valid.no_cycle)

each_enters : (d : Design) → IsValid d → (path : List ℕ) (i : ℕ) (insts : List Inst)
    → begins_inside (flat_map (λ (p : ℕ × Inst). items_under d (top_of d) (path ++ p.0 ∷ []) p.1.of) (enumerate_from i insts)) ≡ false
each_enters d valid path i [] = refl
each_enters d valid path i (inst ∷ insts) =
    both_enter (items_under d (top_of d) (path ++ i ∷ []) inst.of)
    (flat_map (λ (p : ℕ × Inst). items_under d (top_of d) (path ++ p.0 ∷ []) p.1.of) (enumerate_from (i + 1) insts))
    (under_enters d valid (path ++ i ∷ []) inst.of) (each_enters d valid path (i + 1) insts)

below_enters : (d : Design) → IsValid d → (path : List ℕ) (c : CellId) (i : ℕ) → begins_inside (below_from d path c i) ≡ false
below_enters d valid path c i = each_enters d valid path i (drop i (insts_at d c))

above_enters : (d : Design) → IsValid d → (start steps : List ℕ) (frames : List Frame) → begins_inside (left_above d start steps frames) ≡ false
above_enters d valid start [] [] = refl
above_enters d valid start [] (f ∷ fs) = refl
above_enters d valid start (step ∷ steps) [] = refl
above_enters d valid start (step ∷ steps) (f ∷ fs) =
    both_enter (left_above d (start ++ step ∷ []) steps fs) (below_from d start f.cell f.next)
    (above_enters d valid (start ++ step ∷ []) steps fs) (below_enters d valid start f.cell f.next)

-- another one follows exactly where the occurrence has something to give behind the next one
pub followed : (d : Design) → IsValid d → (old : Stand) (stage : Stage) → MayStand d old → GoesOn d (here_of old) (drop 1 (own_left d (here_of old) old.stage)) stage
    → not (is_over stage) ≡ another_follows (rest_of d old)
followed d valid old stage stands goes = go (is_over old.stage) refl (is_over stage) refl
  where
    rest : List Item
    rest = below_from d old.path old.here.cell old.here.next ++ left_above d [] old.path old.above

    rest_enters : begins_inside rest ≡ false
    rest_enters =
        both_enter (below_from d old.path old.here.cell old.here.next) (left_above d [] old.path old.above)
        (below_enters d valid old.path old.here.cell old.here.next) (above_enters d valid [] old.path old.above)

    behind : is_over old.stage ≡ false → drop 1 (left d old) ≡ own_left d (here_of old) stage ++ rest
    behind more =
        let opened = own_opens d valid (here_of old) old.stage stands.stage more in
        ap (λ v. drop 1 (v ++ rest)) opened.1 ∙ ap (λ v. v ++ rest) (sym goes.0)

    go : (b : Bool) → is_over old.stage ≡ b → (e : Bool) → is_over stage ≡ e → not e ≡ (not b && begins_inside (drop 1 (left d old)))
    go true over e is = ap not (sym is ∙ over_behind d valid (here_of old) old.stage stage goes over)
    go false more true is =
        sym (ap begins_inside (behind more ∙ ap (λ v. v ++ rest) (over_left d (here_of old) stage is)) ∙ rest_enters)
    go false more false is =
        let opened = own_opens d valid (here_of old) stage goes.1 is in
        let inside : AreInside (own_left d (here_of old) stage) = subst AreInside (sym goes.0) (behind_inside d (here_of old) old.stage) in
        sym (ap begins_inside (behind more ∙ ap (λ v. v ++ rest) opened.1) ∙ (subst AreInside opened.1 inside).0)
