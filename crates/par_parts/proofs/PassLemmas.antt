-- What is left when items are passed over.
use Rattle.std.proofs.Common.{◌≡◌, ◌<◌, ◌≤◌, ◌+◌, ◌-◌, ◌^◌, ℕ, zero, suc, List, [], ◌∷◌, ◌++◌, length, min, drop, refl, sym, ap, subst, ◌∙◌, arith, append_assoc, true, false, Some, slice_get}
use Rattle.std.specs.List.{enumerate_from, flat_map}
use Rattle.std.proofs.lemmas.Option.{same_Some, slice_get_within}
use Rattle.netlist_schema.specs.Design.{Design}
use Rattle.netlist_schema.specs.Hierarchy.{insts_at}
use Rattle.netlist_schema.specs.Types.{CellId, Inst}
use Rattle.netlist_schema.specs.Valid.{IsValid}
use Rattle.netlist_schema.proofs.Lists.{drop_next}
use Rattle.flat_cells.specs.Below.{IsAtOrBelow}
use Rattle.flat_spec.specs.Below.{items_under}
use Rattle.flat_spec.specs.Paths.{Reaches, nets_at}
use Rattle.flat_spec.specs.Types.{Item}
use Rattle.flat_spec.proofs.PathLemmas.{Reaches-append, Reaches-cons}
use Rattle.par_parts.specs.declared.tables.ItemCounts.{ItemCounts}
use Rattle.net_classes.specs.Facts.{Facts}
use Rattle.flat_items.specs.declared.notes.PlacedNotes.{PlacedNotes}
use Rattle.occ_walk.specs.Left.{HasPassed, below_from, left, left_above}
use Rattle.flat_items.specs.Left.{is_over, own_left}
use Rattle.flat_items.specs.Moves.{going_on}
use Rattle.flat_items.specs.Stand.{IsFrame, MayStand, Stand, here_of, top_of}
use Rattle.flat_items.specs.declared.place.Frame.{Frame}
use Rattle.flat_items.specs.declared.place.Stage.{Stage}
use Rattle.flat_items.specs.declared.place.Stage.TheVariants.{Nets}
use Rattle.flat_items.proofs.NetLemmas.{reached_below}
use Rattle.flat_items.proofs.StageLemmas.{net_behind, over_left}
use Rattle.occ_walk.proofs.LeftLemmas.{passed}
use Rattle.par_parts.specs.Skip.{IsBehindInst, IsFitting}
use Rattle.par_parts.specs.CountedGround.{IsCounted}
use Rattle.par_parts.proofs.ListLemmas.{drop_drop, drop_none, drop_one_less, drop_whole}

-- one item is passed over
pub own_passed : (d : Design) (count more : ℕ) (first old new : Stand) → 0 < more → is_over old.stage ≡ false → HasPassed d old new
    → drop more (left d old) ≡ drop count (left d first) → drop (more - 1) (left d new) ≡ drop count (left d first)
own_passed d count more first old new some one gone same = drop_one_less (left d old) (left d new) more some (gone one) ∙ same

-- the place at a net of the same occurrence
abbrev at_net : Stand → ℕ → Stand
at_net s n = record { above = s.above; here = s.here; stage = Nets n; path = s.path; text = s.text }

nets_passed : (d : Design) → IsValid d → (s : Stand) (n m : ℕ) → MayStand d (at_net s n) → n + m < length (nets_at d s.here.cell)
    → MayStand d (at_net s (n + m)) × (left d (at_net s (n + m)) ≡ drop m (left d (at_net s n)))
nets_passed d valid s n zero stands fits =
    let e : n ≡ n + 0 = omega arith in
    subst (λ k. MayStand d (at_net s k) × (left d (at_net s k) ≡ left d (at_net s n))) e (stands, refl)
nets_passed d valid s n (suc m) stands fits =
    let before = nets_passed d valid s n m stands (omega (arith, fits)) in
    let less : n + m < length (nets_at d s.here.cell) = omega (arith, fits) in
    let within : n + m + 1 < length (nets_at d s.here.cell) = omega (arith, fits) in
    let next : n + m + 1 ≡ n + suc m = omega arith in
    let more : m + 1 ≡ suc m = omega arith in
    let one = passed d valid (at_net s (n + m)) (Nets (n + m + 1)) before.0 (net_behind d (here_of s) (n + m) less, within) in
    subst (λ k. MayStand d (at_net s k) × (left d (at_net s k) ≡ drop (suc m) (left d (at_net s n)))) next (
      one.0,
      one.1 refl ∙ ap (drop 1) before.1 ∙ drop_drop m 1 (left d (at_net s n)) ∙ ap (λ k. drop k (left d (at_net s n))) more,
    )

-- so many nets are passed over, and not the last one
pub nets_gone : (d : Design) → IsValid d → (old new : Stand) (net gone count : ℕ) → MayStand d old → old.stage ≡ Nets net → net + gone < length (nets_at d old.here.cell)
    → gone ≤ count → new ≡ at_net old (net + gone) → MayStand d new × (drop (count - gone) (left d new) ≡ drop count (left d old))
nets_gone d valid old new net gone count stands stage_is fits few is =
    let old_is : old ≡ at_net old net = ap (λ (stage : Stage). record { above = old.above; here = old.here; stage = stage; path = old.path; text = old.text }) stage_is in
    let there = nets_passed d valid old net gone (subst (MayStand d) old_is stands) fits in
    let same : left d new ≡ drop gone (left d old) = ap (left d) is ∙ there.1 ∙ ap (λ (s : Stand). drop gone (left d s)) (sym old_is) in
    let e : gone + (count - gone) ≡ count = omega (arith, few) in (
      subst (MayStand d) (sym is) there.0,
      ap (drop (count - gone)) same ∙ drop_drop gone (count - gone) (left d old) ∙ ap (λ k. drop k (left d old)) e,
    )

-- the path of an instance has a last step
last_step : (path : List ℕ) (i : ℕ) → (step : ℕ) × (rest : List ℕ) × (path ++ i ∷ [] ≡ step ∷ rest)
last_step [] i = (i, [], refl)
last_step (s ∷ path) i = (s, path ++ i ∷ [], refl)

module _ (d : Design) (facts : Facts) (notes : PlacedNotes) (counts : ItemCounts) (top : CellId) (ground : IsCounted d facts notes counts top) where
  valid : IsValid d
  valid = ground.ground.valid

  -- what stands at and below an instance is as much as is counted
  inst_long : (path : List ℕ) (here : Frame) (i : ℕ) (inst : Inst) (most count : ℕ) → IsFrame d path here → slice_get (insts_at d here.cell) i ≡ Some inst
      → IsFitting counts inst.of most count → length (items_under d (top_of d) (path ++ i ∷ []) inst.of) ≡ count
  inst_long path here i inst most count frame there fits =
      let reached : Reaches d (top_of d).cell (path ++ i ∷ []) inst.of =
      Reaches-append d (top_of d).cell here.cell inst.of path (i ∷ []) frame.reached (Reaches-cons d here.cell i inst [] inst.of there refl) in
      let at : IsAtOrBelow d top inst.of = subst (λ v. IsAtOrBelow d v inst.of) ground.top_is (reached_below d (top_of d).cell inst.of (path ++ i ∷ []) reached) in
      let told = ground.counted inst.of at in
      let same : told.0 ≡ count = same_Some told.0 count (sym told.1 ∙ fits.is) in
      let last = last_step path i in
      let is : told.0 ≡ min (length (items_under d (top_of d) (path ++ i ∷ []) inst.of)) (2 ^ 64 - 1) =
      told.2 (top_of d) last.0 last.1 ∙ ap (λ p. min (length (items_under d (top_of d) p inst.of)) (2 ^ 64 - 1)) (sym last.2) in
      omega (arith, same, is, fits.whole)

  -- the next instance is passed over
  pub inst_passed : (old new : Stand) (inst : Inst) (count gone : ℕ) → MayStand d old → is_over old.stage ≡ true → slice_get (insts_at d old.here.cell) old.here.next ≡ Some inst
      → IsFitting counts inst.of count gone
      → new ≡ record { above = old.above; here = going_on old.here (old.here.next + 1) old.here.near; stage = old.stage; path = old.path; text = old.text } → IsBehindInst d count old new (count - gone)
  inst_passed old new inst count gone stands over there fits is =
      subst (λ v. IsBehindInst d count old v (count - gone)) (sym is) record {
        stands = record { above = stands.above; here = record { reached = stands.here.reached; names = stands.here.names; end_is = stands.here.end_is }; stage = stands.stage; text_is = stands.text_is };
        over = over;
        cell_is = refl;
        next_is = refl;
        there = slice_get_within (insts_at d old.here.cell) old.here.next inst there;
        less = omega arith;
        left = sym whole;
      }
    where
      c : CellId
      c = old.here.cell

      i : ℕ
      i = old.here.next

      here : List Item
      here = items_under d (top_of d) (old.path ++ i ∷ []) inst.of

      above : List Item
      above = left_above d [] old.path old.above

      opened : below_from d old.path c i ≡ here ++ below_from d old.path c (i + 1)
      opened = ap (λ (v : List Inst). flat_map (λ (p : ℕ × Inst). items_under d (top_of d) (old.path ++ p.0 ∷ []) p.1.of) (enumerate_from i v)) (drop_next (insts_at d c) i inst there)

      none : own_left d (here_of old) old.stage ≡ []
      none = over_left d (here_of old) old.stage over

      whole : drop count (left d old) ≡ drop (count - gone) (own_left d (here_of old) old.stage ++ (below_from d old.path c (i + 1) ++ above))
      whole =
          let long = inst_long old.path old.here i inst count gone stands.here there fits in
          ap (λ v. drop count (v ++ (below_from d old.path c i ++ above))) none
          ∙ ap (λ v. drop count (v ++ above)) opened
          ∙ ap (drop count) (append_assoc here (below_from d old.path c (i + 1)) above)
          ∙ drop_whole here (below_from d old.path c (i + 1) ++ above) count (omega (arith, fits.fits, long))
          ∙ ap (λ n. drop (count - n) (below_from d old.path c (i + 1) ++ above)) long
          ∙ ap (λ v. drop (count - gone) (v ++ (below_from d old.path c (i + 1) ++ above))) (sym none)

-- nothing is left behind the end
pub end_passed : (d : Design) (count more : ℕ) (first old new : Stand) → left d new ≡ left d old → left d new ≡ [] → drop more (left d old) ≡ drop count (left d first)
    → left d new ≡ drop count (left d first)
end_passed d count more first old new same none so_far =
    none ∙ sym (drop_none more) ∙ ap (drop more) (sym none ∙ same) ∙ so_far
