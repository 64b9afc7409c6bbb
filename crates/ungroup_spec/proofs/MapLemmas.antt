-- The path map is one-to-one and onto, and leaves out what ends at the instance.
use Rattle.std.proofs.Common.{◌≡◌, ℕ, List, [], ◌∷◌, ◌++◌, cond, refl, sym, ap, subst, ◌∙◌, inl, inr, Option, Some, None, slice_get}
use Rattle.std.specs.Prelude.{option_and_then, option_map}
use Rattle.netlist_schema.specs.Design.{Design}
use Rattle.netlist_schema.specs.Hierarchy.{insts_at, HasInst, IsBelow, placed, deeper}
use Rattle.netlist_schema.specs.Types.{CellId, Inst}
use Rattle.netlist_schema.proofs.Ranks.{below_trans}
use Rattle.flat_spec.proofs.ListLemmas.{slice_get-contains}
use Rattle.flat_spec.proofs.PathLemmas.{Some-same}
use Rattle.ungroup_spec.specs.KeepsNets.{after, DoneIsUngroup, EachIsAnImage, EndsAtIt, ImagesDiffer, IsUngroup, TheRestIsGone}
use Rattle.ungroup_spec.specs.Maps.{Dissolving, child_after, path_after, path_inside, step_after}
use Rattle.ungroup_spec.proofs.AtLemmas.{insts-here}
use Rattle.ungroup_spec.proofs.CarriedLemmas.{dissolved-cases, is_dissolves}
use Rattle.ungroup_spec.proofs.DoneLemmas.{dissolves}
use Rattle.ungroup_spec.proofs.PathLemmas.{and_map-from, path-cases, kid-of}
use Rattle.ungroup_spec.proofs.ResolveLemmas.{has-image, map-none, one-image}
use Rattle.ungroup_spec.proofs.SoundLemmas.{fits-within, has-inst}
use Rattle.ungroup_spec.proofs.TreeLemmas.{way_before}
use Rattle.ungroup_spec.proofs.Ways.{Way, Way-reaches, Reaches-way, IsChild-same}

pub images_differ : ImagesDiffer
images_differ d q root a b moved is e f = one-image d q is a b root moved e f

pub each_is_an_image : EachIsAnImage
each_is_an_image d q root cell moved is at =
    let found = way_before d q is.stands (is_dissolves d q is.stands (fits-within d q is.stands is.valid)) moved root cell (Reaches-way (after d q) root moved cell at) in
    (found.0, Way-reaches d root found.0 cell found.2, found.1)

module _ (d : Design) (q : Dissolving) (is : IsUngroup d q) where
  -- inside the instance all but the path that ends there has an image
  inside-none : (p : List ℕ) (e : CellId) → Way d q.site.inst.of p e → path_inside d q p ≡ None → p ≡ []
  inside-none [] e way none = refl
  inside-none (j ∷ p) e way none =
      let inst = way.1.0 in
      let has : HasInst d q.site.inst.of inst = slice_get-contains (insts_at d q.site.inst.of) j inst way.1.1 in
      let below : IsBelow d inst.of q.cell = deeper q.site.inst (has-inst d q is.stands) (placed inst has) in
      let image = has-image d q is p inst.of e
      (λ same. is.valid.no_cycle q.cell (subst (λ v. IsBelow d v q.cell) same below))
      (λ up. is.valid.no_cycle q.cell (below_trans d up below)) (subst (λ v. Way d v p e) way.1.2 way.2) in
      let at = subst (λ v. slice_get v j ≡ Some inst) (insts-here d q.site.inst.of q.site.within is.stands.within) way.1.1 in
      absurd (cc (sym none ∙ and_map-from (λ (v : Inst). path_after d q v.of p) (λ r. child_after q j ∷ r) (slice_get q.site.within.insts j) inst image.0 at image.1))

  gone : (p : List ℕ) (c e : CellId) → Way d c p e → path_after d q c p ≡ None → (up : List ℕ) × Way d c up q.cell × (p ≡ up ++ q.site.place ∷ [])
  gone [] c e way none = absurd (cc none)
  gone (i ∷ p) c e way none =
      let inst = way.1.0 in
      let at = way.1.1 in
      let outside : Option (List ℕ) = option_map (λ rest. step_after q c i ∷ rest) (option_and_then (λ (v : Inst). path_after d q v.of p) (slice_get (insts_at d c) i)) in
      elim (dissolved-cases q c i) [
        | inl here ↦
            let there : slice_get (insts_at d q.cell) q.site.place ≡ Some inst =
            subst (λ v. slice_get (insts_at d v) q.site.place ≡ Some inst) here.1 (subst (λ v. slice_get (insts_at d c) v ≡ Some inst) here.2 at) in
            let same : inst ≡ q.site.inst =
            Some-same (slice_get q.site.around.insts q.site.place) (subst (λ v. slice_get v q.site.place ≡ Some inst) (insts-here d q.cell q.site.around is.stands.around) there) is.stands.inst in
            let empty : p ≡ [] = inside-none p e (subst (λ v. Way d v p e) (way.1.2 ∙ ap (λ (v : Inst). v.of) same) way.2)
            (subst (λ b. cond b (path_inside d q p) outside ≡ None) here.0 none) in
            ([], sym here.1, λ k. here.2 k ∷ empty k)
        | inr other ↦
            let apart : outside ≡ None = subst (λ b. cond b (path_inside d q p) outside ≡ None) other.0 none in
            let rest : path_after d q inst.of p ≡ None =
            sym (ap (option_and_then (λ (v : Inst). path_after d q v.of p)) at)
            ∙ map-none d q is (λ r. step_after q c i ∷ r) (option_and_then (λ (v : Inst). path_after d q v.of p) (slice_get (insts_at d c) i)) apart in
            let deep = gone p inst.of e (subst (λ v. Way d v p e) way.1.2 way.2) rest in
            (i ∷ deep.0, (inst.of, (inst, at, refl), deep.1), ap (λ v. i ∷ v) deep.2)
      ]

  -- what a path leads to from a cell below is below
  down : (up : List ℕ) (k : CellId) → Way d k up q.cell → IsBelow d k q.cell → IsBelow d q.cell q.cell
  down [] k way under = subst (λ v. IsBelow d v q.cell) (sym way) under
  down (j ∷ up) k way under =
      let has : HasInst d k way.1.0 = slice_get-contains (insts_at d k) j way.1.0 way.1.1 in
      let next : IsBelow d way.0 k = subst (λ v. IsBelow d v k) (sym way.1.2) (placed way.1.0 has) in
      down up way.0 way.2 (below_trans d next under)

  below : (up : List ℕ) (k c : CellId) (i : ℕ) → c ≡ q.cell → (inst : Inst) × (slice_get (insts_at d c) i ≡ Some inst) × (k ≡ inst.of) → Way d k up q.cell → IsBelow d q.cell q.cell
  below up k c i here kid way =
      let has : HasInst d q.cell kid.0 = subst (λ v. HasInst d v kid.0) here (slice_get-contains (insts_at d c) i kid.0 kid.1) in
      let child : IsBelow d k q.cell = subst (λ v. IsBelow d v q.cell) (sym kid.2) (placed kid.0 has) in
      down up k way child

  ends : (up : List ℕ) (c : CellId) (moved : List ℕ) → Way d c up q.cell → path_after d q c (up ++ q.site.place ∷ []) ≡ Some moved → ⊥
  ends [] c moved way e =
      elim (path-cases d q c q.site.place [] moved e) [
        | inl in_it ↦ cc in_it.on
        | inr on ↦ on.other (sym way) refl
      ]
  ends (i ∷ up) c moved way e =
      elim (path-cases d q c i (up ++ q.site.place ∷ []) moved e) [
        | inl in_it ↦
            -- the cell would be below itself
            is.valid.no_cycle q.cell (below up way.0 c i in_it.cell way.1 way.2)
        | inr on ↦
            let same = IsChild-same d c i way.1 (kid-of d c i on.inst on.is) in
            ends up on.inst.of on.rest (subst (λ v. Way d v up q.cell) same way.2) on.on
      ]

pub the_rest_is_gone : TheRestIsGone
the_rest_is_gone d q root cell path is at = (
  λ none.
      let found = gone d q is path root cell (Reaches-way d root path cell at) none in
      (found.0, Way-reaches d root found.0 q.cell found.1, found.2),
  λ it. go it (path_after d q root path) refl,
)
  where
    go : EndsAtIt d q root path → (o : Option (List ℕ)) → path_after d q root path ≡ o → path_after d q root path ≡ None
    go it None e = e
    go it (Some moved) e =
        absurd (ends d q is it.0 root moved (Reaches-way d root it.0 q.cell it.1) (subst (λ v. path_after d q root v ≡ Some moved) it.2 e))

pub done_is_ungroup : DoneIsUngroup
done_is_ungroup d cell name valid allowed =
    let done = dissolves d cell name allowed in
    record {
      what = record { cell = done.id; site = done.site };
      in_cell = done.named_so;
      at_place = done.found;
      is = record { valid = valid; stands = done.stands; insts_fit = done.insts_fit; nets_fit = done.nets_fit; ends_fit = done.ends_fit };
      leaves = done.edits;
    }
