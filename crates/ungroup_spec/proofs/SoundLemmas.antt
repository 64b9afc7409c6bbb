-- An ungroup in a valid design: its ends fit, and no cell is below itself afterwards.
use Rattle.std.proofs.Common.{◌≡◌, ◌<◌, ◌+◌, ◌⊎◌, ℕ, zero, suc, List, [], ◌∷◌, ◌++◌, length, map, take, drop, refl, sym, ap, subst, ◌∙◌, inl, inr, Option, Some, None, slice_get}
use Rattle.std.specs.Prelude.{IsSomeAnd, flat_map}
use Rattle.std.specs.List.{Contains}
use Rattle.std.specs.Option.{option_map_or}
use Rattle.std.proofs.lemmas.Option.{slice_get_within}
use Rattle.netlist_schema.specs.Design.{Design, cell_at, insts_in, insts_of, nets_in}
use Rattle.netlist_schema.specs.Hierarchy.{insts_at, HasInst, IsBelow, placed, deeper, NoCellIsBelowItself}
use Rattle.netlist_schema.specs.Types.{CellBody, CellId, End, Inst, Net}
use Rattle.netlist_schema.specs.Valid.{IsValid, IsEndOf}
use Rattle.netlist_schema.proofs.Ranks.{below_trans}
use Rattle.edit_rules_spec.proofs.Closed.{All-contained}
use Rattle.flat_spec.specs.Paths.{Bit, on}
use Rattle.flat_spec.specs.Representatives.{representative}
use Rattle.flat_spec.proofs.ListLemmas.{Member, Member-append_cases, Member-map, Member-from_map, Member-contains, Contains-member}
use Rattle.flat_spec.proofs.PathLemmas.{IsNet-parts}
use Rattle.flat_spec.proofs.PinLemmas.{ends-member}
use Rattle.flat_spec.proofs.RepresentativeLemmas.{Connected-net, representative-first, representative-is}
use Rattle.ungroup_spec.specs.Dissolved.{insts_after}
use Rattle.ungroup_spec.specs.Groups.{inner, ends_of_net, ends_of_part}
use Rattle.ungroup_spec.specs.KeepsNets.{after, ImagesAreConnected, RepresentativesAreCarried}
use Rattle.ungroup_spec.specs.Maps.{Dissolving}
use Rattle.ungroup_spec.specs.Ungroup.{IsSite}
use Rattle.ungroup_spec.proofs.AtLemmas.{contents-body, insts-here, insts-after, insts-other}
use Rattle.ungroup_spec.proofs.CarriedLemmas.{is_dissolves, carried-image, image-net, images_connected}
use Rattle.ungroup_spec.proofs.DissolvedLemmas.{cut_of}
use Rattle.ungroup_spec.proofs.EndLemmas.{spliced, map-insts_after}
use Rattle.ungroup_spec.proofs.ImageLemmas.{CellId-cases}
use Rattle.ungroup_spec.proofs.OrderLemmas.{IsRepresentative-carried}
use Rattle.ungroup_spec.proofs.PlaceLemmas.{slice_get-member}
use Rattle.ungroup_spec.proofs.Ways.{Reaches-way}

-- an end of a net is one of all ends
pub net-ends : (nets : List Net) (m : ℕ) (e : End) → Member (ends_of_net nets m) e → Member (flat_map (λ (net : Net). net.ends) nets) e
net-ends nets m e is = go (slice_get nets m) refl is
  where
    go : (o : Option Net) → slice_get nets m ≡ o → Member (option_map_or (λ (net : Net). net.ends) o []) e → Member (flat_map (λ (net : Net). net.ends) nets) e
    go None at is = absurd is
    go (Some net) at is = ends-member nets m net e at is

some-inst : (insts : List Inst) (j : ℕ) (P : Inst → Type 0) → IsSomeAnd (slice_get insts j) P → j < length insts
some-inst insts j P is = go (slice_get insts j) refl is
  where
    go : (o : Option Inst) → slice_get insts j ≡ o → IsSomeAnd o P → j < length insts
    go None at is = absurd is
    go (Some inst) at is = slice_get_within insts j inst at

-- in a valid design the ends of a cell's nets are on its instances
pub ends-fit : (d : Design) (id : CellId) (body : CellBody) (m j : ℕ) (b : Bit) → IsValid d → cell_at d id ≡ Some body
    → Member (ends_of_net (nets_in body.contents) m) (on j b) → j < length (insts_of body)
ends-fit d id body m j b valid at is =
    let all = (valid.cells id body at).ends in
    let end = All-contained (IsEndOf d body) (flat_map (λ (net : Net). net.ends) (nets_in body.contents)) (on j b) all
    (Member-contains (flat_map (λ (net : Net). net.ends) (nets_in body.contents)) (on j b) (net-ends (nets_in body.contents) m (on j b) is)) in
    some-inst (insts_of body) j _ end

pub Member-take : {A : Type 0} (n : ℕ) (xs : List A) (x : A) → Member (take n xs) x → Member xs x
Member-take zero xs x m = absurd m
Member-take (suc n) [] x m = absurd m
Member-take (suc n) (y ∷ xs) x m = elim m [ inl same ↦ inl same | inr rest ↦ inr (Member-take n xs x rest) ]

pub Member-drop : {A : Type 0} (n : ℕ) (xs : List A) (x : A) → Member (drop n xs) x → Member xs x
Member-drop zero xs x m = m
Member-drop (suc n) [] x m = absurd m
Member-drop (suc n) (y ∷ xs) x m = inr (Member-drop n xs x m)

pub Member-spliced : {A : Type 0} (p : ℕ) (ys xs : List A) (x : A) → Member (spliced p ys xs) x → Member xs x ⊎ Member ys x
Member-spliced p ys xs x m =
    elim (Member-append_cases (take p xs) (ys ++ drop (p + 1) xs) x m) [
      | inl left ↦ inl (Member-take p xs x left)
      | inr rest ↦ elim (Member-append_cases ys (drop (p + 1) xs) x rest) [
        | inl middle ↦ inr middle
        | inr right ↦ inl (Member-drop (p + 1) xs x right)
      ]
    ]

module _ (d : Design) (q : Dissolving) (stands : IsSite d q.cell q.site) where
  pub has-around : (inst : Inst) → Member q.site.around.insts inst → HasInst d q.cell inst
  has-around inst m =
      subst (λ v. Contains v inst) (sym (insts-here d q.cell q.site.around stands.around)) (Member-contains q.site.around.insts inst m)

  pub has-within : (inst : Inst) → Member q.site.within.insts inst → HasInst d q.site.inst.of inst
  has-within inst m =
      subst (λ v. Contains v inst) (sym (insts-here d q.site.inst.of q.site.within stands.within)) (Member-contains q.site.within.insts inst m)

  pub has-inst : HasInst d q.cell q.site.inst
  has-inst = has-around q.site.inst (slice_get-member q.site.around.insts q.site.place q.site.inst stands.inst)

  -- an instance afterwards is of a cell that was below
  below-inst : (x : CellId) (inst : Inst) → HasInst (after d q) x inst → IsBelow d inst.of x
  below-inst x inst has =
      elim (CellId-cases x q.cell) [
        | inl here ↦
            let now : Member (insts_after q.site) inst =
            Contains-member (insts_after q.site) inst
            (subst (λ v. Contains v inst) (insts-after d q stands) (subst (λ v. Contains (insts_at (after d q) v) inst) here has)) in
            let cells = subst (λ v. Member v inst.of) (map-insts_after q.site (λ (i : Inst). i.of) (λ n i. refl)) (Member-map (λ (i : Inst). i.of) (insts_after q.site) inst now) in
            subst (λ v. IsBelow d inst.of v) (sym here)
            (elim (Member-spliced q.site.place (map (λ (i : Inst). i.of) q.site.within.insts) (map (λ (i : Inst). i.of) q.site.around.insts) inst.of cells) [
              | inl around ↦
                  let found = Member-from_map (λ (i : Inst). i.of) q.site.around.insts inst.of around in
                  subst (λ v. IsBelow d v q.cell) found.2 (placed found.0 (has-around found.0 found.1))
              | inr within ↦
                  let found = Member-from_map (λ (i : Inst). i.of) q.site.within.insts inst.of within in
                  subst (λ v. IsBelow d v q.cell) found.2 (deeper q.site.inst has-inst (placed found.0 (has-within found.0 found.1)))
            ])
        | inr apart ↦ placed inst (subst (λ v. Contains v inst) (insts-other d q stands x apart) has)
      ]

  after-below : {a b : CellId} → IsBelow (after d q) a b → IsBelow d a b
  after-below (placed {id} inst is) = below-inst id inst is
  after-below (deeper {inner} {id} inst is below) = below_trans d (after-below below) (below-inst id inst is)

  pub acyclic-after : NoCellIsBelowItself d → NoCellIsBelowItself (after d q)
  acyclic-after acyclic id below = acyclic id (after-below below)

  pub fits-within : IsValid d → (m j : ℕ) (b : Bit) → Member (ends_of_part q.site (inner m)) (on j b) → j < length q.site.within.insts
  fits-within valid m j b is =
      let found = contents-body (cell_at d q.site.inst.of) q.site.within stands.within in
      let there : Member (ends_of_net (nets_in found.0.contents) m) (on j b) =
      subst (λ v. Member (ends_of_net (nets_in v) m) (on j b)) (sym found.2) is in
      subst (λ v. j < length (insts_in v)) found.2 (ends-fit d q.site.inst.of found.0 m j b valid found.1 there)

pub images_are_connected : ImagesAreConnected
images_are_connected d q root x y u v is x_is y_is eu ev =
    let both = images_connected d q is.stands (fits-within d q is.stands is.valid) root x y u v x_is y_is eu ev in
    (both.0, both.1)

pub representatives_are_carried : RepresentativesAreCarried
representatives_are_carried d q root x is x_is =
    let fits = fits-within d q is.stands is.valid in
    let first = representative d root x in
    let is_first = representative-first d is.valid.no_cycle root x x_is in
    let first_is = Connected-net d root x first is_first.connected x_is in
    let cx = carried-image d q is.stands fits root x x_is in
    let cf = carried-image d q is.stands fits root first first_is in
    let at = IsNet-parts d root first first_is in
    let carried = IsRepresentative-carried (cut_of d q) (after d q) (is_dissolves d q is.stands fits) root at.0 x.path first.path x.net first.net
    cx.net.path cf.net.path cx.net.net cf.net.net cx.carries cf.carries (Reaches-way d root first.path at.0 at.1) is_first in
    let same = representative-is (after d q) (acyclic-after d q is.stands is.valid.no_cycle) root cx.net cf.net (image-net d q is.stands fits root x x_is) carried in
    (cx.net, cx.is, cf.is ∙ ap (λ v. Some v) (sym same))
