-- The images of nets are the nets to which they are carried.
use Rattle.std.proofs.Common.{◌≡◌, ◌<◌, ◌⊎◌, ℕ, List, [], ◌∷◌, true, false, length, refl, sym, ap, subst, ◌∙◌, inl, inr, Some, slice_get}
use Rattle.std.specs.Prelude.{◌==◌, cond, option_and_then, option_map}
use Rattle.std.proofs.lemmas.Bool.{and_parts, and_from, cases_eq, eqb-true, eq-eqb, false_from_ne_true}
use Rattle.std.proofs.lemmas.List.{length-map}
use Rattle.std.proofs.lemmas.Option.{slice_get_within}
use Rattle.netlist_schema.specs.Design.{Design}
use Rattle.netlist_schema.specs.Hierarchy.{insts_at}
use Rattle.netlist_schema.specs.Types.{CellId, Inst, Net}
use Rattle.edit_rules_spec.specs.Paths.{same_cell}
use Rattle.flat_spec.specs.Connection.{Connected}
use Rattle.flat_spec.specs.Paths.{Bit, on, at_path, nets_at, Reaches, IsNet}
use Rattle.flat_spec.specs.Types.{NetAt}
use Rattle.flat_spec.proofs.ListLemmas.{Member}
use Rattle.flat_spec.proofs.PathLemmas.{Some-same, Reaches-parts, Reaches-cons, IsNet-parts, IsNet-from}
use Rattle.edit_rules_spec.proofs.Levels.{is_same_cell}
use Rattle.ungroup_spec.specs.Dissolved.{moved_place, nets_after, ends_after}
use Rattle.ungroup_spec.specs.Groups.{Site, Part, outer, inner, ends_of_part, IsPart, became, heads, head_of}
use Rattle.ungroup_spec.specs.KeepsNets.{after}
use Rattle.ungroup_spec.specs.Maps.{Dissolving, is_dissolved, step_after, child_after, net_kept, net_under, net_after, net_inside, image}
use Rattle.ungroup_spec.specs.Ungroup.{IsSite}
use Rattle.ungroup_spec.proofs.AfterLemmas.{ends-of_nets}
use Rattle.ungroup_spec.proofs.AtLemmas.{insts-here, nets-here, nets-after, nets-other}
use Rattle.ungroup_spec.proofs.BackLemmas.{onward, backward}
use Rattle.ungroup_spec.proofs.Cut.{IsChild, Shifts, StepTo, Keeps, Carries, CarriesInside, Dissolves}
use Rattle.ungroup_spec.proofs.DissolveLemmas.{step_child}
use Rattle.ungroup_spec.proofs.DissolvedLemmas.{cut_of, dissolves}
use Rattle.ungroup_spec.proofs.EndLemmas.{place-moved}
use Rattle.ungroup_spec.proofs.GroupLemmas.{became-at}
use Rattle.ungroup_spec.proofs.ImageLemmas.{CellId-cases}

-- ---- tests

pub same_cell-refl : (a b : CellId) → a ≡ b → same_cell a b ≡ true
same_cell-refl a b e =
    and_from (a.lib.0 == b.lib.0) (a.slot == b.slot) (eq-eqb a.lib.0 b.lib.0 (ap (λ (v : CellId). v.lib.0) e)) (eq-eqb a.slot b.slot (ap (λ (v : CellId). v.slot) e))

pub same_cell-false : (a b : CellId) → (a ≡ b → ⊥) → same_cell a b ≡ false
same_cell-false a b other = false_from_ne_true (same_cell a b) (λ e. other (is_same_cell a b e))

-- an instance is the dissolved one, or is not
pub dissolved-cases : (q : Dissolving) (c : CellId) (i : ℕ)
    → ((is_dissolved q c i ≡ true) × (c ≡ q.cell) × (i ≡ q.site.place)) ⊎ ((is_dissolved q c i ≡ false) × ((c ≡ q.cell) → (i ≡ q.site.place) → ⊥))
dissolved-cases q c i =
    elim (CellId-cases c q.cell) [
      | inl here ↦ elim (cases_eq i q.site.place) [
        | inl place ↦ inl (and_from (same_cell c q.cell) (i == q.site.place) (same_cell-refl c q.cell here) (eq-eqb i q.site.place place), here, place)
        | inr other ↦ inr (false_from_ne_true (is_dissolved q c i) (λ e. other (eqb-true i q.site.place (and_parts (same_cell c q.cell) (i == q.site.place) e).1)), λ _ place. other place)
      ]
      | inr other ↦ inr (false_from_ne_true (is_dissolved q c i) (λ e. other (is_same_cell c q.cell (and_parts (same_cell c q.cell) (i == q.site.place) e).0)), λ here _. other here)
    ]

-- where another instance comes to stand
pub step-to : (d : Design) (q : Dissolving) (c : CellId) (i : ℕ) → ((c ≡ q.cell) → (i ≡ q.site.place) → ⊥) → StepTo (cut_of d q) c i (step_after q c i)
step-to d q c i other =
    elim (CellId-cases c q.cell) [
      | inl here ↦
          let step : step_after q c i ≡ moved_place q.site i = ap (λ b. cond b (moved_place q.site i) i) (same_cell-refl c q.cell here) in
          let shift : Shifts (cut_of d q) i (moved_place q.site i) = place-moved q.site i (other here) in
          inr (here, subst (λ t. Shifts (cut_of d q) i t) (sym step) shift)
      | inr apart ↦ inl (apart, ap (λ b. cond b (moved_place q.site i) i) (same_cell-false c q.cell apart))
    ]

pub keeps : (d : Design) (q : Dissolving) (c : CellId) (n : ℕ) → Keeps (cut_of d q) c n (net_kept q c n)
keeps d q c n =
    elim (CellId-cases c q.cell) [
      | inl here ↦ inr (here, ap (λ b. cond b (became q.site (outer n)) n) (same_cell-refl c q.cell here))
      | inr apart ↦ inl (apart, ap (λ b. cond b (became q.site (outer n)) n) (same_cell-false c q.cell apart))
    ]

-- the image of a net inside the dissolved instance, and of one elsewhere
pub net-in : (d : Design) (q : Dissolving) (c : CellId) (i : ℕ) (path : List ℕ) (n : ℕ) → c ≡ q.cell → i ≡ q.site.place
    → net_after d q c (i ∷ path) n ≡ net_inside d q path n
net-in d q c i path n cell place =
    elim (dissolved-cases q c i) [
      | inl here ↦ ap (λ b. cond b (net_inside d q path n) (option_map (net_under (step_after q c i)) (option_and_then (λ (inst : Inst). net_after d q inst.of path n) (slice_get (insts_at d c) i)))) here.0
      | inr other ↦ absurd (other.1 cell place)
    ]

pub net-on : (d : Design) (q : Dissolving) (c : CellId) (i : ℕ) (path : List ℕ) (n : ℕ) (inst : Inst) (u : NetAt)
    → ((c ≡ q.cell) → (i ≡ q.site.place) → ⊥) → slice_get (insts_at d c) i ≡ Some inst → net_after d q inst.of path n ≡ Some u
    → net_after d q c (i ∷ path) n ≡ Some (net_under (step_after q c i) u)
net-on d q c i path n inst u apart is on =
    elim (dissolved-cases q c i) [
      | inl here ↦ absurd (apart here.1 here.2)
      | inr other ↦
          ap (λ b. cond b (net_inside d q path n) (option_map (net_under (step_after q c i)) (option_and_then (λ (v : Inst). net_after d q v.of path n) (slice_get (insts_at d c) i)))) other.0
          ∙ ap (λ o. option_map (net_under (step_after q c i)) (option_and_then (λ (v : Inst). net_after d q v.of path n) o)) is
          ∙ ap (option_map (net_under (step_after q c i))) on
    ]

-- ---- images

-- a net that becomes one is there afterwards
pub became-net : (s : Site) (x : Part) → IsPart s x → became s x < length (nets_after s)
became-net s x is =
    let fewer : became s x < length (heads s) = slice_get_within (heads s) (became s x) (head_of s x) (became-at s x is) in
    let same : length (heads s) ≡ length (nets_after s) =
    sym (length-map (heads s) (ends_after s)) ∙ ap length (sym (ends-of_nets s)) ∙ length-map (nets_after s) (λ (n : Net). n.ends) in
    subst (λ v. became s x < v) same fewer

-- a net with its image, to which it is carried
pub record IsCarried (d : Design) (q : Dissolving) (c : CellId) (path : List ℕ) (n : ℕ) : Type 0 where
  pub net : NetAt
  pub is : net_after d q c path n ≡ Some net
  pub carries : Carries (cut_of d q) c path n net.path net.net
  pub end : CellId
  pub reaches : Reaches (after d q) c net.path end
  pub below : net.net < length (nets_at (after d q) end)

pub record IsCarriedInside (d : Design) (q : Dissolving) (path : List ℕ) (n : ℕ) : Type 0 where
  pub net : NetAt
  pub is : net_inside d q path n ≡ Some net
  pub carries : CarriesInside (cut_of d q) path n net.path net.net
  pub end : CellId
  pub reaches : Reaches (after d q) q.cell net.path end
  pub below : net.net < length (nets_at (after d q) end)

module _ (d : Design) (q : Dissolving) (stands : IsSite d q.cell q.site)
    (fits : (m j : ℕ) (b : Bit) → Member (ends_of_part q.site (inner m)) (on j b) → j < length q.site.within.insts) where
  pub is_dissolves : Dissolves (cut_of d q) (after d q)
  is_dissolves = dissolves d q stands fits

  kept-net : (c : CellId) (n : ℕ) → n < length (nets_at d c) → net_kept q c n < length (nets_at (after d q) c)
  kept-net c n h =
      elim (CellId-cases c q.cell) [
        | inl here ↦
            let n_is : n < length q.site.around.nets =
            subst (λ (v : List Net). n < length v) (nets-here d q.cell q.site.around stands.around) (subst (λ v. n < length (nets_at d v)) here h) in
            let now : became q.site (outer n) < length (nets_at (after d q) q.cell) =
            subst (λ (v : List Net). became q.site (outer n) < length v) (sym (nets-after d q stands)) (became-net q.site (outer n) n_is) in
            subst (λ v. v < length (nets_at (after d q) c)) (sym (ap (λ b. cond b (became q.site (outer n)) n) (same_cell-refl c q.cell here)))
            (subst (λ v. became q.site (outer n) < length (nets_at (after d q) v)) (sym here) now)
        | inr apart ↦
            subst (λ v. v < length (nets_at (after d q) c)) (sym (ap (λ b. cond b (became q.site (outer n)) n) (same_cell-false c q.cell apart)))
            (subst (λ (v : List Net). n < length v) (sym (nets-other d q stands c apart)) h)
      ]

  mutual
    pub carried-net : (path : List ℕ) (c end : CellId) (n : ℕ) → Reaches d c path end → n < length (nets_at d end) → IsCarried d q c path n
    carried-net [] c end n at h =
        let same : c ≡ end = Some-same (Some c) refl at in
        let h' : n < length (nets_at d c) = subst (λ v. n < length (nets_at d v)) (sym same) h in
        record {
          net = at_path [] (net_kept q c n);
          is = refl;
          carries = (refl, h', keeps d q c n);
          end = c;
          reaches = refl;
          below = kept-net c n h';
        }
    carried-net (i ∷ path) c end n at h =
        let parts = Reaches-parts d c i path end at in
        elim (dissolved-cases q c i) [
          | inl here ↦
              let insts = insts-here d q.cell q.site.around stands.around in
              let there : slice_get q.site.around.insts q.site.place ≡ Some parts.0 =
              subst (λ v. slice_get v q.site.place ≡ Some parts.0) insts
              (subst (λ v. slice_get (insts_at d v) q.site.place ≡ Some parts.0) here.1 (subst (λ v. slice_get (insts_at d c) v ≡ Some parts.0) here.2 parts.1)) in
              let same : parts.0 ≡ q.site.inst = Some-same (slice_get q.site.around.insts q.site.place) there stands.inst in
              let deep = carried-inside path end n (subst (λ (v : Inst). Reaches d v.of path end) same parts.2) h in
              record {
                net = deep.net;
                is = ap (λ b. cond b (net_inside d q path n) (option_map (net_under (step_after q c i)) (option_and_then (λ inst. net_after d q inst.of path n) (slice_get (insts_at d c) i)))) here.0 ∙ deep.is;
                carries = inr (here.1, here.2, deep.carries);
                end = deep.end;
                reaches = subst (λ v. Reaches (after d q) v deep.net.path deep.end) (sym here.1) deep.reaches;
                below = deep.below;
              }
          | inr other ↦
              let deep = carried-net path parts.0.of end n parts.2 h in
              let kid : IsChild d c i parts.0.of = (parts.0, parts.1, refl) in
              let step = step-to d q c i other.1 in
              let moved = step_child (cut_of d q) (after d q) is_dissolves c i (step_after q c i) parts.0.of step kid in
              record {
                net = net_under (step_after q c i) deep.net;
                is = ap (λ b. cond b (net_inside d q path n) (option_map (net_under (step_after q c i)) (option_and_then (λ inst. net_after d q inst.of path n) (slice_get (insts_at d c) i)))) other.0
                    ∙ ap (λ o. option_map (net_under (step_after q c i)) (option_and_then (λ (inst : Inst). net_after d q inst.of path n) o)) parts.1
                    ∙ ap (option_map (net_under (step_after q c i))) deep.is;
                carries = inl (parts.0.of, step_after q c i, deep.net.path, kid, step, deep.carries, refl);
                end = deep.end;
                reaches = Reaches-cons (after d q) c (step_after q c i) moved.0 deep.net.path deep.end moved.1
                    (subst (λ v. Reaches (after d q) v deep.net.path deep.end) moved.2 deep.reaches);
                below = deep.below;
              }
        ]

    pub carried-inside : (path : List ℕ) (end : CellId) (n : ℕ) → Reaches d q.site.inst.of path end → n < length (nets_at d end) → IsCarriedInside d q path n
    carried-inside [] end n at h =
        let same : q.site.inst.of ≡ end = Some-same (Some q.site.inst.of) refl at in
        let h' : n < length (nets_at d q.site.inst.of) = subst (λ v. n < length (nets_at d v)) (sym same) h in
        let n_is : n < length q.site.within.nets = subst (λ (v : List Net). n < length v) (nets-here d q.site.inst.of q.site.within stands.within) h' in
        record {
          net = at_path [] (became q.site (inner n));
          is = refl;
          carries = (refl, h', refl);
          end = q.cell;
          reaches = refl;
          below = subst (λ (v : List Net). became q.site (inner n) < length v) (sym (nets-after d q stands)) (became-net q.site (inner n) n_is);
        }
    carried-inside (j ∷ path) end n at h =
        let parts = Reaches-parts d q.site.inst.of j path end at in
        let there : slice_get q.site.within.insts j ≡ Some parts.0 =
        subst (λ v. slice_get v j ≡ Some parts.0) (insts-here d q.site.inst.of q.site.within stands.within) parts.1 in
        let kid : IsChild d q.site.inst.of j parts.0.of = (parts.0, parts.1, refl) in
        let deep = carried-net path parts.0.of end n parts.2 h in
        let moved = is_dissolves.placed j parts.0.of kid in
        record {
          net = net_under (child_after q j) deep.net;
          is = ap (λ o. option_map (net_under (child_after q j)) (option_and_then (λ (inst : Inst). net_after d q inst.of path n) o)) there
              ∙ ap (option_map (net_under (child_after q j))) deep.is;
          carries = (parts.0.of, deep.net.path, kid, deep.carries, refl);
          end = deep.end;
          reaches = Reaches-cons (after d q) q.cell (child_after q j) moved.0 deep.net.path deep.end moved.1
              (subst (λ v. Reaches (after d q) v deep.net.path deep.end) moved.2 deep.reaches);
          below = deep.below;
        }

  pub carried-image : (root : CellId) (x : NetAt) → IsNet d root x → IsCarried d q root x.path x.net
  carried-image root x is =
      let parts = IsNet-parts d root x is in
      carried-net x.path root parts.0 x.net parts.1 parts.2

  -- the image of a net is a net
  pub image-net : (root : CellId) (x : NetAt) (is : IsNet d root x) → IsNet (after d q) root (carried-image root x is).net
  image-net root x is =
      let c = carried-image root x is in
      IsNet-from (after d q) root c.end c.net.path c.net.net c.reaches c.below

  pub images_connected : (root : CellId) (x y u v : NetAt) → IsNet d root x → IsNet d root y → image d q root x ≡ Some u → image d q root y ≡ Some v
      → (Connected d root x y → Connected (after d q) root u v) × (Connected (after d q) root u v → Connected d root x y)
  images_connected root x y u v x_is y_is eu ev =
      let cx = carried-image root x x_is in
      let cy = carried-image root y y_is in
      let u_is : cx.net ≡ u = Some-same (image d q root x) cx.is eu in
      let v_is : cy.net ≡ v = Some-same (image d q root y) cy.is ev in (
        λ k. subst (λ w. Connected (after d q) root w v) u_is (subst (λ w. Connected (after d q) root cx.net w) v_is
            (onward (cut_of d q) (after d q) is_dissolves root x y k.0 cx.net.path cx.net.net cy.net.path cy.net.net k.1 cx.carries cy.carries)),
        λ k.
            let k' : Connected (after d q) root cx.net cy.net =
            subst (λ w. Connected (after d q) root w cy.net) (sym u_is) (subst (λ w. Connected (after d q) root u w) (sym v_is) k) in
            backward (cut_of d q) (after d q) is_dissolves root cx.net cy.net k'.0 x.path x.net y.path y.net k'.1 cx.carries cy.carries,
      )
