-- The net at a pin afterwards is the image of the one before.
use Rattle.std.proofs.Common.{◌≡◌, ℕ, List, [], ◌∷◌, ◌++◌, refl, sym, ap, subst, ◌∙◌, inl, inr, Option, Some, None, slice_get}
use Rattle.std.specs.Prelude.{option_and_then, flat_map}
use Rattle.std.proofs.lemmas.Option.{slice_get_within}
use Rattle.std.proofs.lemmas.List.{same_from_push}
use Rattle.netlist_schema.specs.Design.{Design}
use Rattle.netlist_schema.specs.Types.{CellId, Inst, Net}
use Rattle.flat_spec.specs.Paths.{Bit, own, on, at_path, at_root, Joins, nets_at}
use Rattle.flat_spec.specs.Pins.{net_at_pin, JoinsPin}
use Rattle.flat_spec.specs.Types.{NetAt}
use Rattle.flat_spec.proofs.ListLemmas.{last_cases}
use Rattle.flat_spec.proofs.PathLemmas.{Joins-outward_here, Joins-reaches}
use Rattle.flat_spec.proofs.PinLemmas.{JoinsOnce, nets_at-once, net_at_pin-joins, net_at_pin-from_once}
use Rattle.ungroup_spec.specs.Groups.{inner, became}
use Rattle.ungroup_spec.specs.KeepsNets.{after, IsUngroup, PinsAreCarried}
use Rattle.ungroup_spec.specs.Maps.{Dissolving, step_after, child_after, net_kept, net_under, net_after, net_inside, path_after, path_inside, image}
use Rattle.ungroup_spec.specs.Ungroup.{IsSite}
use Rattle.ungroup_spec.proofs.ApartLemmas.{Apart, after-apart}
use Rattle.ungroup_spec.proofs.AtLemmas.{nets-here, nets-after, nets-other}
use Rattle.ungroup_spec.proofs.BackLemmas.{own_back}
use Rattle.ungroup_spec.proofs.CarriedLemmas.{is_dissolves, step-to, keeps, net-in, net-on}
use Rattle.ungroup_spec.proofs.Cut.{IsChild, JoinsIn, Dissolves}
use Rattle.ungroup_spec.proofs.DissolveLemmas.{step_child, own_carried, on_carried}
use Rattle.ungroup_spec.proofs.DissolvedLemmas.{cut_of}
use Rattle.ungroup_spec.proofs.ImageLemmas.{CellId-cases, Keeps-same}
use Rattle.ungroup_spec.proofs.PathLemmas.{and_map-from, path-cases, inside-parts, path-step, kid-of, within-kid, GoesOn}
use Rattle.ungroup_spec.proofs.SoundLemmas.{fits-within}
use Rattle.ungroup_spec.proofs.Ways.{Way, Way-reaches, Reaches-way, IsChild-same, JoinsIn-joins, joins_here}

module _ (d : Design) (q : Dissolving) (stands : IsSite d q.cell q.site) (is : Dissolves (cut_of d q) (after d q)) where
  -- the image of the net that joins a pin joins the pin's image
  record Onward (c : CellId) (net : Option NetAt) (moved : List ℕ) (b : Bit) : Type 0 where
    u : NetAt
    is_u : net ≡ Some u
    t : ℕ
    whole : moved ≡ u.path ++ t ∷ []
    e : CellId
    way : Way (after d q) c u.path e
    joins : JoinsIn (after d q) e u.net (on t b)

  mutual
    onward_pin : (p : List ℕ) (c a : CellId) (s n : ℕ) (b : Bit) (moved : List ℕ) → Way d c p a → JoinsIn d a n (on s b)
        → path_after d q c (p ++ s ∷ []) ≡ Some moved → Onward c (net_after d q c p n) moved b
    onward_pin [] c a s n b moved at joins e =
        elim (path-cases d q c s [] moved e) [
          | inl in_it ↦ absurd (cc in_it.on)
          | inr apart ↦
              let empty : apart.rest ≡ [] = cc apart.on in
              record {
                u = at_path [] (net_kept q c n);
                is_u = refl;
                t = step_after q c s;
                whole = apart.whole ∙ ap (λ v. step_after q c s ∷ v) empty;
                e = c;
                way = refl;
                joins = on_carried (cut_of d q) (after d q) is c n (net_kept q c n) s (step_after q c s) b (keeps d q c n) (step-to d q c s apart.other)
                    (subst (λ v. JoinsIn d v n (on s b)) at joins);
              }
        ]
    onward_pin (i ∷ p) c a s n b moved at joins e =
        elim (path-cases d q c i (p ++ s ∷ []) moved e) [
          | inl in_it ↦
              let kid : IsChild d q.cell q.site.place at.0 =
              subst (λ v. IsChild d v q.site.place at.0) in_it.cell (subst (λ v. IsChild d c v at.0) in_it.place at.1) in
              let same : at.0 ≡ q.site.inst.of = IsChild-same d q.cell q.site.place kid is.dissolved in
              let deep = onward_inside p a s n b moved (subst (λ v. Way d v p a) same at.2) joins in_it.on in
              record {
                u = deep.u;
                is_u = net-in d q c i p n in_it.cell in_it.place ∙ deep.is_u;
                t = deep.t;
                whole = deep.whole;
                e = deep.e;
                way = subst (λ v. Way (after d q) v deep.u.path deep.e) (sym in_it.cell) deep.way;
                joins = deep.joins;
              }
          | inr apart ↦
              let kid = kid-of d c i apart.inst apart.is in
              let same : at.0 ≡ apart.inst.of = IsChild-same d c i at.1 kid in
              let deep = onward_pin p apart.inst.of a s n b apart.rest (subst (λ v. Way d v p a) same at.2) joins apart.on in
              record {
                u = net_under (step_after q c i) deep.u;
                is_u = net-on d q c i p n apart.inst deep.u apart.other apart.is deep.is_u;
                t = deep.t;
                whole = apart.whole ∙ ap (λ v. step_after q c i ∷ v) deep.whole;
                e = deep.e;
                way = (apart.inst.of, step_child (cut_of d q) (after d q) is c i (step_after q c i) apart.inst.of (step-to d q c i apart.other) kid, deep.way);
                joins = deep.joins;
              }
        ]

    onward_inside : (p : List ℕ) (a : CellId) (s n : ℕ) (b : Bit) (moved : List ℕ) → Way d q.site.inst.of p a → JoinsIn d a n (on s b)
        → path_inside d q (p ++ s ∷ []) ≡ Some moved → Onward q.cell (net_inside d q p n) moved b
    onward_inside [] a s n b moved at joins e =
        let parts = inside-parts d q s [] moved e in
        let empty : parts.rest ≡ [] = cc parts.on in
        record {
          u = at_path [] (became q.site (inner n));
          is_u = refl;
          t = child_after q s;
          whole = parts.whole ∙ ap (λ v. child_after q s ∷ v) empty;
          e = q.cell;
          way = refl;
          joins = is.on_placed n s b (subst (λ v. JoinsIn d v n (on s b)) at joins);
        }
    onward_inside (j ∷ p) a s n b moved at joins e =
        let parts = inside-parts d q j (p ++ s ∷ []) moved e in
        let kid = within-kid d q stands j parts.inst parts.is in
        let same : at.0 ≡ parts.inst.of = IsChild-same d q.site.inst.of j at.1 kid in
        let deep = onward_pin p parts.inst.of a s n b parts.rest (subst (λ v. Way d v p a) same at.2) joins parts.on in
        record {
          u = net_under (child_after q j) deep.u;
          is_u = and_map-from (λ (inst : Inst). net_after d q inst.of p n) (net_under (child_after q j)) (slice_get q.site.within.insts j) parts.inst deep.u parts.is deep.is_u;
          t = deep.t;
          whole = parts.whole ∙ ap (λ v. child_after q j ∷ v) deep.whole;
          e = deep.e;
          way = (parts.inst.of, is.placed j parts.inst.of kid, deep.way);
          joins = deep.joins;
        }

  -- a net that joins a pin's image is the image of one that joins the pin
  record Back (c : CellId) (p : List ℕ) (net : ℕ → Option NetAt) (u : NetAt) (s : ℕ) (b : Bit) : Type 0 where
    n : ℕ
    a : CellId
    way : Way d c p a
    joins : JoinsIn d a n (on s b)
    is_u : net n ≡ Some u

  on_back : (c : CellId) (m s : ℕ) (b : Bit) → ((c ≡ q.cell) → (s ≡ q.site.place) → ⊥) → JoinsIn (after d q) c m (on (step_after q c s) b)
      → (n : ℕ) × (net_kept q c n ≡ m) × JoinsIn d c n (on s b)
  on_back c m s b other joins =
      elim (step-to d q c s other) [
        | inl apart ↦
            let same : net_kept q c m ≡ m = Keeps-same (cut_of d q) (after d q) is c m (net_kept q c m) m (keeps d q c m) (inl (apart.0, refl)) in
            let there = subst (λ v. JoinsIn (after d q) c m (on v b)) apart.1 joins in
            (m, same, (there.0, subst (λ (v : List Net). slice_get v m ≡ Some there.0) (nets-other d q stands c apart.0) there.1, there.2))
        | inr here ↦
            let from = is.on_from m s (step_after q c s) b here.1 (subst (λ v. JoinsIn (after d q) v m (on (step_after q c s) b)) here.0 joins) in
            let same : net_kept q c from.0 ≡ m = Keeps-same (cut_of d q) (after d q) is c from.0 (net_kept q c from.0) m (keeps d q c from.0) (inr (here.0, from.1)) in
            (from.0, same, subst (λ v. JoinsIn d v from.0 (on s b)) (sym here.0) from.2)
      ]

  net_is : (x y : NetAt) → x.path ≡ y.path → x.net ≡ y.net → x ≡ y
  net_is x y p n = λ i. record { path = p i; net = n i }

  -- a step elsewhere, where the rest is known
  back_on : (p : List ℕ) (c : CellId) (i s : ℕ) (b : Bit)
      → ((k : CellId) (moved r : List ℕ) (t m : ℕ) (e : CellId) → path_after d q k (p ++ s ∷ []) ≡ Some moved → moved ≡ r ++ t ∷ []
      → Way (after d q) k r e → JoinsIn (after d q) e m (on t b) → Back k p (net_after d q k p) (at_path r m) s b)
      → (moved : List ℕ) (r : List ℕ) (t m : ℕ) (e : CellId)
      → GoesOn d q c i (p ++ s ∷ []) moved → moved ≡ r ++ t ∷ [] → Way (after d q) c r e → JoinsIn (after d q) e m (on t b)
      → Back c (i ∷ p) (net_after d q c (i ∷ p)) (at_path r m) s b
  back_on p c i s b further moved [] t m e apart whole way joins =
      let all : step_after q c i ∷ apart.rest ≡ t ∷ [] = sym apart.whole ∙ whole in
      let empty : apart.rest ≡ [] = cc all in
      absurd (path-step d q apart.inst.of p s (apart.on ∙ ap (λ v. Some v) empty))
  back_on p c i s b further moved (v ∷ r) t m e apart whole way joins =
      let all : step_after q c i ∷ apart.rest ≡ v ∷ r ++ t ∷ [] = sym apart.whole ∙ whole in
      let first : step_after q c i ≡ v = cc all in
      let rest : apart.rest ≡ r ++ t ∷ [] = cc all in
      let kid = kid-of d c i apart.inst apart.is in
      let now = step_child (cut_of d q) (after d q) is c i (step_after q c i) apart.inst.of (step-to d q c i apart.other) kid in
      let same : way.0 ≡ apart.inst.of = IsChild-same (after d q) c (step_after q c i) (subst (λ w. IsChild (after d q) c w way.0) (sym first) way.1) now in
      let deep = further apart.inst.of apart.rest r t m e apart.on rest (subst (λ w. Way (after d q) w r e) same way.2) joins in
      record {
        n = deep.n;
        a = deep.a;
        way = (apart.inst.of, kid, deep.way);
        joins = deep.joins;
        is_u = net-on d q c i p deep.n apart.inst (at_path r m) apart.other apart.is deep.is_u ∙ ap (λ w. Some (at_path (w ∷ r) m)) first;
      }

  mutual
    back_pin : (p : List ℕ) (c : CellId) (s : ℕ) (b : Bit) (moved : List ℕ) (r : List ℕ) (t m : ℕ) (e : CellId)
        → path_after d q c (p ++ s ∷ []) ≡ Some moved → moved ≡ r ++ t ∷ [] → Way (after d q) c r e → JoinsIn (after d q) e m (on t b)
        → Back c p (net_after d q c p) (at_path r m) s b
    back_pin [] c s b moved r t m e path whole way joins =
        elim (path-cases d q c s [] moved path) [
          | inl in_it ↦ absurd (cc in_it.on)
          | inr apart ↦
              let empty : apart.rest ≡ [] = cc apart.on in
              let parts = same_from_push [] r (step_after q c s) t (sym (apart.whole ∙ ap (λ v. step_after q c s ∷ v) empty) ∙ whole) in
              let end : e ≡ c = subst (λ v. Way (after d q) c v e) (sym parts.0) way in
              let from = on_back c m s b apart.other (subst (λ v. JoinsIn (after d q) v m (on (step_after q c s) b)) end (subst (λ v. JoinsIn (after d q) e m (on v b)) (sym parts.1) joins)) in
              record {
                n = from.0;
                a = c;
                way = refl;
                joins = from.2;
                is_u = ap (λ v. Some v) (net_is (at_path [] (net_kept q c from.0)) (at_path r m) parts.0 from.1);
              }
        ]
    back_pin (i ∷ p) c s b moved r t m e path whole way joins =
        elim (path-cases d q c i (p ++ s ∷ []) moved path) [
          | inl in_it ↦
              let deep = back_inside p s b moved r t m e in_it.on whole (subst (λ v. Way (after d q) v r e) in_it.cell way) joins in
              let kid : IsChild d c i q.site.inst.of =
              subst (λ v. IsChild d c v q.site.inst.of) (sym in_it.place) (subst (λ v. IsChild d v q.site.place q.site.inst.of) (sym in_it.cell) is.dissolved) in
              record {
                n = deep.n;
                a = deep.a;
                way = (q.site.inst.of, kid, deep.way);
                joins = deep.joins;
                is_u = net-in d q c i p deep.n in_it.cell in_it.place ∙ deep.is_u;
              }
          | inr apart ↦ back_on p c i s b (λ k mv rr tt' mm ee. back_pin p k s b mv rr tt' mm ee) moved r t m e apart whole way joins
        ]

    back_inside : (p : List ℕ) (s : ℕ) (b : Bit) (moved : List ℕ) (r : List ℕ) (t m : ℕ) (e : CellId)
        → path_inside d q (p ++ s ∷ []) ≡ Some moved → moved ≡ r ++ t ∷ [] → Way (after d q) q.cell r e → JoinsIn (after d q) e m (on t b)
        → Back q.site.inst.of p (net_inside d q p) (at_path r m) s b
    back_inside [] s b moved r t m e path whole way joins =
        let child = inside-parts d q s [] moved path in
        let empty : child.rest ≡ [] = cc child.on in
        let parts = same_from_push [] r (child_after q s) t (sym (child.whole ∙ ap (λ v. child_after q s ∷ v) empty) ∙ whole) in
        let end : e ≡ q.cell = subst (λ v. Way (after d q) q.cell v e) (sym parts.0) way in
        let few = slice_get_within q.site.within.insts s child.inst child.is in
        let from = is.on_placed_from m s b few (subst (λ v. JoinsIn (after d q) v m (on (child_after q s) b)) end (subst (λ v. JoinsIn (after d q) e m (on v b)) (sym parts.1) joins)) in
        record {
          n = from.0;
          a = q.site.inst.of;
          way = refl;
          joins = from.2;
          is_u = ap (λ v. Some v) (net_is (at_path [] (became q.site (inner from.0))) (at_path r m) parts.0 (sym from.1));
        }
    back_inside (j ∷ p) s b moved [] t m e path whole way joins =
        let child = inside-parts d q j (p ++ s ∷ []) moved path in
        let all : child_after q j ∷ child.rest ≡ t ∷ [] = sym child.whole ∙ whole in
        let empty : child.rest ≡ [] = cc all in
        absurd (path-step d q child.inst.of p s (child.on ∙ ap (λ v. Some v) empty))
    back_inside (j ∷ p) s b moved (v ∷ r) t m e path whole way joins =
        let child = inside-parts d q j (p ++ s ∷ []) moved path in
        let all : child_after q j ∷ child.rest ≡ v ∷ r ++ t ∷ [] = sym child.whole ∙ whole in
        let first : child_after q j ≡ v = cc all in
        let rest : child.rest ≡ r ++ t ∷ [] = cc all in
        let kid = within-kid d q stands j child.inst child.is in
        let now = is.placed j child.inst.of kid in
        let same : way.0 ≡ child.inst.of = IsChild-same (after d q) q.cell (child_after q j) (subst (λ w. IsChild (after d q) q.cell w way.0) (sym first) way.1) now in
        let deep = back_pin p child.inst.of s b child.rest r t m e child.on rest (subst (λ w. Way (after d q) w r e) same way.2) joins in
        record {
          n = deep.n;
          a = deep.a;
          way = (child.inst.of, kid, deep.way);
          joins = deep.joins;
          is_u = and_map-from (λ (inst : Inst). net_after d q inst.of p deep.n) (net_under (child_after q j)) (slice_get q.site.within.insts j) child.inst (at_path r m) child.is deep.is_u
              ∙ ap (λ w. Some (at_path (w ∷ r) m)) first;
        }

  pub pin_onward : (root : CellId) (path moved : List ℕ) (b : Bit) (x : NetAt) → path_after d q root path ≡ Some moved → JoinsPin d root x path b
      → (u : NetAt) × (image d q root x ≡ Some u) × JoinsPin (after d q) root u moved b
  pin_onward root [] moved b x e j =
      let none : moved ≡ [] = cc e in
      let here : Joins d root (at_root x.net) (own b) = subst (λ v. Joins d root (at_path v x.net) (own b)) j.0 j.1 in
      let joins = own_carried (cut_of d q) (after d q) is root x.net (net_kept q root x.net) b (keeps d q root x.net) (joins_here d root root [] x.net (own b) refl here) in (
        at_path [] (net_kept q root x.net),
        ap (λ v. net_after d q root v x.net) j.0,
        subst (λ v. JoinsPin (after d q) root (at_path [] (net_kept q root x.net)) v b) (sym none) (refl, JoinsIn-joins (after d q) root (net_kept q root x.net) (own b) joins),
      )
  pin_onward root (i ∷ path) moved b x e j =
      let at = Joins-reaches d root x (on j.0 b) j.2 in
      let so = onward_pin x.path root at.0 j.0 x.net b moved (Reaches-way d root x.path at.0 at.1) (joins_here d root at.0 x.path x.net (on j.0 b) at.1 j.2)
      (subst (λ v. path_after d q root v ≡ Some moved) j.1 e) in
      (so.u, so.is_u, pin_at moved so.u so.t b so.whole (Joins-outward_here (after d q) root so.e so.u.path so.u.net (on so.t b) (Way-reaches (after d q) root so.u.path so.e so.way) (JoinsIn-joins (after d q) so.e so.u.net (on so.t b) so.joins)))
    where
      pin_at : (v : List ℕ) (u : NetAt) (t : ℕ) (b : Bit) → v ≡ u.path ++ t ∷ [] → Joins (after d q) root u (on t b) → JoinsPin (after d q) root u v b
      pin_at [] u t b e j = absurd (nonempty u.path e)
        where
          nonempty : (p : List ℕ) → [] ≡ p ++ t ∷ [] → ⊥
          nonempty [] e = cc e
          nonempty (k ∷ p) e = cc e
      pin_at (k ∷ v) u t b e j = (t, e, j)

  pub pin_back : (root : CellId) (path moved : List ℕ) (b : Bit) (u : NetAt) → path_after d q root path ≡ Some moved → JoinsPin (after d q) root u moved b
      → (x : NetAt) × (image d q root x ≡ Some u) × JoinsPin d root x path b
  pin_back root [] moved b u e j =
      let none : moved ≡ [] = cc e in
      let there = subst (λ v. JoinsPin (after d q) root u v b) none j in
      let here : Joins (after d q) root (at_root u.net) (own b) = subst (λ v. Joins (after d q) root (at_path v u.net) (own b)) there.0 there.1 in
      let from = own_back (cut_of d q) (after d q) is root u.net b (joins_here (after d q) root root [] u.net (own b) refl here) in
      let net : net_kept q root from.0 ≡ u.net = Keeps-same (cut_of d q) (after d q) is root from.0 (net_kept q root from.0) u.net (keeps d q root from.0) from.1 in
      (at_root from.0, ap (λ v. Some v) (net_is (at_path [] (net_kept q root from.0)) u (sym there.0) net), (refl, JoinsIn-joins d root from.0 (own b) from.2))
  pin_back root (i ∷ path) moved b u e j =
      elim (last_cases (i ∷ path)) [
        | inl none ↦ absurd (cc none)
        | inr parts ↦
            let p = parts.0 in
            let s = parts.1 in
            let path_is : i ∷ path ≡ p ++ s ∷ [] = parts.2 in
            let e' : path_after d q root (p ++ s ∷ []) ≡ Some moved = subst (λ v. path_after d q root v ≡ Some moved) path_is e in
            let at = pin_parts p s moved u b e' j in
            let end = Joins-reaches (after d q) root u (on at.0 b) at.2 in
            let from = back_pin p root s b moved u.path at.0 u.net end.0 e' at.1 (Reaches-way (after d q) root u.path end.0 end.1)
            (joins_here (after d q) root end.0 u.path u.net (on at.0 b) end.1 at.2) in (
              at_path p from.n,
              from.is_u,
              (s, path_is, Joins-outward_here d root from.a p from.n (on s b) (Way-reaches d root p from.a from.way) (JoinsIn-joins d from.a from.n (on s b) from.joins)),
            )
      ]
    where
      pin_parts : (p : List ℕ) (s : ℕ) (v : List ℕ) (u : NetAt) (b : Bit) → path_after d q root (p ++ s ∷ []) ≡ Some v → JoinsPin (after d q) root u v b
          → (t : ℕ) × (v ≡ u.path ++ t ∷ []) × Joins (after d q) root u (on t b)
      pin_parts p s [] u b e j = absurd (path-step d q root p s e)
      pin_parts p s (k ∷ v) u b e j = j

pub pins_are_carried : PinsAreCarried
pins_are_carried d q root path moved b is e =
    let fits = fits-within d q is.stands is.valid in
    let dissolves = is_dissolves d q is.stands fits in
    let once = nets_at-once d is.valid in
    go (net_at_pin d root path b) refl (net_at_pin (after d q) root moved b) refl dissolves (once_after d q is)
  where
    once_after : (d : Design) (q : Dissolving) → IsUngroup d q → JoinsOnce (after d q)
    once_after d q is c =
        let once = nets_at-once d is.valid in
        let fits = fits-within d q is.stands is.valid in
        elim (CellId-cases c q.cell) [
          | inl here ↦
              let around = subst (λ (v : List Net). Apart (flat_map (λ (n : Net). n.ends) v)) (nets-here d q.cell q.site.around is.stands.around) (once q.cell) in
              let within = subst (λ (v : List Net). Apart (flat_map (λ (n : Net). n.ends) v)) (nets-here d q.site.inst.of q.site.within is.stands.within) (once q.site.inst.of) in
              subst (λ v. Apart (flat_map (λ (n : Net). n.ends) (nets_at (after d q) v))) (sym here)
              (subst (λ (v : List Net). Apart (flat_map (λ (n : Net). n.ends) v)) (sym (nets-after d q is.stands)) (after-apart q.site around within fits))
          | inr apart ↦ subst (λ (v : List Net). Apart (flat_map (λ (n : Net). n.ends) v)) (sym (nets-other d q is.stands c apart)) (once c)
        ]

    go : (o : Option NetAt) → net_at_pin d root path b ≡ o → (p : Option NetAt) → net_at_pin (after d q) root moved b ≡ p → Dissolves (cut_of d q) (after d q)
        → JoinsOnce (after d q) → p ≡ option_and_then (image d q root) o
    go (Some x) is_o p is_p dissolves once =
        let on = pin_onward d q is.stands dissolves root path moved b x e (net_at_pin-joins d root path b x is_o) in
        sym is_p ∙ net_at_pin-from_once (after d q) once root moved b on.0 on.2 ∙ sym on.1
    go None is_o None is_p dissolves once = refl
    go None is_o (Some u) is_p dissolves once =
        let back = pin_back d q is.stands dissolves root path moved b u e (net_at_pin-joins (after d q) root moved b u is_p) in
        absurd (cc (sym is_o ∙ net_at_pin-from_once d (nets_at-once d is.valid) root path b back.0 back.2))
