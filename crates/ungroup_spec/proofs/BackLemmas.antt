-- What meets afterwards came from what met before; and so what is connected stays connected, both ways.
use Rattle.std.proofs.Common.{◌≡◌, ◌≤◌, ◌<◌, ◌+◌, ◌-◌, ◌⊎◌, ℕ, List, [], ◌∷◌, ◌++◌, length, refl, sym, ap, subst, inl, inr, arith, Some}
use Rattle.std.proofs.lemmas.Option.{slice_get_within}
use Rattle.flat_spec.specs.Paths.{Bit, at_path, nets_at, on, own}
use Rattle.flat_spec.specs.Connection.{AreNeighbours, Connected}
use Rattle.flat_spec.proofs.ConnectionLemmas.{Connected-sym}
use Rattle.ungroup_spec.proofs.Cut.{Carries, Cut, Dissolves, IsChild, JoinsIn, Keeps, Shifts}
use Rattle.ungroup_spec.proofs.Ways.{Connected-under, Way, meeting, meets_at, neighbour-net}
use Rattle.std.specs.Prelude.{slice_get}
use Rattle.netlist_schema.specs.Types.{CellId}
use Rattle.netlist_schema.specs.Design.{Design}
use Rattle.netlist_schema.specs.Types.{Inst}
use Rattle.netlist_schema.specs.Types.{Net}
use Rattle.flat_spec.specs.Types.{NetAt}
use Rattle.flat_spec.specs.Chains.{Leads}
use Rattle.flat_spec.proofs.ChainLemmas.{Chain-same, Chain-one, Chain-append}
use Rattle.ungroup_spec.proofs.DissolveLemmas.{forward}
use Rattle.ungroup_spec.proofs.ImageLemmas.{CellId-cases, carried, Carries-same, same_image}

module _ (q : Cut) (new : Design) (is : Dissolves q new) where
  -- a net that joins an own bit afterwards came from one that joined it before
  pub own_back : (x : CellId) (m : ℕ) (b : Bit) → JoinsIn new x m (own b) → (n : ℕ) × Keeps q x n m × JoinsIn q.old x n (own b)
  own_back x m b joins =
      elim (CellId-cases x q.cell) [
        | inl here ↦
            let from = is.own_from m b (subst (λ v. JoinsIn new v m (own b)) here joins) in
            (from.0, inr (here, from.1), subst (λ v. JoinsIn q.old v from.0 (own b)) (sym here) from.2)
        | inr other ↦
            (m, inl (other, refl), (joins.0, subst (λ (v : List Net). slice_get v m ≡ Some joins.0) (is.other_nets x other) joins.1, joins.2))
      ]

  -- where an instance of the cell came from
  pub place_cases : (t : ℕ) → ((s : ℕ) × Shifts q s t) ⊎ ((j : ℕ) × (j < q.count) × (t ≡ q.place + j))
  place_cases t =
      elim (split t q.place) [
        | inl low ↦ inl (t, inl (low, refl))
        | inr rest ↦ elim (split t (q.place + q.count)) [
          | inl inside ↦ inr (t - q.place, few t rest inside, same t rest)
          | inr high ↦ inl (t + 1 - q.count, inr (above t high, sums t high))
        ]
      ]
    where
      split : (a b : ℕ) → (a < b) ⊎ (b ≤ a)
      split a b = grind arith

      few : (a : ℕ) → q.place ≤ a → a < q.place + q.count → a - q.place < q.count
      few a h k = omega (arith, h, k)

      same : (a : ℕ) → q.place ≤ a → a ≡ q.place + (a - q.place)
      same a h = omega (arith, h)

      above : (a : ℕ) → q.place + q.count ≤ a → q.place < a + 1 - q.count
      above a h = omega (arith, h)

      sums : (a : ℕ) → q.place + q.count ≤ a → a + 1 ≡ a + 1 - q.count + q.count
      sums a h = omega (arith, h)

  -- two nets before, whose images these are
  abbrev pub Came : CellId → List ℕ → ℕ → List ℕ → ℕ → Type 0
  Came x up m low n =
      (p : List ℕ) × (a : ℕ) × (r : List ℕ) × (b : ℕ) × Carries q x p a up m × Carries q x r b low n × Connected q.old x (at_path p a) (at_path r b)

  pub back : (path : List ℕ) (x a b : CellId) (t m n : ℕ) (bit : Bit)
      → Way new x path a → IsChild new a t b → JoinsIn new a m (on t bit) → JoinsIn new b n (own bit)
      → Came x path m (path ++ t ∷ []) n
  back [] x a b t m n bit at kid over inner =
      let kid_here : IsChild new x t b = subst (λ v. IsChild new v t b) at kid in
      let over_here : JoinsIn new x m (on t bit) = subst (λ v. JoinsIn new v m (on t bit)) at over in
      let low = own_back b n bit inner in
      let low_net : low.0 < length (nets_at q.old b) = slice_get_within (nets_at q.old b) low.0 low.2.0 low.2.1 in
      elim (CellId-cases x q.cell) [
        | inr other ↦
            let kid_old : IsChild q.old x t b =
            (kid_here.0, subst (λ (v : List Inst). slice_get v t ≡ Some kid_here.0) (is.other_insts x other) kid_here.1, kid_here.2) in
            let over_old : JoinsIn q.old x m (on t bit) =
            (over_here.0, subst (λ (v : List Net). slice_get v m ≡ Some over_here.0) (is.other_nets x other) over_here.1, over_here.2) in
            let up_net : m < length (nets_at q.old x) = slice_get_within (nets_at q.old x) m over_old.0 over_old.1 in (
              [],
              m,
              t ∷ [],
              low.0,
              (refl, up_net, inl (other, refl)),
              inl (b, t, [], kid_old, inl (other, refl), (refl, low_net, low.1), refl),
              Chain-one {R = AreNeighbours q.old x} (inl (meets_at q.old x x b [] t m low.0 bit refl kid_old over_old low.2)),
            )
        | inl here ↦
            let kid_cell : IsChild new q.cell t b = subst (λ v. IsChild new v t b) here kid_here in
            let over_cell : JoinsIn new q.cell m (on t bit) = subst (λ v. JoinsIn new v m (on t bit)) here over_here in
            elim (place_cases t) [
              | inl shift ↦
                  let from = is.on_from m shift.0 t bit shift.1 over_cell in
                  let kid_old : IsChild q.old x shift.0 b = subst (λ v. IsChild q.old v shift.0 b) (sym here) ((is.shifted shift.0 t b shift.1).1 kid_cell) in
                  let over_old : JoinsIn q.old x from.0 (on shift.0 bit) = subst (λ v. JoinsIn q.old v from.0 (on shift.0 bit)) (sym here) from.2 in
                  let up_net : from.0 < length (nets_at q.old x) = slice_get_within (nets_at q.old x) from.0 over_old.0 over_old.1 in (
                    [],
                    from.0,
                    shift.0 ∷ [],
                    low.0,
                    (refl, up_net, inr (here, from.1)),
                    inl (b, t, [], kid_old, inr (here, shift.1), (refl, low_net, low.1), refl),
                    Chain-one {R = AreNeighbours q.old x} (inl (meets_at q.old x x b [] shift.0 from.0 low.0 bit refl kid_old over_old low.2)),
                  )
              | inr inside ↦
                  let from = is.on_placed_from m inside.0 bit inside.1 (subst (λ v. JoinsIn new q.cell m (on v bit)) inside.2 over_cell) in
                  let kid_old : IsChild q.old q.child inside.0 b =
                  is.placed_from inside.0 b inside.1 (subst (λ v. IsChild new q.cell v b) inside.2 kid_cell) in
                  let up_net : from.0 < length (nets_at q.old q.child) = slice_get_within (nets_at q.old q.child) from.0 from.2.0 from.2.1 in
                  let dissolved : IsChild q.old x q.place q.child = subst (λ v. IsChild q.old v q.place q.child) (sym here) is.dissolved in (
                    q.place ∷ [],
                    from.0,
                    q.place ∷ inside.0 ∷ [],
                    low.0,
                    inr (here, refl, (refl, up_net, from.1)),
                    inr (here, refl, (b, [], kid_old, (refl, low_net, low.1), ap (λ v. v ∷ []) inside.2)),
                    Chain-one {R = AreNeighbours q.old x}
                        (inl (meets_at q.old x q.child b (q.place ∷ []) inside.0 from.0 low.0 bit (q.child, dissolved, refl) kid_old from.2 low.2)),
                  )
            ]
      ]
  back (s ∷ path) x a b t m n bit at kid over inner =
      let deep = back path at.0 a b t m n bit at.2 kid over inner in
      elim (CellId-cases x q.cell) [
        | inr other ↦
            let kid_old : IsChild q.old x s at.0 =
            (at.1.0, subst (λ (v : List Inst). slice_get v s ≡ Some at.1.0) (is.other_insts x other) at.1.1, at.1.2) in (
              s ∷ deep.0,
              deep.1,
              s ∷ deep.2,
              deep.3,
              inl (at.0, s, path, kid_old, inl (other, refl), deep.4, refl),
              inl (at.0, s, path ++ t ∷ [], kid_old, inl (other, refl), deep.5, refl),
              Connected-under q.old x at.0 s (at_path deep.0 deep.1) (at_path deep.2 deep.3) kid_old deep.6,
            )
        | inl here ↦
            let kid_cell : IsChild new q.cell s at.0 = subst (λ v. IsChild new v s at.0) here at.1 in
            elim (place_cases s) [
              | inl shift ↦
                  let kid_old : IsChild q.old x shift.0 at.0 = subst (λ v. IsChild q.old v shift.0 at.0) (sym here) ((is.shifted shift.0 s at.0 shift.1).1 kid_cell) in (
                    shift.0 ∷ deep.0,
                    deep.1,
                    shift.0 ∷ deep.2,
                    deep.3,
                    inl (at.0, s, path, kid_old, inr (here, shift.1), deep.4, refl),
                    inl (at.0, s, path ++ t ∷ [], kid_old, inr (here, shift.1), deep.5, refl),
                    Connected-under q.old x at.0 shift.0 (at_path deep.0 deep.1) (at_path deep.2 deep.3) kid_old deep.6,
                  )
              | inr inside ↦
                  let kid_old : IsChild q.old q.child inside.0 at.0 =
                  is.placed_from inside.0 at.0 inside.1 (subst (λ v. IsChild new q.cell v at.0) inside.2 kid_cell) in
                  let dissolved : IsChild q.old x q.place q.child = subst (λ v. IsChild q.old v q.place q.child) (sym here) is.dissolved in (
                    q.place ∷ inside.0 ∷ deep.0,
                    deep.1,
                    q.place ∷ inside.0 ∷ deep.2,
                    deep.3,
                    inr (here, refl, (at.0, path, kid_old, deep.4, ap (λ v. v ∷ path) inside.2)),
                    inr (here, refl, (at.0, path ++ t ∷ [], kid_old, deep.5, ap (λ v. v ∷ path ++ t ∷ []) inside.2)),
                    Connected-under q.old x q.child q.place (at_path (inside.0 ∷ deep.0) deep.1) (at_path (inside.0 ∷ deep.2) deep.3) dissolved
                        (Connected-under q.old q.child at.0 inside.0 (at_path deep.0 deep.1) (at_path deep.2 deep.3) kid_old deep.6),
                  )
            ]
      ]

  -- what touches before has images that are connected
  touch_forward : (root : CellId) (x y : NetAt) (r : List ℕ) (m : ℕ) (r' : List ℕ) (m' : ℕ) → AreNeighbours q.old root x y
      → Carries q root x.path x.net r m → Carries q root y.path y.net r' m' → Connected new root (at_path r m) (at_path r' m')
  touch_forward root x y r m r' m' t to to' =
      elim t [
        | inl meets ↦ let down = meeting q.old root x y meets in forward q new is x.path root down.parent down.child down.step x.net y.net down.joint down.parent_at down.is_child down.joins_on down.joins_own
            r m r' m' to (subst (λ p. Carries q root p y.net r' m') down.below to')
        | inr meets ↦ let up = meeting q.old root y x meets in Connected-sym new root (at_path r' m') (at_path r m)
            (forward q new is y.path root up.parent up.child up.step y.net x.net up.joint up.parent_at up.is_child up.joins_on up.joins_own
            r' m' r m to' (subst (λ p. Carries q root p x.net r m) up.below to))
      ]

  pub onward : (root : CellId) (x y : NetAt) (via : List NetAt) (r : List ℕ) (m : ℕ) (r' : List ℕ) (m' : ℕ) → Leads (AreNeighbours q.old root) x via y
      → Carries q root x.path x.net r m → Carries q root y.path y.net r' m' → Connected new root (at_path r m) (at_path r' m')
  onward root x y [] r m r' m' e to to' =
      let same = Carries-same q new is x.path root x.net r r' m m' to (subst (λ v. Carries q root v.path v.net r' m') (sym e) to') in
      subst (λ v. Connected new root (at_path r m) v) (λ i. at_path (same.0 i) (same.1 i)) (Chain-same (at_path r m))
  onward root x y (z ∷ via) r m r' m' e to to' =
      let net = neighbour-net q.old root x z e.0 in
      let between = carried q new is z.path root net.0 z.net net.1 net.2 in
      Chain-append (AreNeighbours new root) (touch_forward root x z r m between.0 between.1 e.0 to between.2)
      (onward root z y via between.0 between.1 r' m' e.1 between.2 to')

  -- what touches afterwards came from nets that were connected
  pub touch_back : (root : CellId) (x y : NetAt) → AreNeighbours new root x y → Came root x.path x.net y.path y.net
  touch_back root x y t =
      elim t [
        | inl meets ↦ let down = meeting new root x y meets in subst (λ p. Came root x.path x.net p y.net) (sym down.below)
            (back x.path root down.parent down.child down.step x.net y.net down.joint down.parent_at down.is_child down.joins_on down.joins_own)
        | inr meets ↦
            let up = meeting new root y x meets in
            let came = subst (λ p. Came root y.path y.net p x.net) (sym up.below)
            (back y.path root up.parent up.child up.step y.net x.net up.joint up.parent_at up.is_child up.joins_on up.joins_own) in
            (came.2, came.3, came.0, came.1, came.5, came.4, Connected-sym q.old root (at_path came.0 came.1) (at_path came.2 came.3) came.6)
      ]

  pub backward : (root : CellId) (x y : NetAt) (via : List NetAt) (p : List ℕ) (n : ℕ) (p' : List ℕ) (n' : ℕ) → Leads (AreNeighbours new root) x via y
      → Carries q root p n x.path x.net → Carries q root p' n' y.path y.net → Connected q.old root (at_path p n) (at_path p' n')
  backward root x y [] p n p' n' e from from' =
      same_image q new is p root p' n n' x.path x.net from (subst (λ v. Carries q root p' n' v.path v.net) (sym e) from')
  backward root x y (z ∷ via) p n p' n' e from from' =
      let came = touch_back root x z e.0 in
      Chain-append (AreNeighbours q.old root)
      (Chain-append (AreNeighbours q.old root) (same_image q new is p root came.0 n came.1 x.path x.net from came.4) came.6)
      (backward root z y via came.2 came.3 p' n' e.1 came.5 from')
