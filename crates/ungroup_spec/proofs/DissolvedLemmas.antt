-- The design afterwards is the one before with the instance dissolved.
use Rattle.std.proofs.Common.{◌≡◌, ◌<◌, ◌+◌, ◌⊎◌, ℕ, List, [], ◌∷◌, length, map, refl, sym, ap, subst, ◌∙◌, inl, inr, arith, Some, slice_get}
use Rattle.std.proofs.lemmas.List.{length-map}
use Rattle.std.proofs.lemmas.Option.{slice_get_within}
use Rattle.netlist_schema.specs.Design.{Design}
use Rattle.netlist_schema.specs.Hierarchy.{insts_at}
use Rattle.netlist_schema.specs.Types.{CellId, Inst, Net}
use Rattle.flat_spec.specs.Chains.{Leads}
use Rattle.flat_spec.specs.Paths.{Bit, own, on, nets_at}
use Rattle.flat_spec.proofs.ChainLemmas.{Chain-one, Chain-mono}
use Rattle.flat_spec.proofs.ListLemmas.{Member, Contains-member, Member-contains}
use Rattle.ungroup_spec.specs.Dissolved.{moved_place, insts_after, ends_up}
use Rattle.ungroup_spec.specs.Groups.{Site, Part, outer, inner, ends_of_part, IsPart, AreOneGroup, became, head_of, AreLinked as LinkedAt}
use Rattle.ungroup_spec.specs.KeepsNets.{after}
use Rattle.ungroup_spec.specs.Maps.{Dissolving}
use Rattle.ungroup_spec.specs.Ungroup.{IsSite}
use Rattle.ungroup_spec.proofs.AfterLemmas.{joins-from, joins-to}
use Rattle.ungroup_spec.proofs.AtLemmas.{insts-here, nets-here, insts-after, nets-after, insts-other, nets-other, joins-list, list-joins, child-list, list-child}
use Rattle.ungroup_spec.proofs.Cut.{Cut, IsChild, JoinsIn, Shifts, Dissolves, AreLinked, IsPartOf, became as became_in}
use Rattle.ungroup_spec.proofs.EndLemmas.{outer-own, outer-own_from, outer-on, outer-on_from, inner-own, inner-on, inner-on_from, place-moved, spliced, spliced-before, spliced-in, spliced-behind, map-insts_after}
use Rattle.ungroup_spec.proofs.GroupLemmas.{PartBefore, IsHead, head_of-head, linked-part, became-same, became-group, became-before, group-sym}

-- the cut that an ungroup makes
abbrev pub cut_of : Design → Dissolving → Cut
cut_of d q = record {
  old = d;
  cell = q.cell;
  child = q.site.inst.of;
  place = q.site.place;
  count = length q.site.within.insts;
  keep = λ n. became q.site (outer n);
  image = λ m. became q.site (inner m);
}

-- where a first net stands before a net that has an outer one in its group
outer-before : (h k : Part) (b : ℕ) → PartBefore h k → (PartBefore (outer b) k → ⊥) → (o : ℕ) × (h ≡ outer o) × (o < b)
outer-before (outer o) (outer c) b before late = (o, refl, grind (arith, before, late))
outer-before (outer o) (inner m) b before late = absurd (late tt)
outer-before (inner m) (outer c) b before late = absurd before
outer-before (inner m) (inner k) b before late = absurd (late tt)

-- an inner net that is the first of its group is alone in it
alone : (s : Site) (m k : ℕ) → IsHead s (inner m) (inner k) → k ≡ m
alone s m k head = go head.grouped.0 head.grouped.1
  where
    go : (via : List Part) → Leads (LinkedAt s) (inner m) via (inner k) → k ≡ m
    go [] e = cc e
    go (outer o ∷ via) e =
        absurd (head.least (outer o) (linked-part s (inner m) (outer o) e.0) (Chain-one {R = LinkedAt s} e.0) tt)
    go (inner o ∷ via) e = absurd e.0

module _ (d : Design) (q : Dissolving) (stands : IsSite d q.cell q.site)
    (fits : (m j : ℕ) (b : Bit) → Member (ends_of_part q.site (inner m)) (on j b) → j < length q.site.within.insts) where
  s-around : insts_at d q.cell ≡ q.site.around.insts
  s-around = insts-here d q.cell q.site.around stands.around

  s-within : insts_at d q.site.inst.of ≡ q.site.within.insts
  s-within = insts-here d q.site.inst.of q.site.within stands.within

  n-around : nets_at d q.cell ≡ q.site.around.nets
  n-around = nets-here d q.cell q.site.around stands.around

  n-within : nets_at d q.site.inst.of ≡ q.site.within.nets
  n-within = nets-here d q.site.inst.of q.site.within stands.within

  place-in : q.site.place < length (map (λ (inst : Inst). inst.of) q.site.around.insts)
  place-in = subst (λ v. q.site.place < v) (sym (length-map q.site.around.insts (λ (inst : Inst). inst.of))) (slice_get_within q.site.around.insts q.site.place q.site.inst stands.inst)

  cells-after : map (λ (inst : Inst). inst.of) (insts_after q.site)
      ≡ spliced q.site.place (map (λ (inst : Inst). inst.of) q.site.within.insts) (map (λ (inst : Inst). inst.of) q.site.around.insts)
  cells-after = map-insts_after q.site (λ (inst : Inst). inst.of) (λ n inst. refl)

  count-is : length (map (λ (inst : Inst). inst.of) q.site.within.insts) ≡ length q.site.within.insts
  count-is = length-map q.site.within.insts (λ (inst : Inst). inst.of)

  kid-after : (t : ℕ) (k : CellId) → IsChild (after d q) q.cell t k
      → slice_get (spliced q.site.place (map (λ (inst : Inst). inst.of) q.site.within.insts) (map (λ (inst : Inst). inst.of) q.site.around.insts)) t ≡ Some k
  kid-after t k kid =
      subst (λ v. slice_get v t ≡ Some k) cells-after (child-list (after d q) q.cell (insts_after q.site) t k (insts-after d q stands) kid)

  after-kid : (t : ℕ) (k : CellId)
      → slice_get (spliced q.site.place (map (λ (inst : Inst). inst.of) q.site.within.insts) (map (λ (inst : Inst). inst.of) q.site.around.insts)) t ≡ Some k
      → IsChild (after d q) q.cell t k
  after-kid t k e =
      list-child (after d q) q.cell (insts_after q.site) t k (insts-after d q stands) (subst (λ v. slice_get v t ≡ Some k) (sym cells-after) e)

  shift-at : (i t : ℕ) → Shifts (cut_of d q) i t
      → slice_get (spliced q.site.place (map (λ (inst : Inst). inst.of) q.site.within.insts) (map (λ (inst : Inst). inst.of) q.site.around.insts)) t
      ≡ slice_get (map (λ (inst : Inst). inst.of) q.site.around.insts) i
  shift-at i t shift =
      elim shift [
        | inl low ↦
            ap (slice_get (spliced q.site.place (map (λ (inst : Inst). inst.of) q.site.within.insts) (map (λ (inst : Inst). inst.of) q.site.around.insts))) low.1
            ∙ spliced-before q.site.place (map (λ (inst : Inst). inst.of) q.site.within.insts) (map (λ (inst : Inst). inst.of) q.site.around.insts) place-in i low.0
        | inr high ↦
            spliced-behind q.site.place (map (λ (inst : Inst). inst.of) q.site.within.insts) (map (λ (inst : Inst). inst.of) q.site.around.insts) place-in i t high.0
            (high.1 ∙ ap (λ v. i + v) (sym count-is))
      ]

  kid-around : (i : ℕ) (k : CellId) → IsChild d q.cell i k → slice_get (map (λ (inst : Inst). inst.of) q.site.around.insts) i ≡ Some k
  kid-around i k kid = child-list d q.cell q.site.around.insts i k s-around kid

  kid-within : (j : ℕ) (k : CellId) → IsChild d q.site.inst.of j k → slice_get (map (λ (inst : Inst). inst.of) q.site.within.insts) j ≡ Some k
  kid-within j k kid = child-list d q.site.inst.of q.site.within.insts j k s-within kid

  in-at : (j : ℕ) → j < length q.site.within.insts
      → slice_get (spliced q.site.place (map (λ (inst : Inst). inst.of) q.site.within.insts) (map (λ (inst : Inst). inst.of) q.site.around.insts)) (q.site.place + j)
      ≡ slice_get (map (λ (inst : Inst). inst.of) q.site.within.insts) j
  in-at j h =
      spliced-in q.site.place (map (λ (inst : Inst). inst.of) q.site.within.insts) (map (λ (inst : Inst). inst.of) q.site.around.insts) place-in j
      (subst (λ v. j < v) (sym count-is) h)

  few-within : (j : ℕ) (k : CellId) → IsChild d q.site.inst.of j k → j < length q.site.within.insts
  few-within j k kid = slice_get_within q.site.within.insts j kid.0 (subst (λ v. slice_get v j ≡ Some kid.0) s-within kid.1)

  -- ---- what nets join

  join-outer : (n : ℕ) (e : _) → JoinsIn d q.cell n e → IsPart q.site (outer n) × Member (ends_of_part q.site (outer n)) e
  join-outer n e j = joins-list d q.cell q.site.around.nets n e n-around j

  outer-join : (n : ℕ) (e : _) → Member (ends_of_part q.site (outer n)) e → JoinsIn d q.cell n e
  outer-join n e m = list-joins d q.cell q.site.around.nets n e n-around m

  join-inner : (m : ℕ) (e : _) → JoinsIn d q.site.inst.of m e → IsPart q.site (inner m) × Member (ends_of_part q.site (inner m)) e
  join-inner m e j = joins-list d q.site.inst.of q.site.within.nets m e n-within j

  inner-join : (m : ℕ) (e : _) → Member (ends_of_part q.site (inner m)) e → JoinsIn d q.site.inst.of m e
  inner-join m e is = list-joins d q.site.inst.of q.site.within.nets m e n-within is

  join-after : (y : Part) (e : _) → IsPart q.site y → Member (ends_up q.site y) e → JoinsIn (after d q) q.cell (became q.site y) e
  join-after y e is m =
      let found = joins-to q.site y e is m in
      (found.0, subst (λ v. slice_get v (became q.site y) ≡ Some found.0) (sym (nets-after d q stands)) found.1, found.2)

  after-join : (k : ℕ) (e : _) → JoinsIn (after d q) q.cell k e → (y : Part) × IsPart q.site y × (k ≡ became q.site y) × Member (ends_up q.site y) e
  after-join k e j = joins-from q.site k j.0 e (subst (λ v. slice_get v k ≡ Some j.0) (nets-after d q stands) j.1) j.2

  -- ---- places

  moved-is : (i t : ℕ) → Shifts (cut_of d q) i t → (i ≡ q.site.place → ⊥) × (moved_place q.site i ≡ t)
  moved-is i t shift =
      let other : i ≡ q.site.place → ⊥ = λ e. elim shift [ inl low ↦ omega (arith, low.0, e) | inr high ↦ omega (arith, high.0, e) ] in (
        other,
        elim (place-moved q.site i other) [
          | inl low ↦ elim shift [ inl low' ↦ low.1 ∙ sym low'.1 | inr high ↦ absurd (omega (arith, low.0, high.0)) ]
          | inr high ↦ elim shift [ inl low ↦ absurd (omega (arith, low.0, high.0)) | inr high' ↦ omega (arith, high.1, high'.1) ]
        ],
      )

  from-same : (i k t : ℕ) → Shifts (cut_of d q) i t → (k ≡ q.site.place → ⊥) → t ≡ moved_place q.site k → k ≡ i
  from-same i k t shift other e =
      elim (place-moved q.site k other) [
        | inl low ↦ elim shift [ inl low' ↦ omega (arith, low.0, low.1, low'.0, low'.1, e) | inr high ↦ omega (arith, low.0, low.1, high.0, high.1, e) ]
        | inr high ↦ elim shift [ inl low' ↦ omega (arith, high.0, high.1, low'.0, low'.1, e) | inr high' ↦ omega (arith, high.0, high.1, high'.0, high'.1, e) ]
      ]

  not-shifted : (i t j : ℕ) → Shifts (cut_of d q) i t → j < length q.site.within.insts → t ≡ q.site.place + j → ⊥
  not-shifted i t j shift few e =
      elim shift [ inl low ↦ omega (arith, low.0, low.1, e) | inr high ↦ omega (arith, high.0, high.1, few, e) ]

  not-moved : (k j : ℕ) → (k ≡ q.site.place → ⊥) → j < length q.site.within.insts → q.site.place + j ≡ moved_place q.site k → ⊥
  not-moved k j other few e =
      elim (place-moved q.site k other) [ inl low ↦ omega (arith, low.0, low.1, e) | inr high ↦ omega (arith, high.0, high.1, few, e) ]

  -- ---- groups

  link-at : (u v : Part) → AreLinked (cut_of d q) u v → LinkedAt q.site u v
  link-at (outer n) (inner m) l = (
    l.0,
    Member-contains (ends_of_part q.site (outer n)) (on q.site.place l.0) (join-outer n (on q.site.place l.0) l.1).1,
    Member-contains (ends_of_part q.site (inner m)) (own l.0) (join-inner m (own l.0) l.2).1,
  )
  link-at (inner m) (outer n) l = (
    l.0,
    Member-contains (ends_of_part q.site (outer n)) (on q.site.place l.0) (join-outer n (on q.site.place l.0) l.1).1,
    Member-contains (ends_of_part q.site (inner m)) (own l.0) (join-inner m (own l.0) l.2).1,
  )
  link-at (outer n) (outer k) l = absurd l
  link-at (inner m) (inner k) l = absurd l

  at-link : (u v : Part) → LinkedAt q.site u v → AreLinked (cut_of d q) u v
  at-link (outer n) (inner m) l = (
    l.0,
    outer-join n (on q.site.place l.0) (Contains-member (ends_of_part q.site (outer n)) (on q.site.place l.0) l.1),
    inner-join m (own l.0) (Contains-member (ends_of_part q.site (inner m)) (own l.0) l.2),
  )
  at-link (inner m) (outer n) l = (
    l.0,
    outer-join n (on q.site.place l.0) (Contains-member (ends_of_part q.site (outer n)) (on q.site.place l.0) l.1),
    inner-join m (own l.0) (Contains-member (ends_of_part q.site (inner m)) (own l.0) l.2),
  )
  at-link (outer n) (outer k) l = absurd l
  at-link (inner m) (inner k) l = absurd l

  part-in : (u : Part) → IsPartOf (cut_of d q) u → IsPart q.site u
  part-in (outer n) is = subst (λ (v : List Net). n < length v) n-around is
  part-in (inner m) is = subst (λ (v : List Net). m < length v) n-within is

  in-part : (n : ℕ) → IsPart q.site (outer n) → n < length (nets_at d q.cell)
  in-part n is = subst (λ (v : List Net). n < length v) (sym n-around) is

  became-is : (u : Part) → became_in (cut_of d q) u ≡ became q.site u
  became-is (outer n) = refl
  became-is (inner m) = refl

  -- the first net of a group whose net comes earlier
  earlier : (x : Part) (b : ℕ) → IsPart q.site x → IsPart q.site (outer b) → became q.site x < became q.site (outer b)
      → (o : ℕ) × (o < b) × (o < length (nets_at d q.cell)) × (became q.site (outer o) ≡ became q.site x)
  earlier x b x_is b_is less =
      let hx = head_of-head q.site x x_is in
      let hb = head_of-head q.site (outer b) b_is in
      let o = outer-before (head_of q.site x) (head_of q.site (outer b)) b (became-before q.site x (outer b) x_is b_is less)
      (hb.least (outer b) b_is ([], refl)) in
      let o_is : IsPart q.site (outer o.0) = subst (λ v. IsPart q.site v) o.1 hx.part in
      let k : AreOneGroup q.site (outer o.0) x = subst (λ v. AreOneGroup q.site v x) o.1 (group-sym q.site x (head_of q.site x) hx.grouped) in
      (o.0, o.2, in-part o.0 o_is, became-same q.site (outer o.0) x o_is x_is k)

  inner-order : (m n : ℕ) → IsPart q.site (inner m) → IsPart q.site (inner n) → became q.site (inner m) < became q.site (inner n)
      → ((o : ℕ) × (o < length (nets_at d q.cell)) × ((became q.site (outer o) ≡ became q.site (inner m)) ⊎ (became q.site (outer o) ≡ became q.site (inner n)))) ⊎ (m < n)
  inner-order m n m_is n_is less =
      go (head_of q.site (inner m)) (head_of q.site (inner n)) (head_of-head q.site (inner m) m_is) (head_of-head q.site (inner n) n_is)
      (became-before q.site (inner m) (inner n) m_is n_is less)
    where
      go : (g h : Part) → IsHead q.site (inner m) g → IsHead q.site (inner n) h → PartBefore g h
          → ((o : ℕ) × (o < length (nets_at d q.cell)) × ((became q.site (outer o) ≡ became q.site (inner m)) ⊎ (became q.site (outer o) ≡ became q.site (inner n)))) ⊎ (m < n)
      go (outer o) h hg hh before =
          inl (o, in-part o hg.part, inl (became-same q.site (outer o) (inner m) hg.part m_is (group-sym q.site (inner m) (outer o) hg.grouped)))
      go (inner a) (outer o) hg hh before =
          inl (o, in-part o hh.part, inr (became-same q.site (outer o) (inner n) hh.part n_is (group-sym q.site (inner n) (outer o) hh.grouped)))
      go (inner a) (inner b) hg hh before = inr (omega (arith, before, alone q.site m a hg, alone q.site n b hh))

  pub dissolves : Dissolves (cut_of d q) (after d q)
  dissolves = record {
    dissolved = (q.site.inst, subst (λ v. slice_get v q.site.place ≡ Some q.site.inst) (sym s-around) stands.inst, refl);
    counted = few-within;
    other_insts = λ x other. insts-other d q stands x other;
    other_nets = λ x other. nets-other d q stands x other;
    shifted = λ i t k shift. (
      λ kid. after-kid t k (shift-at i t shift ∙ kid-around i k kid),
      λ kid. list-child d q.cell q.site.around.insts i k s-around (sym (shift-at i t shift) ∙ kid-after t k kid),
    );
    placed = λ j k kid. after-kid (q.site.place + j) k (in-at j (few-within j k kid) ∙ kid-within j k kid);
    placed_from = λ j k few kid. list-child d q.site.inst.of q.site.within.insts j k s-within (sym (in-at j few) ∙ kid-after (q.site.place + j) k kid);
    own_kept = λ n b j.
        let o = join-outer n (own b) j in
        join-after (outer n) (own b) o.0 (outer-own q.site n b o.1);
    on_kept = λ n i t b shift j.
        let o = join-outer n (on i b) j in
        let moved = moved-is i t shift in
        join-after (outer n) (on t b) o.0 (subst (λ v. Member (ends_up q.site (outer n)) (on v b)) moved.1 (outer-on q.site n i b moved.0 o.1));
    on_placed = λ m i b j.
        let o = join-inner m (on i b) j in
        join-after (inner m) (on (q.site.place + i) b) o.0 (inner-on q.site m i b o.1);
    own_from = own-from;
    on_from = on-from;
    on_placed_from = on-placed_from;
    grouped = λ n m share.
        let link = link-at (outer n) (inner m) share in
        let n_is = (join-outer n (on q.site.place share.0) share.1).0 in
        let m_is = (join-inner m (own share.0) share.2).0 in
        became-same q.site (outer n) (inner m) n_is m_is (Chain-one {R = LinkedAt q.site} link);
    kept_order = λ a b a_is b_is less. earlier (outer a) b (part-in (outer a) a_is) (part-in (outer b) b_is) less;
    image_kept_order = λ m b m_is b_is less. earlier (inner m) b (part-in (inner m) m_is) (part-in (outer b) b_is) less;
    image_order = λ m n m_is n_is less. inner-order m n (part-in (inner m) m_is) (part-in (inner n) n_is) less;
    groups = λ u v u_is v_is e.
        let k = became-group q.site u v (part-in u u_is) (part-in v v_is) (sym (became-is u) ∙ e ∙ became-is v) in
        Chain-mono (LinkedAt q.site) (AreLinked (cut_of d q)) (λ x. x) (λ x y l. Chain-one {R = AreLinked (cut_of d q)} (at-link x y l)) u v k;
  }
    where
      own-from : (n : ℕ) (b : Bit) → JoinsIn (after d q) q.cell n (own b) → (o : ℕ) × (n ≡ became q.site (outer o)) × JoinsIn d q.cell o (own b)
      own-from n b j = go (after-join n (own b) j).0 (after-join n (own b) j).2 (after-join n (own b) j).3
        where
          go : (y : Part) → n ≡ became q.site y → Member (ends_up q.site y) (own b) → (o : ℕ) × (n ≡ became q.site (outer o)) × JoinsIn d q.cell o (own b)
          go (outer o) e m = (o, e, outer-join o (own b) (outer-own_from q.site o b m))
          go (inner m) e is = absurd (inner-own q.site m b is)

      on-from : (n i t : ℕ) (b : Bit) → Shifts (cut_of d q) i t → JoinsIn (after d q) q.cell n (on t b)
          → (o : ℕ) × (n ≡ became q.site (outer o)) × JoinsIn d q.cell o (on i b)
      on-from n i t b shift j = go (after-join n (on t b) j).0 (after-join n (on t b) j).2 (after-join n (on t b) j).3
        where
          go : (y : Part) → n ≡ became q.site y → Member (ends_up q.site y) (on t b) → (o : ℕ) × (n ≡ became q.site (outer o)) × JoinsIn d q.cell o (on i b)
          go (outer o) e m =
              let from = outer-on_from q.site o t b m in
              (o, e, outer-join o (on i b) (subst (λ v. Member (ends_of_part q.site (outer o)) (on v b)) (from-same i from.0 t shift from.1 from.2) from.3))
          go (inner m) e is =
              let from = inner-on_from q.site m t b is in
              absurd (not-shifted i t from.0 shift (fits m from.0 b from.2) from.1)

      on-placed_from : (n i : ℕ) (b : Bit) → i < length q.site.within.insts → JoinsIn (after d q) q.cell n (on (q.site.place + i) b)
          → (o : ℕ) × (n ≡ became q.site (inner o)) × JoinsIn d q.site.inst.of o (on i b)
      on-placed_from n i b few j =
          go (after-join n (on (q.site.place + i) b) j).0 (after-join n (on (q.site.place + i) b) j).2 (after-join n (on (q.site.place + i) b) j).3
        where
          go : (y : Part) → n ≡ became q.site y → Member (ends_up q.site y) (on (q.site.place + i) b)
              → (o : ℕ) × (n ≡ became q.site (inner o)) × JoinsIn d q.site.inst.of o (on i b)
          go (outer o) e m =
              let from = outer-on_from q.site o (q.site.place + i) b m in
              absurd (not-moved from.0 i from.1 few from.2)
          go (inner m) e is =
              let from = inner-on_from q.site m (q.site.place + i) b is in
              let same : from.0 ≡ i = omega (arith, from.1) in
              (m, e, inner-join m (on i b) (subst (λ v. Member (ends_of_part q.site (inner m)) (on v b)) same from.2))
