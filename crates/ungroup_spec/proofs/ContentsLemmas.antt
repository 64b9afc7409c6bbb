-- The contents afterwards may stand in the cell.
use Rattle.std.proofs.Common.{◌≡◌, ◌≢◌, ◌≤◌, ◌<◌, ◌+◌, ◌^◌, ◌⊎◌, ℕ, zero, suc, List, [], ◌∷◌, ◌++◌, Bool, true, false, cond, map, filter, length, take, drop, refl, sym, ap, subst, ◌∙◌, inl, inr, arith, Option, Some, None, slice_get, add-one}
use Rattle.std.specs.Prelude.{IsSomeAnd, flat_map, option_map}
use Rattle.std.specs.List.{All, enumerate_from}
use Rattle.std.proofs.lemmas.List.{map-append, length-map}
use Rattle.std.proofs.lemmas.Option.{slice_get_within, slice_get-map}
use Rattle.netlist_schema.specs.Design.{Design, cell_at, insts_in, insts_of, nets_in, nets_of, ends_of}
use Rattle.netlist_schema.specs.Hierarchy.{IsCell}
use Rattle.netlist_schema.specs.Names.{HasDistinctKeys}
use Rattle.netlist_schema.specs.Typed.{IsTypedCell, IsTypedInst, IsTypedName, IsTypedNet, IsTypedProperty}
use Rattle.netlist_schema.specs.Types.{CellBody, CellId, End, Inst, Name, Net}
use Rattle.netlist_schema.specs.Valid.{HasBit, IsEndOf, IsValidCell}
use Rattle.netlist_schema.proofs.Cells.{All-cell_at}
use Rattle.edit_rules_spec.proofs.Filled.{fill}
use Rattle.edit_rules_spec.proofs.InnerValid.{AreGoodContents}
use Rattle.flat_spec.specs.ConnectionTest.{bit_of}
use Rattle.flat_spec.specs.Paths.{own, on}
use Rattle.flat_spec.proofs.ListLemmas.{Member, Member-append_cases, Member-map, Member-from_map, Ascends-append, Ascends-pairs}
use Rattle.flat_spec.proofs.PinLemmas.{AllPairs-ascends}
use Rattle.ungroup_spec.specs.Dissolved.{children, contents_after, insts_after, inst_name, with_inst_name, moved_place, ends_up, ends_after, kept, loose, joined, net_name, with_net_name, new_nets, nets_after}
use Rattle.ungroup_spec.specs.Groups.{Site, Part, outer, inner, ends_of_part, is_head, heads}
use Rattle.ungroup_spec.specs.KeepsNets.{IsUngroup}
use Rattle.ungroup_spec.specs.Maps.{Dissolving}
use Rattle.ungroup_spec.specs.Names.{name_up}
use Rattle.ungroup_spec.proofs.AfterLemmas.{after-from, map-named_up}
use Rattle.ungroup_spec.proofs.ApartLemmas.{Apart, after-apart, end-cases, nets-flat}
use Rattle.ungroup_spec.proofs.AtLemmas.{contents-body}
use Rattle.ungroup_spec.proofs.EndLemmas.{map-spliced, spliced, spliced-before, spliced-in, spliced-behind, outer-own_from, outer-on_from, inner-own, inner-on_from, place-moved}
use Rattle.ungroup_spec.proofs.FreshLemmas.{All-member, member-All, free_other, name_up-typed, named_up-member, named_up-apart}
use Rattle.ungroup_spec.proofs.KeptLemmas.{children-count}
use Rattle.ungroup_spec.proofs.PlaceLemmas.{Member-from_flat_map, slice_get-member}
use Rattle.ungroup_spec.proofs.SoundLemmas.{Member-spliced, Member-take, Member-drop, fits-within, net-ends}

-- ---- lists put together of lists in which nothing stands twice

apart-sides : {A : Type 0} (p : ℕ) (xs : List A) (x y : A) → Apart xs → Member (take p xs) x → Member (drop p xs) y → x ≢ y
apart-sides zero xs x y a m k = absurd m
apart-sides (suc p) [] x y a m k = absurd m
apart-sides (suc p) (z ∷ xs) x y a m k =
    elim m [
      | inl same ↦ subst (λ v. v ≢ y) same (a.0 y (Member-drop p xs y k))
      | inr rest ↦ apart-sides p xs x y a.1 rest k
    ]

drop-more : {A : Type 0} (p : ℕ) (xs : List A) (y : A) → Member (drop (suc p) xs) y → Member (drop p xs) y
drop-more zero [] y m = absurd m
drop-more zero (x ∷ xs) y m = inr m
drop-more (suc p) [] y m = absurd m
drop-more (suc p) (x ∷ xs) y m = drop-more p xs y m

apart-take : {A : Type 0} (p : ℕ) (xs : List A) → Apart xs → Apart (take p xs)
apart-take zero xs a = tt
apart-take (suc p) [] a = tt
apart-take (suc p) (x ∷ xs) a = (λ y m. a.0 y (Member-take p xs y m), apart-take p xs a.1)

apart-drop : {A : Type 0} (p : ℕ) (xs : List A) → Apart xs → Apart (drop p xs)
apart-drop zero xs a = a
apart-drop (suc p) [] a = tt
apart-drop (suc p) (x ∷ xs) a = apart-drop p xs a.1

Apart-spliced : {A : Type 0} (p : ℕ) (ys xs : List A) → Apart xs → Apart ys → ((x y : A) → Member xs x → Member ys y → x ≢ y) → Apart (spliced p ys xs)
Apart-spliced {A} p ys xs a b other =
    Ascends-append (λ x y. x ≢ y) (take p xs) (ys ++ drop (p + 1) xs) (apart-take p xs a)
    (Ascends-append (λ x y. x ≢ y) ys (drop (p + 1) xs) b (apart-drop (p + 1) xs a)
    (λ x y m k same. other y x (Member-drop (p + 1) xs y k) m (sym same)))
    (λ x y m k. elim (Member-append_cases ys (drop (p + 1) xs) y k) [
      | inl mid ↦ other x y (Member-take p xs x m) mid
      | inr right ↦
          let next : Member (drop (suc p) xs) y = subst (λ n. Member (drop n xs) y) (add-one p) right in
          apart-sides p xs x y a m (drop-more p xs y next)
    ])

-- ---- nets that are kept or become new ones

joined-member : (s : Site) (part : ℕ → Part) (test : ℕ × Net → Bool) (a : ℕ) (nets : List Net) (y : Net) → Member (map (joined s part) (filter test (enumerate_from a nets))) y
    → (net : Net) × Member nets net × (y.name ≡ net.name) × (y.properties ≡ net.properties)
joined-member s part test a [] y m = absurd m
joined-member s part test a (x ∷ nets) y m = go (test (a, x)) (λ k. joined-member s part test (a + 1) nets y k) m
  where
    go : (b : Bool) → (Member (map (joined s part) (filter test (enumerate_from (a + 1) nets))) y → (net : Net) × Member nets net × (y.name ≡ net.name) × (y.properties ≡ net.properties))
        → Member (map (joined s part) (cond b ((a, x) ∷ filter test (enumerate_from (a + 1) nets)) (filter test (enumerate_from (a + 1) nets)))) y
        → (net : Net) × ((x ≡ net) ⊎ Member nets net) × (y.name ≡ net.name) × (y.properties ≡ net.properties)
    go true further m = elim m [
      | inl same ↦ (x, inl refl, ap (λ (v : Net). v.name) (sym same), ap (λ (v : Net). v.properties) (sym same))
      | inr rest ↦ let found = further rest in (found.0, inr found.1, found.2, found.3)
    ]
    go false further m = let found = further m in (found.0, inr found.1, found.2, found.3)

joined-apart : (s : Site) (part : ℕ → Part) (test : ℕ × Net → Bool) (a : ℕ) (nets : List Net) → Apart (map (λ (net : Net). net.name.id) nets)
    → Apart (map (λ (net : Net). net.name.id) (map (joined s part) (filter test (enumerate_from a nets))))
joined-apart s part test a [] p = tt
joined-apart s part test a (x ∷ nets) p = go (test (a, x)) (joined-apart s part test (a + 1) nets p.1)
  where
    go : (b : Bool) → Apart (map (λ (net : Net). net.name.id) (map (joined s part) (filter test (enumerate_from (a + 1) nets))))
        → Apart (map (λ (net : Net). net.name.id) (map (joined s part) (cond b ((a, x) ∷ filter test (enumerate_from (a + 1) nets)) (filter test (enumerate_from (a + 1) nets)))))
    go true rest = (
      λ id m.
          let found = Member-from_map (λ (net : Net). net.name.id) (map (joined s part) (filter test (enumerate_from (a + 1) nets))) id m in
          let net = joined-member s part test (a + 1) nets found.0 found.1 in
          let same : net.0.name.id ≡ id = ap (λ (n : Name). n.id) (sym net.2) ∙ found.2 in
          p.0 id (subst (λ v. Member (map (λ (n : Net). n.name.id) nets) v) same (Member-map (λ (n : Net). n.name.id) nets net.0 net.1)),
      rest,
    )
    go false rest = rest

-- what a filter of a list leaves is no longer than the list
joined-count : (s : Site) (part : ℕ → Part) (test : ℕ × Net → Bool) (a : ℕ) (nets : List Net) → length (map (joined s part) (filter test (enumerate_from a nets))) ≤ length nets
joined-count s part test a [] = omega arith
joined-count s part test a (x ∷ nets) = go (test (a, x)) (joined-count s part test (a + 1) nets)
  where
    go : (b : Bool) → length (map (joined s part) (filter test (enumerate_from (a + 1) nets))) ≤ length nets
        → length (map (joined s part) (cond b ((a, x) ∷ filter test (enumerate_from (a + 1) nets)) (filter test (enumerate_from (a + 1) nets)))) ≤ length (x ∷ nets)
    go true rest = omega (arith, rest)
    go false rest = omega (arith, rest)

some-at : {A : Type 0} (o p : Option A) (P : A → Type 0) → o ≡ p → IsSomeAnd p P → IsSomeAnd o P
some-at o p P e is = subst (λ v. IsSomeAnd v P) (sym e) is

some-of : (o p : Option Inst) (P : CellId → Type 0) → option_map (λ (i : Inst). i.of) o ≡ option_map (λ (i : Inst). i.of) p → IsSomeAnd p (λ i. P i.of) → IsSomeAnd o (λ i. P i.of)
some-of o None P e is = absurd is
some-of None (Some x) P e is = absurd (cc e)
some-of (Some y) (Some x) P e is = let same : y.of ≡ x.of = cc e in subst P (sym same) is

module _ (d : Design) (q : Dissolving) (is : IsUngroup d q) where
  pub around-body : (body : CellBody) × (cell_at d q.cell ≡ Some body) × (body.contents ≡ Some q.site.around)
  around-body = contents-body (cell_at d q.cell) q.site.around is.stands.around

  within-body : (body : CellBody) × (cell_at d q.site.inst.of ≡ Some body) × (body.contents ≡ Some q.site.within)
  within-body = contents-body (cell_at d q.site.inst.of) q.site.within is.stands.within

  is-around : IsValidCell d q.cell around-body.0
  is-around = is.valid.cells q.cell around-body.0 around-body.1

  is-within : IsValidCell d q.site.inst.of within-body.0
  is-within = is.valid.cells q.site.inst.of within-body.0 within-body.1

  typed-around : IsTypedCell around-body.0
  typed-around = All-cell_at IsTypedCell d q.cell around-body.0 is.valid.typed.cells around-body.1

  typed-within : IsTypedCell within-body.0
  typed-within = All-cell_at IsTypedCell d q.site.inst.of within-body.0 is.valid.typed.cells within-body.1

  a-insts : insts_of around-body.0 ≡ q.site.around.insts
  a-insts = ap insts_in around-body.2

  a-nets : nets_of around-body.0 ≡ q.site.around.nets
  a-nets = ap nets_in around-body.2

  w-insts : insts_of within-body.0 ≡ q.site.within.insts
  w-insts = ap insts_in within-body.2

  w-nets : nets_of within-body.0 ≡ q.site.within.nets
  w-nets = ap nets_in within-body.2

  -- each instance afterwards is one of those around, or one within with a new name
  inst-cases : (y : Inst) → Member (insts_after q.site) y
      → Member q.site.around.insts y
      ⊎ ((x : Inst) × Member q.site.within.insts x × (more : List (List ℕ)) × (length more < 2 ^ 62) × (y ≡ with_inst_name (name_up more q.site.inst.name x.name) x))
  inst-cases y m =
      elim (Member-spliced q.site.place (children q.site) q.site.around.insts y m) [
        | inl around ↦ inl around
        | inr child ↦
            let found = named_up-member inst_name with_inst_name (map (λ (i : Inst). i.name.id) q.site.around.insts) q.site.inst.name q.site.within.insts y child in
            let limit : length q.site.around.insts ≤ 1048576 = subst (λ (v : List Inst). length v ≤ 1048576) a-insts is-around.limits.insts in
            let limit' : length q.site.within.insts ≤ 1048576 = subst (λ (v : List Inst). length v ≤ 1048576) w-insts is-within.limits.insts in
            let small : length found.2 < 2 ^ 62 = omega (arith, found.3, length-map q.site.around.insts (λ (i : Inst). i.name.id), limit, limit') in
            inr (found.0, found.1, found.2, small, found.4)
      ]

  all-around : (P : Inst → Type 0) → All P (insts_of around-body.0) → (y : Inst) → Member q.site.around.insts y → P y
  all-around P all y m = member-All P q.site.around.insts y (subst (λ (v : List Inst). All P v) a-insts all) m

  all-within : (P : Inst → Type 0) → All P (insts_of within-body.0) → (y : Inst) → Member q.site.within.insts y → P y
  all-within P all y m = member-All P q.site.within.insts y (subst (λ (v : List Inst). All P v) w-insts all) m

  site-in : Member q.site.around.insts q.site.inst
  site-in = slice_get-member q.site.around.insts q.site.place q.site.inst is.stands.inst

  -- what holds of all instances, whatever their names
  insts-hold : (P : Inst → Type 0) → ((n : Name) (x : Inst) → P x → P (with_inst_name n x)) → ((y : Inst) → Member q.site.around.insts y → P y)
      → ((y : Inst) → Member q.site.within.insts y → P y) → All P (insts_after q.site)
  insts-hold P named p r =
      All-member P (insts_after q.site) (λ y m. elim (inst-cases y m) [
        | inl around ↦ p y around
        | inr child ↦ subst P (sym child.4) (named (name_up child.2 q.site.inst.name child.0.name) child.0 (r child.0 child.1))
      ])

  pub insts-typed : All IsTypedInst (insts_after q.site)
  insts-typed =
      All-member IsTypedInst (insts_after q.site) (λ y m. elim (inst-cases y m) [
        | inl around ↦ all-around IsTypedInst typed-around.insts y around
        | inr child ↦
            let old = all-within IsTypedInst typed-within.insts child.0 child.1 in
            let site = all-around IsTypedInst typed-around.insts q.site.inst site-in in
            subst IsTypedInst (sym child.4) (record {
              name = name_up-typed child.2 q.site.inst.name child.0.name child.3 site.name old.name;
              designator = old.designator;
              properties = old.properties;
            })
      ])

  pub inst-names : Apart (map (λ (i : Inst). i.name.id) (insts_after q.site))
  inst-names =
      let limit : length q.site.around.insts ≤ 1048576 = subst (λ (v : List Inst). length v ≤ 1048576) a-insts is-around.limits.insts in
      let limit' : length q.site.within.insts ≤ 1048576 = subst (λ (v : List Inst). length v ≤ 1048576) w-insts is-within.limits.insts in
      let taken = map (λ (i : Inst). i.name.id) q.site.around.insts in
      let new = named_up-apart inst_name with_inst_name (λ n x. refl) taken q.site.inst.name q.site.within.insts
      (omega (arith, length-map q.site.around.insts (λ (i : Inst). i.name.id), limit, limit')) in
      let old : Apart taken = subst (λ (v : List Inst). Apart (map (λ (i : Inst). i.name.id) v)) a-insts (AllPairs-ascends (λ a b. a ≢ b) (map (λ (i : Inst). i.name.id) (insts_of around-body.0)) is-around.names.insts) in
      subst Apart (sym (map-spliced (λ (i : Inst). i.name.id) q.site.place (children q.site) q.site.around.insts))
      (Apart-spliced q.site.place (map (λ (i : Inst). i.name.id) (children q.site)) taken old new.0
      (λ x y m k same. free_other taken y x (new.1 y k) m (sym same)))

  -- ---- nets

  net-cases : (y : Net) → Member (nets_after q.site) y
      → ((net : Net) × Member q.site.around.nets net × (y.name ≡ net.name) × (y.properties ≡ net.properties))
      ⊎ ((net : Net) × Member q.site.within.nets net × (more : List (List ℕ)) × (length more < 2 ^ 62) × (y.name ≡ name_up more q.site.inst.name net.name) × (y.properties ≡ net.properties))
  net-cases y m =
      elim (Member-append_cases (map (joined q.site outer) (kept q.site)) (new_nets q.site) y m) [
        | inl left ↦ inl (joined-member q.site outer (λ (p : ℕ × Net). is_head q.site (outer p.0)) 0 q.site.around.nets y left)
        | inr right ↦
            let found = named_up-member net_name with_net_name (map (λ (n : Net). n.name.id) q.site.around.nets) q.site.inst.name (map (joined q.site inner) (loose q.site)) y right in
            let net = joined-member q.site inner (λ (p : ℕ × Net). is_head q.site (inner p.0)) 0 q.site.within.nets found.0 found.1 in
            let limit : length q.site.around.nets ≤ 1048576 = subst (λ (v : List Net). length v ≤ 1048576) a-nets is-around.limits.nets in
            let limit' : length q.site.within.nets ≤ 1048576 = subst (λ (v : List Net). length v ≤ 1048576) w-nets is-within.limits.nets in
            let count = joined-count q.site inner (λ (p : ℕ × Net). is_head q.site (inner p.0)) 0 q.site.within.nets in
            let small : length found.2 < 2 ^ 62 = omega (arith, found.3, length-map q.site.around.nets (λ (n : Net). n.name.id), count, limit, limit') in
            inr (
              net.0,
              net.1,
              found.2,
              small,
              ap (λ (v : Net). v.name) found.4 ∙ ap (name_up found.2 q.site.inst.name) net.2,
              ap (λ (v : Net). v.properties) found.4 ∙ net.3,
            )
      ]

  all-around_nets : (P : Net → Type 0) → All P (nets_of around-body.0) → (y : Net) → Member q.site.around.nets y → P y
  all-around_nets P all y m = member-All P q.site.around.nets y (subst (λ (v : List Net). All P v) a-nets all) m

  all-within_nets : (P : Net → Type 0) → All P (nets_of within-body.0) → (y : Net) → Member q.site.within.nets y → P y
  all-within_nets P all y m = member-All P q.site.within.nets y (subst (λ (v : List Net). All P v) w-nets all) m

  pub nets-typed : All IsTypedNet (nets_after q.site)
  nets-typed =
      All-member IsTypedNet (nets_after q.site) (λ y m. elim (net-cases y m) [
        | inl around ↦
            let old = all-around_nets IsTypedNet typed-around.nets around.0 around.1 in
            record { name = subst IsTypedName (sym around.2) old.name; properties = subst (λ v. All IsTypedProperty v) (sym around.3) old.properties }
        | inr new ↦
            let old = all-within_nets IsTypedNet typed-within.nets new.0 new.1 in
            let site = all-around IsTypedInst typed-around.insts q.site.inst site-in in
            record {
              name = subst IsTypedName (sym new.4) (name_up-typed new.2 q.site.inst.name new.0.name new.3 site.name old.name);
              properties = subst (λ v. All IsTypedProperty v) (sym new.5) old.properties;
            }
      ])

  pub net-properties : All (λ (n : Net). HasDistinctKeys n.properties) (nets_after q.site)
  net-properties =
      All-member (λ (n : Net). HasDistinctKeys n.properties) (nets_after q.site) (λ y m. elim (net-cases y m) [
        | inl around ↦ subst HasDistinctKeys (sym around.3) (all-around_nets (λ (n : Net). HasDistinctKeys n.properties) is-around.names.net_properties around.0 around.1)
        | inr new ↦ subst HasDistinctKeys (sym new.5) (all-within_nets (λ (n : Net). HasDistinctKeys n.properties) is-within.names.net_properties new.0 new.1)
      ])

  pub net-names : Apart (map (λ (n : Net). n.name.id) (nets_after q.site))
  net-names =
      let limit : length q.site.around.nets ≤ 1048576 = subst (λ (v : List Net). length v ≤ 1048576) a-nets is-around.limits.nets in
      let limit' : length q.site.within.nets ≤ 1048576 = subst (λ (v : List Net). length v ≤ 1048576) w-nets is-within.limits.nets in
      let count = joined-count q.site inner (λ (p : ℕ × Net). is_head q.site (inner p.0)) 0 q.site.within.nets in
      let taken = map (λ (n : Net). n.name.id) q.site.around.nets in
      let new = named_up-apart net_name with_net_name (λ n x. refl) taken q.site.inst.name (map (joined q.site inner) (loose q.site))
      (omega (arith, length-map q.site.around.nets (λ (n : Net). n.name.id), count, limit, limit')) in
      let old : Apart taken = subst (λ (v : List Net). Apart (map (λ (n : Net). n.name.id) v)) a-nets (AllPairs-ascends (λ a b. a ≢ b) (map (λ (n : Net). n.name.id) (nets_of around-body.0)) is-around.names.nets) in
      subst Apart (sym (map-append (λ (n : Net). n.name.id) (map (joined q.site outer) (kept q.site)) (new_nets q.site)))
      (Ascends-append (λ a b. a ≢ b) (map (λ (n : Net). n.name.id) (map (joined q.site outer) (kept q.site))) (map (λ (n : Net). n.name.id) (new_nets q.site))
      (joined-apart q.site outer (λ (p : ℕ × Net). is_head q.site (outer p.0)) 0 q.site.around.nets old) new.0
      (λ x y m k same.
      let found = Member-from_map (λ (n : Net). n.name.id) (map (joined q.site outer) (kept q.site)) x m in
      let net = joined-member q.site outer (λ (p : ℕ × Net). is_head q.site (outer p.0)) 0 q.site.around.nets found.0 found.1 in
      let name : net.0.name.id ≡ x = ap (λ (n : Name). n.id) (sym net.2) ∙ found.2 in
      free_other taken y x (new.1 y k) (subst (λ v. Member taken v) name (Member-map (λ (n : Net). n.name.id) q.site.around.nets net.0 net.1)) (sym same)))

  -- ---- ends

  end-around : (e : End) (n : ℕ) → Member (ends_of_part q.site (outer n)) e → IsEndOf d around-body.0 e
  end-around e n m =
      member-All (IsEndOf d around-body.0) (ends_of around-body.0) e is-around.ends
      (subst (λ (v : List Net). Member (flat_map (λ (net : Net). net.ends) v) e) (sym a-nets) (net-ends q.site.around.nets n e m))

  end-within : (e : End) (n : ℕ) → Member (ends_of_part q.site (inner n)) e → IsEndOf d within-body.0 e
  end-within e n m =
      member-All (IsEndOf d within-body.0) (ends_of within-body.0) e is-within.ends
      (subst (λ (v : List Net). Member (flat_map (λ (net : Net). net.ends) v) e) (sym w-nets) (net-ends q.site.within.nets n e m))

  place-in : q.site.place < length q.site.around.insts
  place-in = slice_get_within q.site.around.insts q.site.place q.site.inst is.stands.inst

  part-end : (y : Part) (e : End) → Member (ends_up q.site y) e → IsEndOf d (fill (contents_after q.site) around-body.0) e
  part-end y e m =
      elim (end-cases e) [
        | inl own_one ↦ subst (IsEndOf d (fill (contents_after q.site) around-body.0)) (sym own_one) (own-end y (subst (λ v. Member (ends_up q.site y) v) own_one m))
        | inr on_one ↦ subst (IsEndOf d (fill (contents_after q.site) around-body.0)) (sym on_one.1) (on-end y on_one.0 (subst (λ v. Member (ends_up q.site y) v) on_one.1 m))
      ]
    where
      own-end : (y : Part) → Member (ends_up q.site y) (own (bit_of e)) → IsEndOf d (fill (contents_after q.site) around-body.0) (own (bit_of e))
      own-end (outer n) m = end-around (own (bit_of e)) n (outer-own_from q.site n (bit_of e) m)
      own-end (inner n) m = absurd (inner-own q.site n (bit_of e) m)

      on-end : (y : Part) (t : ℕ) → Member (ends_up q.site y) (on t (bit_of e)) → IsEndOf d (fill (contents_after q.site) around-body.0) (on t (bit_of e))
      on-end (outer n) t m =
          let from = outer-on_from q.site n t (bit_of e) m in
          let old = end-around (on from.0 (bit_of e)) n from.3 in
          let here : slice_get (insts_after q.site) t ≡ slice_get (insts_of around-body.0) from.0 =
          ap (slice_get (insts_after q.site)) from.2
          ∙ elim (place-moved q.site from.0 from.1) [
            | inl low ↦ ap (slice_get (insts_after q.site)) low.1 ∙ spliced-before q.site.place (children q.site) q.site.around.insts place-in from.0 low.0
            | inr high ↦ spliced-behind q.site.place (children q.site) q.site.around.insts place-in from.0 (moved_place q.site from.0) high.0 (high.1 ∙ ap (λ v. from.0 + v) (sym (children-count q.site)))
          ]
          ∙ ap (λ (v : List Inst). slice_get v from.0) (sym a-insts) in
          some-at (slice_get (insts_after q.site) t) (slice_get (insts_of around-body.0) from.0) (λ inst. IsSomeAnd (cell_at d inst.of) (λ of. HasBit of.ports e.port e.bit)) here old
      on-end (inner n) t m =
          let from = inner-on_from q.site n t (bit_of e) m in
          let old = end-within (on from.0 (bit_of e)) n from.2 in
          let few = fits-within d q is.stands is.valid n from.0 (bit_of e) from.2 in
          let here : slice_get (insts_after q.site) t ≡ slice_get (children q.site) from.0 =
          ap (slice_get (insts_after q.site)) from.1 ∙ spliced-in q.site.place (children q.site) q.site.around.insts place-in from.0 (subst (λ v. from.0 < v) (sym (children-count q.site)) few) in
          let cells : option_map (λ (i : Inst). i.of) (slice_get (insts_after q.site) t) ≡ option_map (λ (i : Inst). i.of) (slice_get (insts_of within-body.0) from.0) =
          ap (option_map (λ (i : Inst). i.of)) here
          ∙ sym (slice_get-map (λ (i : Inst). i.of) (children q.site) from.0)
          ∙ ap (λ v. slice_get v from.0) (map-named_up inst_name with_inst_name (λ (i : Inst). i.of) (λ n i. refl) (map (λ (i : Inst). i.name.id) q.site.around.insts) q.site.inst.name q.site.within.insts)
          ∙ slice_get-map (λ (i : Inst). i.of) q.site.within.insts from.0
          ∙ ap (λ (v : List Inst). option_map (λ (i : Inst). i.of) (slice_get v from.0)) (sym w-insts) in
          some-of (slice_get (insts_after q.site) t) (slice_get (insts_of within-body.0) from.0) (λ c. IsSomeAnd (cell_at d c) (λ of. HasBit of.ports e.port e.bit)) cells old

  pub ends-are : All (IsEndOf d (fill (contents_after q.site) around-body.0)) (flat_map (λ (n : Net). n.ends) (nets_after q.site))
  ends-are =
      All-member (IsEndOf d (fill (contents_after q.site) around-body.0)) (flat_map (λ (n : Net). n.ends) (nets_after q.site)) (λ e m.
      let head = Member-from_flat_map (ends_after q.site) (heads q.site) e (subst (λ v. Member v e) (nets-flat q.site) m) in
      let part = after-from q.site head.0 e head.2 in
      part-end part.0 e part.3)

  pub good-contents : AreGoodContents d q.cell around-body.0 (contents_after q.site)
  good-contents = record {
    typed_insts = insts-typed;
    typed_nets = nets-typed;
    inst_count = is.insts_fit;
    net_count = is.nets_fit;
    end_count = is.ends_fit;
    inst_names = Ascends-pairs (λ a b. a ≢ b) (map (λ (i : Inst). i.name.id) (insts_after q.site)) inst-names;
    net_names = Ascends-pairs (λ a b. a ≢ b) (map (λ (n : Net). n.name.id) (nets_after q.site)) net-names;
    inst_properties = insts-hold (λ i. HasDistinctKeys i.properties) (λ n x p. p)
        (all-around (λ i. HasDistinctKeys i.properties) is-around.names.inst_properties) (all-within (λ i. HasDistinctKeys i.properties) is-within.names.inst_properties);
    net_properties = net-properties;
    places = insts-hold (λ i. IsCell d i.of) (λ n x p. p) (all-around (λ i. IsCell d i.of) is-around.placed) (all-within (λ i. IsCell d i.of) is-within.placed);
    not_later = insts-hold (λ i. i.of.lib.0 ≤ q.cell.lib.0) (λ n x p. p) (all-around (λ i. i.of.lib.0 ≤ q.cell.lib.0) is-around.not_later)
        (λ y m.
        let first : y.of.lib.0 ≤ q.site.inst.of.lib.0 = all-within (λ i. i.of.lib.0 ≤ q.site.inst.of.lib.0) is-within.not_later y m in
        let second : q.site.inst.of.lib.0 ≤ q.cell.lib.0 = all-around (λ i. i.of.lib.0 ≤ q.cell.lib.0) is-around.not_later q.site.inst site-in in
        omega (arith, first, second));
    ends = ends-are;
    once = Ascends-pairs (λ a b. a ≢ b) (flat_map (λ (n : Net). n.ends) (nets_after q.site)) once-after;
  }
    where
      once-after : Apart (flat_map (λ (n : Net). n.ends) (nets_after q.site))
      once-after =
          after-apart q.site
          (subst (λ (v : List Net). Apart (flat_map (λ (n : Net). n.ends) v)) a-nets (AllPairs-ascends (λ a b. a ≢ b) (ends_of around-body.0) is-around.joined_once))
          (subst (λ (v : List Net). Apart (flat_map (λ (n : Net). n.ends) v)) w-nets (AllPairs-ascends (λ a b. a ≢ b) (ends_of within-body.0) is-within.joined_once))
          (fits-within d q is.stands is.valid)
