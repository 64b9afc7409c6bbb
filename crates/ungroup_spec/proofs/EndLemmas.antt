-- The ends of nets and the places of instances afterwards.
use Rattle.std.proofs.Common.{◌≡◌, ◌<◌, ◌≤◌, ◌+◌, ◌-◌, ◌⊎◌, ℕ, zero, suc, List, [], ◌∷◌, ◌++◌, Bool, true, false, length, map, take, drop, refl, sym, ap, subst, ◌∙◌, inl, inr, arith, Option, Some, None, slice_get}
use Rattle.std.specs.Prelude.{◌==◌, cond}
use Rattle.std.proofs.lemmas.Bool.{eqb-true, eq-eqb, false≢true, lt-ltb, le-ltb}
use Rattle.std.proofs.lemmas.List.{map-append}
use Rattle.netlist_schema.specs.Types.{End, Inst}
use Rattle.netlist_schema.proofs.Lists.{get_behind, get_front, map_drop}
use Rattle.flat_spec.specs.Paths.{Bit, own, on}
use Rattle.flat_spec.proofs.ListLemmas.{Member}
use Rattle.ungroup_spec.specs.Groups.{Site, outer, inner, ends_of_part}
use Rattle.ungroup_spec.specs.Dissolved.{children, insts_after, inst_name, with_inst_name, moved_place, outer_end_at, inner_end_at, ends_up}
use Rattle.ungroup_spec.proofs.AfterLemmas.{map-named_up}
use Rattle.ungroup_spec.proofs.PlaceLemmas.{Member-flat_map, Member-from_flat_map}

-- ---- ends

on-at : (end : End) (i : ℕ) (b : Bit) → end.inst ≡ Some i → end.port ≡ b.port → end.bit ≡ b.bit → end ≡ on i b
on-at end i b e p t = λ k. record { inst = e k; port = p k; bit = t k }

pub outer_at-own : (s : Site) (end : End) (i : Option ℕ) (b : Bit) → Member (outer_end_at s end i) (own b) → end ≡ own b
outer_at-own s end None b m = elim m [ inl same ↦ same | inr none ↦ absurd none ]
outer_at-own s end (Some i) b m = go (i == s.place) m
  where
    go : (t : Bool) → Member (cond t [] (record end { inst = Some (moved_place s i) } ∷ [])) (own b) → end ≡ own b
    go true m = absurd m
    go false m = elim m [ inl same ↦ absurd (cc (ap (λ (v : End). v.inst) same)) | inr none ↦ absurd none ]

-- an end on instance t afterwards was one on an instance that came to stand there
pub record CameFrom (s : Site) (end : End) (t : ℕ) (b : Bit) : Type 0 where
  pub place : ℕ
  pub was : end ≡ on place b
  pub other : place ≡ s.place → ⊥
  pub moved : t ≡ moved_place s place

pub outer_at-on : (s : Site) (end : End) (i : Option ℕ) (t : ℕ) (b : Bit) → end.inst ≡ i → Member (outer_end_at s end i) (on t b) → CameFrom s end t b
outer_at-on s end None t b e m =
    elim m [ inl same ↦ absurd (cc (sym e ∙ ap (λ (v : End). v.inst) same)) | inr none ↦ absurd none ]
outer_at-on s end (Some i) t b e m = go (i == s.place) refl m
  where
    go : (test : Bool) → (i == s.place) ≡ test → Member (cond test [] (record end { inst = Some (moved_place s i) } ∷ [])) (on t b) → CameFrom s end t b
    go true is m = absurd m
    go false is m = elim m [
      | inl same ↦
          let insts : ◌≡◌ {A = Option ℕ} (Some (moved_place s i)) (Some t) = ap (λ (v : End). v.inst) same in
          record {
            place = i;
            was = on-at end i b e (ap (λ (v : End). v.port) same) (ap (λ (v : End). v.bit) same);
            other = λ here. false≢true (sym is ∙ eq-eqb i s.place here);
            moved = cc insts;
          }
      | inr none ↦ absurd none
    ]

pub outer-own : (s : Site) (n : ℕ) (b : Bit) → Member (ends_of_part s (outer n)) (own b) → Member (ends_up s (outer n)) (own b)
outer-own s n b m =
    Member-flat_map (λ (end : End). outer_end_at s end end.inst) (ends_of_part s (outer n)) (own b) (own b) m (inl refl)

pub outer-own_from : (s : Site) (n : ℕ) (b : Bit) → Member (ends_up s (outer n)) (own b) → Member (ends_of_part s (outer n)) (own b)
outer-own_from s n b m =
    let found = Member-from_flat_map (λ (end : End). outer_end_at s end end.inst) (ends_of_part s (outer n)) (own b) m in
    subst (λ v. Member (ends_of_part s (outer n)) v) (outer_at-own s found.0 found.0.inst b found.2) found.1

pub outer-on : (s : Site) (n i : ℕ) (b : Bit) → (i ≡ s.place → ⊥) → Member (ends_of_part s (outer n)) (on i b)
    → Member (ends_up s (outer n)) (on (moved_place s i) b)
outer-on s n i b other m =
    Member-flat_map (λ (end : End). outer_end_at s end end.inst) (ends_of_part s (outer n)) (on i b) (on (moved_place s i) b) m
    (go (i == s.place) refl)
  where
    go : (test : Bool) → (i == s.place) ≡ test → Member (cond test [] (on (moved_place s i) b ∷ [])) (on (moved_place s i) b)
    go true is = absurd (other (eqb-true i s.place is))
    go false is = inl refl

pub outer-on_from : (s : Site) (n t : ℕ) (b : Bit) → Member (ends_up s (outer n)) (on t b)
    → (i : ℕ) × (i ≡ s.place → ⊥) × (t ≡ moved_place s i) × Member (ends_of_part s (outer n)) (on i b)
outer-on_from s n t b m =
    let found = Member-from_flat_map (λ (end : End). outer_end_at s end end.inst) (ends_of_part s (outer n)) (on t b) m in
    let came = outer_at-on s found.0 found.0.inst t b refl found.2 in
    (came.place, came.other, came.moved, subst (λ v. Member (ends_of_part s (outer n)) v) came.was found.1)

pub inner_at-on : (s : Site) (end : End) (i : Option ℕ) (t : ℕ) (b : Bit) → end.inst ≡ i → Member (inner_end_at s end i) (on t b)
    → (j : ℕ) × (t ≡ s.place + j) × (end ≡ on j b)
inner_at-on s end None t b e m = absurd m
inner_at-on s end (Some j) t b e m =
    elim m [
      | inl same ↦
          let insts : ◌≡◌ {A = Option ℕ} (Some (s.place + j)) (Some t) = ap (λ (v : End). v.inst) same in
          let places : s.place + j ≡ t = cc insts in
          (j, sym places, on-at end j b e (ap (λ (v : End). v.port) same) (ap (λ (v : End). v.bit) same))
      | inr none ↦ absurd none
    ]

pub inner_at-own : (s : Site) (end : End) (i : Option ℕ) (b : Bit) → Member (inner_end_at s end i) (own b) → ⊥
inner_at-own s end None b m = m
inner_at-own s end (Some j) b m = elim m [ inl same ↦ cc (ap (λ (v : End). v.inst) same) | inr none ↦ none ]

pub inner-own : (s : Site) (m : ℕ) (b : Bit) → Member (ends_up s (inner m)) (own b) → ⊥
inner-own s m b is =
    let found = Member-from_flat_map (λ (end : End). inner_end_at s end end.inst) (ends_of_part s (inner m)) (own b) is in
    inner_at-own s found.0 found.0.inst b found.2

pub inner-on : (s : Site) (m j : ℕ) (b : Bit) → Member (ends_of_part s (inner m)) (on j b) → Member (ends_up s (inner m)) (on (s.place + j) b)
inner-on s m j b is =
    Member-flat_map (λ (end : End). inner_end_at s end end.inst) (ends_of_part s (inner m)) (on j b) (on (s.place + j) b) is (inl refl)

pub inner-on_from : (s : Site) (m t : ℕ) (b : Bit) → Member (ends_up s (inner m)) (on t b)
    → (j : ℕ) × (t ≡ s.place + j) × Member (ends_of_part s (inner m)) (on j b)
inner-on_from s m t b is =
    let found = Member-from_flat_map (λ (end : End). inner_end_at s end end.inst) (ends_of_part s (inner m)) (on t b) is in
    let at = inner_at-on s found.0 found.0.inst t b refl found.2 in
    (at.0, at.1, subst (λ v. Member (ends_of_part s (inner m)) v) at.2 found.1)

-- ---- places

-- before the dissolved instance, or behind it
pub place-moved : (s : Site) (i : ℕ) → (i ≡ s.place → ⊥)
    → ((i < s.place) × (moved_place s i ≡ i)) ⊎ ((s.place < i) × (moved_place s i + 1 ≡ i + length s.within.insts))
place-moved s i other =
    elim (split i s.place) [
      | inl same ↦ absurd (other same)
      | inr rest ↦ elim rest [
        | inl low ↦ inl (low, ap (λ b. cond b (i + length s.within.insts - 1) i) (le-ltb s.place i (omega (arith, low))))
        | inr high ↦
            let place : moved_place s i ≡ i + length s.within.insts - 1 = ap (λ b. cond b (i + length s.within.insts - 1) i) (lt-ltb s.place i high) in
            inr (high, ap (λ v. v + 1) place ∙ back i (length s.within.insts) (omega (arith, high)))
      ]
    ]
  where
    split : (a b : ℕ) → (a ≡ b) ⊎ ((a < b) ⊎ (b < a))
    split a b = grind arith

    back : (a c : ℕ) → 0 < a → a + c - 1 + 1 ≡ a + c
    back a c h = omega (arith, h)

-- ---- a list put in the place of an element

abbrev pub spliced : {A : Type 0} → ℕ → List A → List A → List A
spliced p ys xs = take p xs ++ (ys ++ drop (p + 1) xs)

get-before : {A : Type 0} (p : ℕ) (xs zs : List A) (t : ℕ) → t < p → p ≤ length xs → slice_get (take p xs ++ zs) t ≡ slice_get xs t
get-before zero xs zs t h k = absurd (omega (arith, h))
get-before (suc p) [] zs t h k = absurd (omega (arith, k))
get-before (suc p) (x ∷ xs) zs zero h k = refl
get-before (suc p) (x ∷ xs) zs (suc t) h k = get-before p xs zs t (omega (arith, h)) (omega (arith, k))

get-behind : {A : Type 0} (p : ℕ) (xs zs : List A) (j : ℕ) → p ≤ length xs → slice_get (take p xs ++ zs) (p + j) ≡ slice_get zs j
get-behind zero xs zs j k = ap (slice_get zs) (omega arith)
get-behind (suc p) [] zs j k = absurd (omega (arith, k))
get-behind (suc p) (x ∷ xs) zs j k =
    let sum : suc p + j ≡ suc (p + j) = omega arith in
    ap (slice_get (x ∷ take p xs ++ zs)) sum ∙ get-behind p xs zs j (omega (arith, k))

get-drop : {A : Type 0} (n : ℕ) (xs : List A) (j : ℕ) → slice_get (drop n xs) j ≡ slice_get xs (n + j)
get-drop zero xs j = ap (slice_get xs) (omega arith)
get-drop (suc n) [] j = refl
get-drop (suc n) (x ∷ xs) j =
    let sum : suc (n + j) ≡ suc n + j = omega arith in
    get-drop n xs j ∙ ap (slice_get (x ∷ xs)) sum

module _ {A : Type 0} (p : ℕ) (ys xs : List A) (within : p < length xs) where
  pub spliced-before : (t : ℕ) → t < p → slice_get (spliced p ys xs) t ≡ slice_get xs t
  spliced-before t h = get-before p xs (ys ++ drop (p + 1) xs) t h (omega (arith, within))

  pub spliced-in : (j : ℕ) → j < length ys → slice_get (spliced p ys xs) (p + j) ≡ slice_get ys j
  spliced-in j h = get-behind p xs (ys ++ drop (p + 1) xs) j (omega (arith, within)) ∙ get_front ys (drop (p + 1) xs) j h

  pub spliced-behind : (i t : ℕ) → p < i → t + 1 ≡ i + length ys → slice_get (spliced p ys xs) t ≡ slice_get xs i
  spliced-behind i t h e =
      let rest : ℕ = i - (p + 1) in
      let place : t ≡ p + (length ys + rest) = omega (arith, h, e) in
      let back : (p + 1) + rest ≡ i = omega (arith, h) in
      ap (slice_get (spliced p ys xs)) place
      ∙ get-behind p xs (ys ++ drop (p + 1) xs) (length ys + rest) (omega (arith, within))
      ∙ get_behind ys (drop (p + 1) xs) rest ∙ get-drop (p + 1) xs rest ∙ ap (slice_get xs) back

map-take : {A B : Type 0} (f : A → B) (n : ℕ) (xs : List A) → map f (take n xs) ≡ take n (map f xs)
map-take f zero xs = refl
map-take f (suc n) [] = refl
map-take f (suc n) (x ∷ xs) = ap (λ v. f x ∷ v) (map-take f n xs)

pub map-spliced : {A B : Type 0} (f : A → B) (p : ℕ) (ys xs : List A) → map f (spliced p ys xs) ≡ spliced p (map f ys) (map f xs)
map-spliced f p ys xs =
    map-append f (take p xs) (ys ++ drop (p + 1) xs)
    ∙ (λ i. map-take f p xs i ++ map-append f ys (drop (p + 1) xs) i)
    ∙ (λ i. take p (map f xs) ++ (map f ys ++ map_drop f (p + 1) xs i))

-- what does not depend on the instances' names
pub map-insts_after : {B : Type 0} (s : Site) (f : Inst → B) → ((n : _) (x : Inst) → f (with_inst_name n x) ≡ f x)
    → map f (insts_after s) ≡ spliced s.place (map f s.within.insts) (map f s.around.insts)
map-insts_after s f same =
    let kids : map f (children s) ≡ map f s.within.insts =
    map-named_up inst_name with_inst_name f same (map (λ (inst : Inst). inst.name.id) s.around.insts) s.inst.name s.within.insts in
    map-append f (take s.place s.around.insts) (children s ++ drop (s.place + 1) s.around.insts)
    ∙ (λ i. map-take f s.place s.around.insts i ++ map-append f (children s) (drop (s.place + 1) s.around.insts) i)
    ∙ (λ i. take s.place (map f s.around.insts) ++ (kids i ++ map_drop f (s.place + 1) s.around.insts i))
