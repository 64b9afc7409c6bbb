-- The ways into a cell, joint by joint, and those of all cells.
use Rattle.std.proofs.Common.{◌≡◌, ◌≢◌, ◌⊎◌, ◌<◌, ◌≤◌, ◌+◌, ◌-◌, ℕ, zero, suc, List, [], ◌∷◌, ◌++◌, length, map, take, get_or, true, false, refl, sym, ap, subst, ◌∙◌, inl, inr, arith, Some, None, Option, slice_get, append-nil}
use Rattle.std.specs.Prelude.{option_and_then}
use Rattle.std.specs.List.{AllPairs, Contains}
use Rattle.std.specs.List.Sorted.{IsPermutation, IsSorted}
use Rattle.std.proofs.lemmas.List.Sorted.{Contains-permutation, IsPermutation-sym}
use Rattle.std.specs.Option.{option_map_or, option_to_list}
use Rattle.std.specs.Ordering.{is_lt, nat_cmp, ordering_then}
use Rattle.std.specs.declared.cmp.Ordering.{Ordering}
use Rattle.std.specs.declared.cmp.Ordering.TheVariants.{Less, Equal}
use Rattle.std.proofs.lemmas.Bool.{cases_eq, cases_order, false≢true}
use Rattle.std.proofs.lemmas.Bool.Decides.{nat_tests}
use Rattle.std.proofs.lemmas.List.{length_push, map_push, take_all, take_more}
use Rattle.std.proofs.lemmas.List.Elements.{Contains-append_left, Contains-push, Contains-push_cases}
use Rattle.std.proofs.lemmas.Option.{none-some, same_Some}
use Rattle.netlist_schema.specs.Design.{Design, cells_in}
use Rattle.netlist_schema.specs.Types.{CellId}
use Rattle.net_classes.specs.Facts.{Facts}
use Rattle.net_classes.specs.declared.joints.Joint.{Joint}
use Rattle.net_ways.specs.Ways.{AreEach, AreWays, AreWaysInto, AreWaysOf, IsWayOf, WayUpto, way_cmp, way_of, ways_in}
use Rattle.net_ways.specs.declared.ways.Way.{Way}
use Rattle.net_ways.proofs.PlaceLemmas.{cell_place, get_behind, get_still}

none_there : {A : Type 0} (x : A) → Contains [] x → ⊥
none_there x has = omega (arith, has.1)

pub none_each : (d : Design) (facts : Facts) (c : CellId) → AreEach d facts c [] []
none_each d facts c w = (λ has. absurd (none_there w has), λ h. absurd (none_there h.0 h.1))

module _ (d : Design) (facts : Facts) (c : CellId) (joints : List Joint) (k : ℕ) (j : Joint) (less : k < length joints) (is : get_or joints k j ≡ j) where
  next : take (k + 1) joints ≡ take k joints ++ j ∷ []
  next = take_more joints k j less ∙ ap (λ v. take k joints ++ v ∷ []) is

  still : (w : Way) → IsWayOf d facts c (take k joints) w → IsWayOf d facts c (take (k + 1) joints) w
  still w h = (h.0, subst (λ v. Contains v h.0) (sym next) (Contains-append_left (take k joints) (j ∷ []) h.0 h.1), h.2)

  pub more_each : (o : Option Way) (old new : List Way) → o ≡ way_of d facts c j → new ≡ old ++ option_to_list o → AreEach d facts c (take k joints) old → AreEach d facts c (take (k + 1) joints) new
  more_each None old new of added h w = (
    λ has. still w ((h w).0 (subst (λ v. Contains v w) (added ∙ append-nil old) has)),
    λ at. elim (Contains-push_cases (take k joints) j at.0 (subst (λ v. Contains v at.0) next at.1)) [
      | inl early ↦ subst (λ v. Contains v w) (sym (added ∙ append-nil old)) ((h w).1 (at.0, early, at.2))
      | inr here ↦ absurd (none-some w (of ∙ ap (way_of d facts c) here ∙ at.2))
    ],
  )
  more_each (Some way) old new of added h w = (
    λ has. elim (Contains-push_cases old way w (subst (λ v. Contains v w) added has)) [
      | inl early ↦ still w ((h w).0 early)
      | inr here ↦ (j, subst (λ v. Contains v j) (sym next) (Contains-push (take k joints) j), sym of ∙ ap Some here)
    ],
    λ at. elim (Contains-push_cases (take k joints) j at.0 (subst (λ v. Contains v at.0) next at.1)) [
      | inl early ↦ subst (λ v. Contains v w) (sym added) (Contains-append_left old (way ∷ []) w ((h w).1 (at.0, early, at.2)))
      | inr here ↦
          let same : way ≡ w = same_Some way w (of ∙ ap (way_of d facts c) here ∙ at.2) in
          subst (λ v. Contains v w) (sym added) (subst (Contains (old ++ way ∷ [])) same (Contains-push old way))
    ],
  )

pub all_each : (d : Design) (facts : Facts) (c : CellId) (joints : List Joint) (k : ℕ) (ways : List Way) → length joints ≤ k → AreEach d facts c (take k joints) ways → AreEach d facts c joints ways
all_each d facts c joints k ways done h = subst (λ v. AreEach d facts c v ways) (take_all k joints done) h

-- in whatever order
pub each_permuted : (d : Design) (facts : Facts) (c : CellId) (joints : List Joint) (old new : List Way) → IsPermutation old new → AreEach d facts c joints old → AreEach d facts c joints new
each_permuted d facts c joints old new p h w = (
  λ has. (h w).0 (Contains-permutation new old w (IsPermutation-sym old new p) has),
  λ from. Contains-permutation old new w p ((h w).1 from),
)

-- sorted ways are in order
less : (x y : ℕ) (rest : Ordering) → x < y → is_lt (ordering_then (nat_cmp x y) rest) ≡ true
less x y rest l = let e : nat_cmp x y ≡ Less = grind (arith, nat_tests) in ap (λ o. is_lt (ordering_then o rest)) e

same : (x y : ℕ) (rest : Ordering) → x ≡ y → is_lt (ordering_then (nat_cmp x y) rest) ≡ is_lt rest
same x y rest e = let t : nat_cmp x y ≡ Equal = grind (arith, nat_tests) in ap (λ o. is_lt (ordering_then o rest)) t

not_less : (x y : ℕ) (rest : Ordering) → is_lt (ordering_then (nat_cmp y x) rest) ≡ false → (x < y) ⊎ ((x ≡ y) × (is_lt rest ≡ false))
not_less x y rest h = elim (cases_order x y) [
  | inl equal ↦ inr (equal, sym (same y x rest (sym equal)) ∙ h)
  | inr apart ↦ elim apart [
    | inl before ↦ inl before
    | inr behind ↦ absurd (false≢true (sym h ∙ less y x rest behind))
  ]
]

upto : (a b : Way) → is_lt (way_cmp b a) ≡ false → WayUpto a b
upto a b h = elim (not_less a.inst b.inst _ h) [
  | inl before ↦ inl before
  | inr inst ↦ inr (inst.0, elim (not_less a.first b.first _ inst.1) [ inl before ↦ omega (arith, before) | inr first ↦ omega (arith, first.0) ])
]

upto_more : (a b c : Way) → WayUpto a b → WayUpto b c → WayUpto a c
upto_more a b c h k = elim h [
  | inl p ↦ elim k [ inl q ↦ inl (omega (arith, p, q)) | inr q ↦ inl (omega (arith, p, q.0)) ]
  | inr p ↦ elim k [ inl q ↦ inl (omega (arith, p.0, q)) | inr q ↦ inr (p.0 ∙ q.0, omega (arith, p.1, q.1)) ]
]

far : (ways : List Way) (d : Way) → IsSorted way_cmp ways → (i n : ℕ) → i + suc n < length ways → WayUpto (get_or ways i d) (get_or ways (i + suc n) d)
far ways d sorted i zero within = upto (get_or ways i d) (get_or ways (i + suc zero) d) (sorted i d (omega arith) (omega (arith, within)))
far ways d sorted i (suc n) within =
    let early = far ways d sorted i n (omega (arith, within)) in
    let at : i + suc (suc n) ≡ (i + suc n) + 1 = omega arith in
    let last = upto (get_or ways (i + suc n) d) (get_or ways ((i + suc n) + 1) d) (sorted (i + suc n) d (omega arith) (omega (arith, within))) in
    subst (λ k. WayUpto (get_or ways i d) (get_or ways k d)) (sym at) (upto_more (get_or ways i d) (get_or ways (i + suc n) d) (get_or ways ((i + suc n) + 1) d) early last)

pub sorted_ways : (ways : List Way) → IsSorted way_cmp ways → AllPairs WayUpto ways
sorted_ways ways sorted i j d before within =
    let n : ℕ = j - i - 1 in
    let at : i + suc n ≡ j = omega (arith, before) in
    subst (λ k. WayUpto (get_or ways i d) (get_or ways k d)) at (far ways d sorted i n (omega (arith, before, within)))

-- one element more
pub pushed : {R T : Type 0} (old new : List R) (x : R) → new ≡ old ++ x ∷ [] → (f : R → T) → map f old ++ f x ∷ [] ≡ map f new
pushed old new x is f = sym (ap (map f) is ∙ map_push f old x)

-- one cell more of a library, and one library more
pub no_ways_yet : (d : Design) (facts : Facts) (lib : ℕ) → AreWaysOf d facts lib 0 []
no_ways_yet d facts lib = record { long = refl; each = λ slot before. absurd (omega (arith, before)) }

pub ways_more : (d : Design) (facts : Facts) (lib count : ℕ) (row : List (List Way)) (ways : List Way) → AreWaysOf d facts lib count row
    → AreWaysInto d facts (record { lib = record { 0 = lib }; slot = count }) ways → AreWaysOf d facts lib (count + 1) (row ++ ways ∷ [])
ways_more d facts lib count row ways h one = record {
  long = length_push row ways ∙ ap (λ n. n + 1) h.long;
  each = λ slot before. elim (cases_eq slot count) [
    | inl at ↦ (
      ways,
      ap (slice_get (row ++ ways ∷ [])) (at ∙ sym h.long) ∙ get_behind row ways,
      subst (λ s. AreWaysInto d facts (record { lib = record { 0 = lib }; slot = s }) ways) (sym at) one,
    )
    | inr apart ↦
        let fewer : slot < count = grind (arith, before, apart) in
        let early = h.each slot fewer in
        (early.0, get_still row ways early.0 slot early.1, early.2)
  ];
}

pub record AreWayLibs (d : Design) (facts : Facts) (count : ℕ) (cells : List (List (List Way))) : Type 0 where
  pub long : length cells ≡ count
  pub each : (lib : ℕ) → lib < count → (row : List (List Way)) × (slice_get cells lib ≡ Some row) × AreWaysOf d facts lib (length (cells_in d (record { 0 = lib }))) row

pub no_way_libs : (d : Design) (facts : Facts) → AreWayLibs d facts 0 []
no_way_libs d facts = record { long = refl; each = λ lib before. absurd (omega (arith, before)) }

pub way_libs_more : (d : Design) (facts : Facts) (count : ℕ) (cells : List (List (List Way))) (row : List (List Way)) → AreWayLibs d facts count cells
    → AreWaysOf d facts count (length (cells_in d (record { 0 = count }))) row → AreWayLibs d facts (count + 1) (cells ++ row ∷ [])
way_libs_more d facts count cells row h one = record {
  long = length_push cells row ∙ ap (λ n. n + 1) h.long;
  each = λ lib before. elim (cases_eq lib count) [
    | inl at ↦ (
      row,
      ap (slice_get (cells ++ row ∷ [])) (at ∙ sym h.long) ∙ get_behind cells row,
      subst (λ l. AreWaysOf d facts l (length (cells_in d (record { 0 = l }))) row) (sym at) one,
    )
    | inr apart ↦
        let fewer : lib < count = grind (arith, before, apart) in
        let early = h.each lib fewer in
        (early.0, get_still cells row early.0 lib early.1, early.2)
  ];
}

-- all are there
pub all_cells : (d : Design) (facts : Facts) (cells : List (List (List Way))) → AreWayLibs d facts (length d.libs) cells → AreWays d facts cells
all_cells d facts cells h c is =
    let place = cell_place d c is in
    let lib = h.each c.lib.0 place.0 in
    let slot = lib.2.each c.slot place.1 in
    let ways_are : ways_in cells c ≡ slot.0 =
    ap (λ o. option_map_or (λ ws. ws) (option_and_then (λ (row : List (List Way)). slice_get row c.slot) o) []) lib.1 ∙ ap (λ o. option_map_or (λ ws. ws) o []) slot.1 in
    subst (AreWaysInto d facts c) (sym ways_are) slot.2
