-- The uses of a cell: just the instances of it, in order.
use Rattle.std.proofs.Common.{◌≡◌, ◌≢◌, ◌+◌, ◌<◌, ◌≤◌, ◌⊎◌, ◌↔◌, inl, inr, ℕ, zero, suc, arith, true, false, cond, List, [], ◌∷◌, length, Option, Some, None, refl, sym, ap, subst, ◌∙◌, slice_get}
use Rattle.std.specs.Prelude.{IsSomeAnd, nat_eq, nat_lt, option_map}
use Rattle.std.specs.List.{AllByRecursion, AllPairs, Contains, enumerate_from, flat_map, range_with_len}
use Rattle.std.specs.Option.{option_map_or}
use Rattle.std.proofs.lemmas.Bool.{cases_lt, eq-eqb, eqb-true, false_from_ne_true}
use Rattle.std.proofs.lemmas.Bool.Decides.{nat_tests}
use Rattle.std.proofs.lemmas.Option.{slice_get_within}
use Rattle.netlist_schema.specs.Design.{Design, cell_at, insts_of}
use Rattle.netlist_schema.specs.Hierarchy.{insts_at}
use Rattle.netlist_schema.specs.Types.{CellBody, CellId, Inst}
use Rattle.netlist_order_spec.proofs.Places.{lib_of_cell}
use Rattle.edit_rules_spec.specs.Paths.{same_cell}
use Rattle.edit_rules_spec.proofs.Levels.{is_same_cell, same_cell-refl}
use Rattle.flat_spec.proofs.ListLemmas.{Ascends, Ascends-append, Ascends-filter, Ascends-map, Ascends-pairs, Contains-member, Member, Member-append_cases, Member-append_left, Member-append_right, Member-contains, Member-filter, Member-from_filter, Member-from_map, Member-map, slice_get-contains}
use Rattle.used_spec.specs.Uses.{Placed, all_cells, all_placed, comes_before, count_in, id_at, ids_of, placed_at, placed_in, users}
use Rattle.used_spec.specs.declared.used_at.UsedAt.{UsedAt}
use Rattle.used_spec.proofs.KeptCells.{contains_place, count_is}
use Rattle.used_spec.proofs.Numbered.{enumerated}

-- ---- the order of uses

pub lt_true : (a b : ℕ) → a < b → nat_lt a b ≡ true
lt_true a b h = grind (arith, nat_tests)

pub ne_false : (a b : ℕ) → a ≢ b → nat_eq a b ≡ false
ne_false a b h = false_from_ne_true (nat_eq a b) (λ same. h (eqb-true a b same))

pub eq_true : (a : ℕ) → nat_eq a a ≡ true
eq_true a = eq-eqb a a refl

-- in one cell by the instances
pub in_one_cell : (id : CellId) (k j : ℕ) → comes_before (record { cell = id; inst = k }) (record { cell = id; inst = j }) ≡ nat_lt k j
in_one_cell id k j =
    ap (λ b. cond b (cond (nat_eq id.slot id.slot) (nat_lt k j) (nat_lt id.slot id.slot)) (nat_lt id.lib.0 id.lib.0)) (eq_true id.lib.0)
    ∙ ap (λ b. cond b (nat_lt k j) (nat_lt id.slot id.slot)) (eq_true id.slot)

-- each use in the first cell comes before each in the second
abbrev pub IsBefore : CellId → CellId → Type 0
IsBefore a b = (k j : ℕ) → comes_before (record { cell = a; inst = k }) (record { cell = b; inst = j }) ≡ true

pub before_by_lib : (a b : CellId) → a.lib.0 < b.lib.0 → IsBefore a b
before_by_lib a b less k j =
    ap (λ v. cond v (cond (nat_eq a.slot b.slot) (nat_lt k j) (nat_lt a.slot b.slot)) (nat_lt a.lib.0 b.lib.0)) (ne_false a.lib.0 b.lib.0 (λ same. omega (arith, same, less)))
    ∙ lt_true a.lib.0 b.lib.0 less

pub before_by_slot : (lib s t : ℕ) → s < t → IsBefore (id_at lib s) (id_at lib t)
before_by_slot lib s t less k j =
    ap (λ v. cond v (cond (nat_eq s t) (nat_lt k j) (nat_lt s t)) (nat_lt lib lib)) (eq_true lib)
    ∙ ap (λ v. cond v (nat_lt k j) (nat_lt s t)) (ne_false s t (λ same. omega (arith, same, less)))
    ∙ lt_true s t less

-- ---- lists that rise

flat_member : {X Y : Type 0} (f : X → List Y) (xs : List X) (b : Y) → Member (flat_map f xs) b → (x : X) × Member xs x × Member (f x) b
flat_member f [] b m = absurd m
flat_member f (x ∷ xs) b m = elim (Member-append_cases (f x) (flat_map f xs) b m) [
  | inl here ↦ (x, inl refl, here)
  | inr later ↦ let r = flat_member f xs b later in (r.0, inr r.1, r.2)
]

member_flat : {X Y : Type 0} (f : X → List Y) (xs : List X) (x : X) (b : Y) → Member xs x → Member (f x) b → Member (flat_map f xs) b
member_flat f [] x b m has = absurd m
member_flat f (y ∷ xs) x b (inl same) has = Member-append_left (f y) (flat_map f xs) b (subst (λ v. Member (f v) b) (sym same) has)
member_flat f (y ∷ xs) x b (inr later) has = Member-append_right (f y) (flat_map f xs) b (member_flat f xs x b later has)

flat_ascends : {X Y : Type 0} (R : X → X → Type 0) (S : Y → Y → Type 0) (f : X → List Y) (xs : List X) → ((x : X) → Ascends S (f x)) → ((x y : X) (a b : Y) → R x y → Member (f x) a → Member (f y) b → S a b)
    → Ascends R xs → Ascends S (flat_map f xs)
flat_ascends R S f [] each across up = tt
flat_ascends R S f (x ∷ xs) each across up = Ascends-append S (f x) (flat_map f xs) (each x) (flat_ascends R S f xs each across up.1)
    (λ a b m k. let r = flat_member f xs b k in across x r.0 a b (up.0 r.0 r.1) m r.2)

range_low : (a n i : ℕ) → Member (range_with_len a n) i → a ≤ i
range_low a zero i m = absurd m
range_low a (suc n) i (inl same) = omega (arith, same)
range_low a (suc n) i (inr later) = let low = range_low (a + 1) n i later in omega (arith, low)

range_ascends : (a n : ℕ) → Ascends (λ i j. i < j) (range_with_len a n)
range_ascends a zero = tt
range_ascends a (suc n) = (λ i m. (let low = range_low (a + 1) n i m in omega (arith, low)), range_ascends (a + 1) n)

range_has : (a n i : ℕ) → a ≤ i → i < a + n → Member (range_with_len a n) i
range_has a zero i low high = absurd (omega (arith, low, high))
range_has a (suc n) i low high = go (λ less. range_has (a + 1) n i (omega (arith, less)) (omega (arith, high))) (cases_lt a i)
  where
    go : (a < i → Member (range_with_len (a + 1) n) i) → (a < i) ⊎ (i ≤ a) → Member (range_with_len a (suc n)) i
    go more (inl less) = inr (more less)
    go more (inr le) = let same : a ≡ i = omega (arith, low, le) in inl same

enumerate_low : (a : ℕ) (xs : List Inst) (p : ℕ × Inst) → Member (enumerate_from a xs) p → a ≤ p.0
enumerate_low a [] p m = absurd m
enumerate_low a (x ∷ xs) p (inl same) = let e : a ≡ p.0 = ap (λ (v : ℕ × Inst). v.0) same in omega (arith, e)
enumerate_low a (x ∷ xs) p (inr later) = let low = enumerate_low (a + 1) xs p later in omega (arith, low)

enumerate_ascends : (a : ℕ) (xs : List Inst) → Ascends (λ (p q : ℕ × Inst). p.0 < q.0) (enumerate_from a xs)
enumerate_ascends a [] = tt
enumerate_ascends a (x ∷ xs) = (λ p m. (let low = enumerate_low (a + 1) xs p m in omega (arith, low)), enumerate_ascends (a + 1) xs)

-- ---- the cells of a design, and their instances

ids_ascend : (lib n : ℕ) → Ascends IsBefore (ids_of lib n)
ids_ascend lib n = Ascends-map (λ (i j : ℕ). i < j) IsBefore (id_at lib) (λ s t less. before_by_slot lib s t less) (range_with_len 0 n) (range_ascends 0 n)

in_lib : (lib n : ℕ) (a : CellId) → Member (ids_of lib n) a → a.lib.0 ≡ lib
in_lib lib n a m = let r = Member-from_map (id_at lib) (range_with_len 0 n) a m in sym (ap (λ (v : CellId). v.lib.0) r.2)

cells_ascend : (d : Design) → Ascends IsBefore (all_cells d)
cells_ascend d = flat_ascends (λ (i j : ℕ). i < j) IsBefore (λ lib. ids_of lib (count_in d lib)) (range_with_len 0 (length d.libs))
    (λ lib. ids_ascend lib (count_in d lib))
    (λ x y a b less m k.
    let e = in_lib x (count_in d x) a m in
    let f = in_lib y (count_in d y) b k in
    before_by_lib a b (omega (arith, e, f, less)))
    (range_ascends 0 (length d.libs))

abbrev pub IsPlacedBefore : Placed → Placed → Type 0
IsPlacedBefore p q = comes_before p.at q.at ≡ true

placed_ascend : (d : Design) → Ascends IsPlacedBefore (all_placed d)
placed_ascend d = flat_ascends IsBefore IsPlacedBefore (λ c. placed_in c (insts_at d c)) (all_cells d)
    (λ c. Ascends-map (λ (p q : ℕ × Inst). p.0 < q.0) IsPlacedBefore (placed_at c) (λ p q less. in_one_cell c p.0 q.0 ∙ lt_true p.0 q.0 less) (enumerate_from 0 (insts_at d c)) (enumerate_ascends 0 (insts_at d c)))
    across
    (cells_ascend d)
  where
    across : (x y : CellId) (a b : Placed) → IsBefore x y → Member (placed_in x (insts_at d x)) a → Member (placed_in y (insts_at d y)) b → IsPlacedBefore a b
    across x y a b before m k =
        let r = Member-from_map (placed_at x) (enumerate_from 0 (insts_at d x)) a m in
        let s = Member-from_map (placed_at y) (enumerate_from 0 (insts_at d y)) b k in
        let p : placed_at x r.0 ≡ a = r.2 in
        let q : placed_at y s.0 ≡ b = s.2 in
        subst (λ (v : Placed). IsPlacedBefore v b) p (subst (λ (w : Placed). IsPlacedBefore (placed_at x r.0) w) q (before r.0.0 s.0.0))

abbrev pub IsUsedBefore : UsedAt → UsedAt → Type 0
IsUsedBefore a b = comes_before a b ≡ true

pub users_ascend : (d : Design) (cell : CellId) → Ascends IsUsedBefore (users d cell)
users_ascend d cell = Ascends-map IsPlacedBefore IsUsedBefore (λ (p : Placed). p.at) (λ p q h. h) _ (Ascends-filter IsPlacedBefore (λ p. same_cell p.of cell) (all_placed d) (placed_ascend d))

-- the same by recursion
abbrev pub Rises : List UsedAt → Type 0
Rises [] = Unit {0}
Rises (u ∷ us) = AllByRecursion (λ v. comes_before u v ≡ true) us × Rises us

pub users_rise : (d : Design) (cell : CellId) → Rises (users d cell)
users_rise d cell = go (users d cell) (users_ascend d cell)
  where
    each : (u : UsedAt) (vs : List UsedAt) → ((v : UsedAt) → Member vs v → comes_before u v ≡ true) → AllByRecursion (λ v. comes_before u v ≡ true) vs
    each u [] f = tt
    each u (v ∷ vs) f = (f v (inl refl), each u vs (λ w m. f w (inr m)))

    go : (us : List UsedAt) → Ascends IsUsedBefore us → Rises us
    go [] h = tt
    go (u ∷ us) h = (each u us h.0, go us h.1)

pub users_in_order : (d : Design) (cell : CellId) → AllPairs (λ a b. comes_before a b ≡ true) (users d cell)
users_in_order d cell = Ascends-pairs IsUsedBefore (users d cell) (users_ascend d cell)

-- ---- just the instances

-- a cell that is there is among all
cell_listed : (d : Design) (id : CellId) (c : CellBody) → cell_at d id ≡ Some c → Member (all_cells d) id
cell_listed d id c e =
    let l = lib_of_cell d id c e in
    let lib = id.lib.0 in
    let in_libs = slice_get_within d.libs lib l.0 l.1 in
    let in_cells = slice_get_within l.0.cells id.slot c l.2 in
    let count = count_is d lib l.0 l.1 in
    member_flat (λ k. ids_of k (count_in d k)) (range_with_len 0 (length d.libs)) lib id (range_has 0 (length d.libs) lib (omega arith) (omega (arith, in_libs)))
    (Member-map (id_at lib) (range_with_len 0 (count_in d lib)) id.slot (range_has 0 (count_in d lib) id.slot (omega arith) (omega (arith, in_cells, count))))

inst_found : (xs : List Inst) (q : ℕ × Inst) → Member (enumerate_from 0 xs) q → slice_get xs q.0 ≡ Some q.1
inst_found xs q m = go (contains_place (enumerate_from 0 xs) q (Member-contains (enumerate_from 0 xs) q m))
  where
    at : (i : ℕ) (o : Option Inst) → slice_get xs i ≡ o → option_map (λ x. (i, x)) o ≡ Some q → slice_get xs q.0 ≡ Some q.1
    at i None e f = absurd (cc f)
    at i (Some x) e f = let same : (i, x) ≡ q = cc f in subst (λ (v : ℕ × Inst). slice_get xs v.0 ≡ Some v.1) same e

    go : ((i : ℕ) × (slice_get (enumerate_from 0 xs) i ≡ Some q)) → slice_get xs q.0 ≡ Some q.1
    go (i, e) = at i (slice_get xs i) refl (sym (enumerated xs i) ∙ e)

user_is : (d : Design) (cell : CellId) (at : UsedAt) → Member (users d cell) at → IsSomeAnd (slice_get (insts_at d at.cell) at.inst) (λ inst. inst.of ≡ cell)
user_is d cell at m =
    let r = Member-from_map (λ (p : Placed). p.at) _ at m in
    let p : Placed = r.0 in
    let s = Member-from_filter (λ (p : Placed). same_cell p.of cell) (all_placed d) p r.1 in
    let of : p.of ≡ cell = is_same_cell p.of cell s.1 in
    let c = flat_member (λ c. placed_in c (insts_at d c)) (all_cells d) p s.0 in
    let q = Member-from_map (placed_at c.0) (enumerate_from 0 (insts_at d c.0)) p c.2 in
    let there = inst_found (insts_at d c.0) q.0 q.1 in
    let same : placed_at c.0 q.0 ≡ p = q.2 in
    let here : record { cell = c.0; inst = q.0.0 } ≡ at = ap (λ (p : Placed). p.at) same ∙ r.2 in
    let inst : q.0.1.of ≡ cell = ap (λ (p : Placed). p.of) same ∙ of in
    subst (λ (v : UsedAt). IsSomeAnd (slice_get (insts_at d v.cell) v.inst) (λ inst. inst.of ≡ cell)) here
    (subst (λ (o : Option Inst). IsSomeAnd o (λ inst. inst.of ≡ cell)) (sym there) inst)

is_user : (d : Design) (cell : CellId) (at : UsedAt) → IsSomeAnd (slice_get (insts_at d at.cell) at.inst) (λ inst. inst.of ≡ cell) → Member (users d cell) at
is_user d cell at is = go (slice_get (insts_at d at.cell) at.inst) refl is
  where
    with_cell : (x : Inst) → slice_get (insts_at d at.cell) at.inst ≡ Some x → (c : CellBody) → cell_at d at.cell ≡ Some c → x.of ≡ cell → Member (users d cell) at
    with_cell x e c f of =
        let one : Placed = placed_at at.cell (at.inst, x) in
        let listed : Member (enumerate_from 0 (insts_at d at.cell)) (at.inst, x) = Contains-member (enumerate_from 0 (insts_at d at.cell)) (at.inst, x)
        (slice_get-contains (enumerate_from 0 (insts_at d at.cell)) at.inst (at.inst, x) (enumerated (insts_at d at.cell) at.inst ∙ ap (option_map (λ x. (at.inst, x))) e)) in
        let all : Member (all_placed d) one = member_flat (λ c. placed_in c (insts_at d c)) (all_cells d) at.cell one (cell_listed d at.cell c f)
        (Member-map (placed_at at.cell) (enumerate_from 0 (insts_at d at.cell)) (at.inst, x) listed) in
        Member-map (λ (p : Placed). p.at) _ one (Member-filter (λ (p : Placed). same_cell p.of cell) (all_placed d) one all (ap (λ (v : CellId). same_cell v cell) of ∙ same_cell-refl cell))

    find : (x : Inst) → slice_get (insts_at d at.cell) at.inst ≡ Some x → x.of ≡ cell → (o : Option CellBody) → cell_at d at.cell ≡ o → Member (users d cell) at
    find x e of (Some c) f = with_cell x e c f of
    find x e of None f =
        let none : insts_at d at.cell ≡ [] = ap (λ (o : Option CellBody). option_map_or insts_of o []) f in
        let never : None ≡ Some x = sym (ap (λ (xs : List Inst). slice_get xs at.inst) none) ∙ e in
        absurd (cc never)

    go : (o : Option Inst) → slice_get (insts_at d at.cell) at.inst ≡ o → IsSomeAnd o (λ inst. inst.of ≡ cell) → Member (users d cell) at
    go None e h = absurd h
    go (Some x) e h = find x e h (cell_at d at.cell) refl

pub users_are_instances : (d : Design) (cell : CellId) (at : UsedAt) → Contains (users d cell) at ↔ IsSomeAnd (slice_get (insts_at d at.cell) at.inst) (λ inst. inst.of ≡ cell)
users_are_instances d cell at = (λ has. user_is d cell at (Contains-member (users d cell) at has), λ is. Member-contains (users d cell) at (is_user d cell at is))
