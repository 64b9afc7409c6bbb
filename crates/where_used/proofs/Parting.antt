-- The instances of a design before and behind one place.
use Rattle.std.proofs.Common.{◌≡◌, ◌≢◌, ◌+◌, ◌-◌, ◌<◌, ◌≤◌, ℕ, zero, suc, arith, true, false, cond, List, [], ◌∷◌, ◌++◌, length, map, Some, refl, sym, ap, ◌∙◌, append_assoc}
use Rattle.std.specs.Prelude.{nat_eq, nat_lt}
use Rattle.std.specs.List.{AllByRecursion, enumerate_from, flat_map, range_with_len}
use Rattle.std.proofs.lemmas.List.{map-append}
use Rattle.std.proofs.lemmas.Grind.{flat_map-append}
use Rattle.std.proofs.lemmas.Option.{slice_get_within}
use Rattle.netlist_schema.specs.Design.{Design, cell_at}
use Rattle.netlist_schema.specs.Hierarchy.{insts_at}
use Rattle.netlist_schema.specs.Types.{CellBody, CellId, Inst}
use Rattle.netlist_schema.proofs.Lists.{all_append}
use Rattle.netlist_order_spec.proofs.Places.{lib_of_cell}
use Rattle.used_spec.specs.Uses.{Placed, all_cells, all_placed, comes_before, count_in, id_at, ids_of, placed_at, placed_in, placed_in_all}
use Rattle.used_spec.specs.declared.used_at.UsedAt.{UsedAt}
use Rattle.used_spec.proofs.KeptCells.{count_is}
use Rattle.used_spec.proofs.InOrder.{eq_true, in_one_cell, lt_true, ne_false}
use Rattle.where_used.proofs.Adding.{cells_upto}
use Rattle.where_used.proofs.Turning.{AllBefore, AllBehind, lt_false}

-- ---- ranges

range_parted : (k a n m b : ℕ) → n ≡ k + suc m → b ≡ a + k → range_with_len a n ≡ range_with_len a k ++ b ∷ range_with_len (b + 1) m
range_parted zero a n m b e f =
    let long : n ≡ suc m = omega (arith, e) in
    let here : a ≡ b = omega (arith, f) in
    ap (range_with_len a) long ∙ ap (λ v. v ∷ range_with_len (v + 1) m) here
range_parted (suc k) a n m b e f =
    let long : n ≡ suc (k + suc m) = omega (arith, e) in
    ap (range_with_len a) long ∙ ap (λ v. a ∷ v) (range_parted k (a + 1) (k + suc m) m b refl (omega (arith, f)))

range_all : (P : ℕ → Type 0) (a n : ℕ) → ((i : ℕ) → a ≤ i → i < a + n → P i) → AllByRecursion P (range_with_len a n)
range_all P a zero f = tt
range_all P a (suc n) f = (f a (omega arith) (omega arith), range_all P (a + 1) n (λ i low high. f i (omega (arith, low)) (omega (arith, high))))

all_map : {X Y : Type 0} (P : Y → Type 0) (f : X → Y) (xs : List X) → AllByRecursion (λ x. P (f x)) xs → AllByRecursion P (map f xs)
all_map P f [] h = tt
all_map P f (x ∷ xs) h = (h.0, all_map P f xs h.1)

all_flat : {X Y : Type 0} (P : Y → Type 0) (f : X → List Y) (xs : List X) → AllByRecursion (λ x. AllByRecursion P (f x)) xs → AllByRecursion P (flat_map f xs)
all_flat P f [] h = tt
all_flat P f (x ∷ xs) h = all_append P (f x) (flat_map f xs) h.0 (all_flat P f xs h.1)

all_any : {X : Type 0} (P : X → Type 0) (xs : List X) → ((x : X) → P x) → AllByRecursion P xs
all_any P [] f = tt
all_any P (x ∷ xs) f = (f x, all_any P xs f)

pub all_by : {X : Type 0} (P Q : X → Type 0) (xs : List X) → ((x : X) → P x → Q x) → AllByRecursion P xs → AllByRecursion Q xs
all_by P Q [] f h = tt
all_by P Q (x ∷ xs) f h = (f x h.0, all_by P Q xs f h.1)

enumerate_all : (P : ℕ × Inst → Type 0) (a : ℕ) (xs : List Inst) → ((i : ℕ) (x : Inst) → a ≤ i → i < a + length xs → P (i, x)) → AllByRecursion P (enumerate_from a xs)
enumerate_all P a [] f = tt
enumerate_all P a (x ∷ xs) f = (f a x (omega arith) (omega arith), enumerate_all P (a + 1) xs (λ i y low high. f i y (omega (arith, low)) (omega (arith, high))))

enumerate_both : (a : ℕ) (xs ys : List Inst) → enumerate_from a (xs ++ ys) ≡ enumerate_from a xs ++ enumerate_from (a + length xs) ys
enumerate_both a [] ys = let e : a ≡ a + 0 = omega arith in ap (λ k. enumerate_from k ys) e
enumerate_both a (x ∷ xs) ys = let e : a + 1 + length xs ≡ a + suc (length xs) = omega arith in ap (λ v. (a, x) ∷ v) (enumerate_both (a + 1) xs ys ∙ ap (λ k. enumerate_from (a + 1) xs ++ enumerate_from k ys) e)

-- ---- cells before and behind one

-- each use in the cell comes before each in the other, and is not in it
pub record IsLow (id c : CellId) : Type 0 where
  pub before : (k j : ℕ) → comes_before (record { cell = c; inst = k }) (record { cell = id; inst = j }) ≡ true
  pub other : c ≢ id

pub record IsHigh (id c : CellId) : Type 0 where
  pub behind : (k j : ℕ) → comes_before (record { cell = c; inst = k }) (record { cell = id; inst = j }) ≡ false
  pub other : c ≢ id

low_lib : (id c : CellId) → c.lib.0 < id.lib.0 → IsLow id c
low_lib id c less = record {
  before = λ k j.
      ap (λ b. cond b (cond (nat_eq c.slot id.slot) (nat_lt k j) (nat_lt c.slot id.slot)) (nat_lt c.lib.0 id.lib.0)) (ne_false c.lib.0 id.lib.0 (λ same. omega (arith, same, less)))
      ∙ lt_true c.lib.0 id.lib.0 less;
  other = λ same. (let e : c.lib.0 ≡ id.lib.0 = ap (λ (v : CellId). v.lib.0) same in omega (arith, e, less));
}

high_lib : (id c : CellId) → id.lib.0 < c.lib.0 → IsHigh id c
high_lib id c less = record {
  behind = λ k j.
      ap (λ b. cond b (cond (nat_eq c.slot id.slot) (nat_lt k j) (nat_lt c.slot id.slot)) (nat_lt c.lib.0 id.lib.0)) (ne_false c.lib.0 id.lib.0 (λ same. omega (arith, same, less)))
      ∙ lt_false c.lib.0 id.lib.0 (omega arith);
  other = λ same. (let e : c.lib.0 ≡ id.lib.0 = ap (λ (v : CellId). v.lib.0) same in omega (arith, e, less));
}

low_slot : (lib slot s : ℕ) → s < slot → IsLow (id_at lib slot) (id_at lib s)
low_slot lib slot s less = record {
  before = λ k j.
      ap (λ b. cond b (cond (nat_eq s slot) (nat_lt k j) (nat_lt s slot)) (nat_lt lib lib)) (eq_true lib)
      ∙ ap (λ b. cond b (nat_lt k j) (nat_lt s slot)) (ne_false s slot (λ same. omega (arith, same, less)))
      ∙ lt_true s slot less;
  other = λ same. (let e : s ≡ slot = ap (λ (v : CellId). v.slot) same in omega (arith, e, less));
}

high_slot : (lib slot s : ℕ) → slot < s → IsHigh (id_at lib slot) (id_at lib s)
high_slot lib slot s less = record {
  behind = λ k j.
      ap (λ b. cond b (cond (nat_eq s slot) (nat_lt k j) (nat_lt s slot)) (nat_lt lib lib)) (eq_true lib)
      ∙ ap (λ b. cond b (nat_lt k j) (nat_lt s slot)) (ne_false s slot (λ same. omega (arith, same, less)))
      ∙ lt_false s slot (omega arith);
  other = λ same. (let e : s ≡ slot = ap (λ (v : CellId). v.slot) same in omega (arith, e, less));
}

-- all cells of a design, before and behind one of them
pub record Parted (d : Design) (id : CellId) : Type 0 where
  pub front : List CellId
  pub back : List CellId
  pub cells : all_cells d ≡ front ++ id ∷ back
  pub low : AllByRecursion (IsLow id) front
  pub high : AllByRecursion (IsHigh id) back

joined : (x y c z : List CellId) (id : CellId) → x ++ ((y ++ id ∷ c) ++ z) ≡ (x ++ y) ++ id ∷ (c ++ z)
joined x y c z id = ap (λ v. x ++ v) (append_assoc y (id ∷ c) z) ∙ sym (append_assoc x y (id ∷ (c ++ z)))

pub parted : (d : Design) (id : CellId) (body : CellBody) → cell_at d id ≡ Some body → Parted d id
parted d id body found =
    let l = lib_of_cell d id body found in
    let lib = id.lib.0 in
    let slot = id.slot in
    let in_libs = slice_get_within d.libs lib l.0 l.1 in
    let in_cells = slice_get_within l.0.cells slot body l.2 in
    let count = count_is d lib l.0 l.1 in
    let ids : ℕ → List CellId = λ k. ids_of k (count_in d k) in
    let more = length d.libs - suc lib in
    let rest = count_in d lib - suc slot in
    let libs : range_with_len 0 (length d.libs) ≡ range_with_len 0 lib ++ lib ∷ range_with_len (lib + 1) more = range_parted lib 0 (length d.libs) more lib (omega (arith, in_libs)) (omega arith) in
    let slots : range_with_len 0 (count_in d lib) ≡ range_with_len 0 slot ++ slot ∷ range_with_len (slot + 1) rest = range_parted slot 0 (count_in d lib) rest slot (omega (arith, in_cells, count)) (omega arith) in
    let mine : ids lib ≡ ids_of lib slot ++ id ∷ map (id_at lib) (range_with_len (slot + 1) rest) = ap (map (id_at lib)) slots ∙ map-append (id_at lib) (range_with_len 0 slot) (slot ∷ range_with_len (slot + 1) rest) in
    record {
      front = cells_upto d lib ++ ids_of lib slot;
      back = map (id_at lib) (range_with_len (slot + 1) rest) ++ flat_map ids (range_with_len (lib + 1) more);
      cells =
          ap (flat_map ids) libs
          ∙ flat_map-append ids (range_with_len 0 lib) (lib ∷ range_with_len (lib + 1) more)
          ∙ ap (λ v. cells_upto d lib ++ (v ++ flat_map ids (range_with_len (lib + 1) more))) mine
          ∙ joined (cells_upto d lib) (ids_of lib slot) (map (id_at lib) (range_with_len (slot + 1) rest)) (flat_map ids (range_with_len (lib + 1) more)) id;
      low = all_append (IsLow id) (cells_upto d lib) (ids_of lib slot)
          (all_flat (IsLow id) ids (range_with_len 0 lib) (range_all (λ k. AllByRecursion (IsLow id) (ids k)) 0 lib (λ k from to.
          all_map (IsLow id) (id_at k) (range_with_len 0 (count_in d k)) (all_any (λ s. IsLow id (id_at k s)) (range_with_len 0 (count_in d k)) (λ s. low_lib id (id_at k s) (omega (arith, to)))))))
          (all_map (IsLow id) (id_at lib) (range_with_len 0 slot) (range_all (λ s. IsLow id (id_at lib s)) 0 slot (λ s from to. low_slot lib slot s (omega (arith, to)))));
      high = all_append (IsHigh id) (map (id_at lib) (range_with_len (slot + 1) rest)) (flat_map ids (range_with_len (lib + 1) more))
          (all_map (IsHigh id) (id_at lib) (range_with_len (slot + 1) rest) (range_all (λ s. IsHigh id (id_at lib s)) (slot + 1) rest (λ s from to. high_slot lib slot s (omega (arith, from)))))
          (all_flat (IsHigh id) ids (range_with_len (lib + 1) more) (range_all (λ k. AllByRecursion (IsHigh id) (ids k)) (lib + 1) more (λ k from to.
          all_map (IsHigh id) (id_at k) (range_with_len 0 (count_in d k)) (all_any (λ s. IsHigh id (id_at k s)) (range_with_len 0 (count_in d k)) (λ s. high_lib id (id_at k s) (omega (arith, from)))))));
    }

-- ---- instances before and behind a place in a cell

-- those before the place, and those behind it
abbrev pub placed_before : Design → CellId → List CellId → List Inst → List Placed
placed_before d id front xs = placed_in_all d front ++ placed_in id xs

abbrev pub placed_behind : Design → CellId → List CellId → ℕ → List Inst → List Placed
placed_behind d id back place ys = map (placed_at id) (enumerate_from (place + 1) ys) ++ placed_in_all d back

pub front_before : (d : Design) (id : CellId) (front : List CellId) (place : ℕ) → AllByRecursion (IsLow id) front → AllBefore (record { cell = id; inst = place }) (placed_in_all d front)
front_before d id front place low =
    let at : UsedAt = record { cell = id; inst = place } in
    all_flat (λ (p : Placed). comes_before p.at at ≡ true) (λ c. placed_in c (insts_at d c)) front
    (all_by (IsLow id) (λ c. AllByRecursion (λ (p : Placed). comes_before p.at at ≡ true) (placed_in c (insts_at d c))) front
    (λ c is. all_map (λ (p : Placed). comes_before p.at at ≡ true) (placed_at c) (enumerate_from 0 (insts_at d c)) (all_any (λ q. comes_before (placed_at c q).at at ≡ true) (enumerate_from 0 (insts_at d c)) (λ q. is.before q.0 place)))
    low)

pub back_behind : (d : Design) (id : CellId) (back : List CellId) (place : ℕ) → AllByRecursion (IsHigh id) back → AllBehind (record { cell = id; inst = place }) (placed_in_all d back)
back_behind d id back place high =
    let at : UsedAt = record { cell = id; inst = place } in
    all_flat (λ (p : Placed). comes_before p.at at ≡ false) (λ c. placed_in c (insts_at d c)) back
    (all_by (IsHigh id) (λ c. AllByRecursion (λ (p : Placed). comes_before p.at at ≡ false) (placed_in c (insts_at d c))) back
    (λ c is. all_map (λ (p : Placed). comes_before p.at at ≡ false) (placed_at c) (enumerate_from 0 (insts_at d c)) (all_any (λ q. comes_before (placed_at c q).at at ≡ false) (enumerate_from 0 (insts_at d c)) (λ q. is.behind q.0 place)))
    high)

pub all_before : (d : Design) (id : CellId) (front : List CellId) (xs : List Inst) (place : ℕ) → AllByRecursion (IsLow id) front → length xs ≤ place → AllBefore (record { cell = id; inst = place }) (placed_before d id front xs)
all_before d id front xs place low short =
    let at : UsedAt = record { cell = id; inst = place } in
    all_append (λ (p : Placed). comes_before p.at at ≡ true) (placed_in_all d front) (placed_in id xs)
    (front_before d id front place low)
    (all_map (λ (p : Placed). comes_before p.at at ≡ true) (placed_at id) (enumerate_from 0 xs)
    (enumerate_all (λ q. comes_before (placed_at id q).at at ≡ true) 0 xs (λ i x from to. in_one_cell id i place ∙ lt_true i place (omega (arith, to, short)))))

pub all_behind : (d : Design) (id : CellId) (back : List CellId) (place : ℕ) (ys : List Inst) → AllByRecursion (IsHigh id) back → AllBehind (record { cell = id; inst = place }) (placed_behind d id back place ys)
all_behind d id back place ys high =
    let at : UsedAt = record { cell = id; inst = place } in
    all_append (λ (p : Placed). comes_before p.at at ≡ false) (map (placed_at id) (enumerate_from (place + 1) ys)) (placed_in_all d back)
    (all_map (λ (p : Placed). comes_before p.at at ≡ false) (placed_at id) (enumerate_from (place + 1) ys)
    (enumerate_all (λ q. comes_before (placed_at id q).at at ≡ false) (place + 1) ys (λ i x from to. in_one_cell id i place ∙ lt_false i place (omega (arith, from)))))
    (back_behind d id back place high)

joined_placed : (x y c z : List Placed) → x ++ ((y ++ c) ++ z) ≡ (x ++ y) ++ (c ++ z)
joined_placed x y c z = ap (λ v. x ++ v) (append_assoc y c z) ∙ sym (append_assoc x y (c ++ z))

-- the instances of the cell are some, and then one and others
pub placed_one : (d : Design) (id : CellId) (part : Parted d id) (xs ys : List Inst) (x : Inst) (place : ℕ) → insts_at d id ≡ xs ++ x ∷ ys → length xs ≡ place
    → all_placed d ≡ placed_before d id part.front xs ++ record { at = record { cell = id; inst = place }; of = x.of } ∷ placed_behind d id part.back place ys
placed_one d id part xs ys x place is long =
    let f : CellId → List Placed = λ c. placed_in c (insts_at d c) in
    let start : 0 + length xs ≡ place = omega (arith, long) in
    let mine : placed_in id (insts_at d id) ≡ placed_in id xs ++ placed_at id (place, x) ∷ map (placed_at id) (enumerate_from (place + 1) ys) =
    ap (placed_in id) is
    ∙ ap (map (placed_at id)) (enumerate_both 0 xs (x ∷ ys) ∙ ap (λ k. enumerate_from 0 xs ++ enumerate_from k (x ∷ ys)) start)
    ∙ map-append (placed_at id) (enumerate_from 0 xs) ((place, x) ∷ enumerate_from (place + 1) ys) in
    ap (flat_map f) part.cells
    ∙ flat_map-append f part.front (id ∷ part.back)
    ∙ ap (λ v. placed_in_all d part.front ++ (v ++ placed_in_all d part.back)) mine
    ∙ joined_placed (placed_in_all d part.front) (placed_in id xs) (placed_at id (place, x) ∷ map (placed_at id) (enumerate_from (place + 1) ys)) (placed_in_all d part.back)

-- the instances of the cell are some, and no more
pub placed_none : (d : Design) (id : CellId) (part : Parted d id) (xs : List Inst) (place : ℕ) → insts_at d id ≡ xs
    → all_placed d ≡ placed_before d id part.front xs ++ placed_behind d id part.back place []
placed_none d id part xs place is =
    let f : CellId → List Placed = λ c. placed_in c (insts_at d c) in
    ap (flat_map f) part.cells
    ∙ flat_map-append f part.front (id ∷ part.back)
    ∙ ap (λ v. placed_in_all d part.front ++ (placed_in id v ++ placed_in_all d part.back)) is
    ∙ sym (append_assoc (placed_in_all d part.front) (placed_in id xs) (placed_in_all d part.back))

-- ---- another design with the same other cells

pub same_others : (d e : Design) (id : CellId) (cells : List CellId) → AllByRecursion (λ c. c ≢ id) cells → ((c : CellId) → c ≢ id → insts_at d c ≡ insts_at e c) → placed_in_all d cells ≡ placed_in_all e cells
same_others d e id [] all same = refl
same_others d e id (c ∷ cells) all same =
    let here = same c all.0 in
    let rest = same_others d e id cells all.1 same in
    λ i. placed_in c (here i) ++ rest i
