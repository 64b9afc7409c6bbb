-- The walk over the cells below a cell.
use Rattle.std.proofs.Common.{◌≡◌, ◌≢◌, ◌⊎◌, ◌↔◌, ◌<◌, ◌≤◌, ◌+◌, ◌-◌, lit<, inl, inr, ⊎_elim, ℕ, zero, suc, arith, ◌||◌, Bool, true, false, not, List, [], ◌∷◌, ◌++◌, length, map, take, get_or, length-append, slice_get, Option, refl, sym, ap, subst, ◌∙◌, append_assoc, append-nil}
use Rattle.std.specs.List.{Contains, list_any}
use Rattle.std.specs.declared.cmp.Ordering.{Ordering}
use Rattle.std.specs.declared.cmp.Ordering.TheVariants.{Less, Equal, Greater}
use Rattle.std.specs.Option.{option_map_or}
use Rattle.std.specs.Ordering.{is_eq, match_ordering, nat_cmp}
use Rattle.std.specs.Cmp.{IsTotalOrder, eq_by_cmp_equiv, nat_cmp_total}
use Rattle.std.proofs.lemmas.Cmp.{on_total, then_total}
use Rattle.std.specs.FinMap.{nat_cmp-IsAntisymmetric}
use Rattle.std.specs.BTreeSet.{insert_key}
use Rattle.std.specs.BTreeMap.{is_at}
use Rattle.std.proofs.lemmas.List.{take_more, take-append-le}
use Rattle.std.proofs.lemmas.List.Elements.{Contains-append_left, Contains-append_right, Contains-append_cases, Contains-get_or, recursion_from_All}
use Rattle.netlist_schema.specs.Design.{Design, cell_at, insts_in, insts_of}
use Rattle.netlist_schema.specs.Hierarchy.{IsBelow, placed, deeper, insts_at}
use Rattle.netlist_schema.specs.Names.{AreDistinct}
use Rattle.netlist_schema.specs.Order.{cell_cmp}
use Rattle.netlist_schema.specs.Types.{CellBody, CellId, Contents, Inst, Lib}
use Rattle.netlist_schema.proofs.Objects.{both_Equal}
use Rattle.netlist_schema.proofs.Ranks.{below_trans}
use Rattle.flat_spec.proofs.ListLemmas.{Contains-member, Member, Member-append_left, Member-append_right, Member-contains, Member-map, pigeons}
use Rattle.edit_rules_spec.proofs.Lists.{apart_more, apart_of, distinct_of}
use Rattle.edit_rules_spec.specs.Seen.{contents_at}
use Rattle.netlist_schema.proofs.WithCell.{same_id}
use Rattle.uniquify_spec.proofs.Agreed.{insts_inside as insts_of_found}
use Rattle.edit_cells.specs.Parts.{IsInside}
use Rattle.edit_cells.specs.State.{State, HasRead, HasReadSome}
use Rattle.eco_reads.specs.Walk.{GoesOn, IsAtOrBelow, IsInsideBelow, IsListed, IsPlaced}
use Rattle.edit_cells.proofs.Growing.{grows_by_same, prefix_twice}
use Rattle.eco_reads.proofs.Reading.{read_then}

-- ---- lists of cells

pub only_one : {X : Type 0} (x y : X) → Contains (x ∷ []) y → y ≡ x
only_one x y (zero, lt, is) = sym is
only_one x y (suc k, lt, is) = absurd (omega arith)

in_one : {X : Type 0} (x y : X) → y ≡ x → Contains (x ∷ []) y
in_one x y is = (0, lit< tt, sym is)

none_in : {X : Type 0} (x : X) → Contains [] x → ⊥
none_in x has = absurd (omega (arith, has.1))

pub goes_nowhere : (a : List CellId) → GoesOn a a (IsPlaced [])
goes_nowhere a = record {
  prefix = ([], sym (append-nil a));
  cells = λ id. (λ has. inl has, λ has. ⊎_elim (λ (old : Contains a id). old) (λ (is : Contains [] id). absurd (none_in id is)) has);
}

-- a cell that was seen, and one that was not
pub goes_held : (a : List CellId) (id : CellId) → Contains a id → GoesOn a a (λ x. x ≡ id)
goes_held a id has = record {
  prefix = ([], sym (append-nil a));
  cells = λ x. (λ old. inl old, λ is. ⊎_elim (λ (old : Contains a x). old) (λ (same : x ≡ id). subst (λ (y : CellId). Contains a y) (sym same) has) is);
}

pub goes_pushed : (a b : List CellId) (id : CellId) → b ≡ a ++ id ∷ [] → GoesOn a b (λ x. x ≡ id)
goes_pushed a b id is = record {
  prefix = (id ∷ [], is);
  cells = λ x. (
    λ has. ⊎_elim (λ (old : Contains a x). inl old) (λ (new : Contains (id ∷ []) x). inr (only_one id x new)) (Contains-append_cases a (id ∷ []) x (subst (λ (xs : List CellId). Contains xs x) is has)),
    λ has. subst (λ (xs : List CellId). Contains xs x) (sym is) (⊎_elim
        (λ (old : Contains a x). Contains-append_left a (id ∷ []) x old)
        (λ (same : x ≡ id). Contains-append_right a (id ∷ []) x (in_one id x same)) has),
  );
}

pub goes_more : (a b c : List CellId) (insts : List Inst) (more : List CellId) (of : CellId) → map (λ (inst : Inst). inst.of) insts ≡ more ++ of ∷ [] → GoesOn a b (λ id. Contains more id) → GoesOn b c (λ x. x ≡ of) → GoesOn a c (IsPlaced insts)
goes_more a b c insts more of is first second = record {
  prefix = (first.prefix.0 ++ second.prefix.0, second.prefix.1 ∙ ap (λ (xs : List CellId). xs ++ second.prefix.0) first.prefix.1 ∙ append_assoc a first.prefix.0 second.prefix.0);
  cells = λ id. (
    λ has. ⊎_elim
        (λ (early : Contains b id). ⊎_elim (λ (old : Contains a id). inl old) (λ (m : Contains more id). inr (subst (λ (xs : List CellId). Contains xs id) (sym is) (Contains-append_left more (of ∷ []) id m))) ((first.cells id).0 early))
        (λ (same : id ≡ of). inr (subst (λ (xs : List CellId). Contains xs id) (sym is) (Contains-append_right more (of ∷ []) id (in_one of id same))))
        ((second.cells id).0 has),
    λ has. ⊎_elim
        (λ (old : Contains a id). (second.cells id).1 (inl ((first.cells id).1 (inl old))))
        (λ (p : Contains (map (λ (inst : Inst). inst.of) insts) id). ⊎_elim
        (λ (m : Contains more id). (second.cells id).1 (inl ((first.cells id).1 (inr m))))
        (λ (o : Contains (of ∷ []) id). (second.cells id).1 (inr (only_one of id o)))
        (Contains-append_cases more (of ∷ []) id (subst (λ (xs : List CellId). Contains xs id) is p)))
        has,
  );
}

-- ---- the set of cells that were seen, by its keys in order

cell_cmp_exact : (a b : CellId) → cell_cmp a b ≡ Equal → a ≡ b
cell_cmp_exact a b e =
    let parts = both_Equal (nat_cmp a.lib.0 b.lib.0) (nat_cmp a.slot b.slot) e in
    same_id a b (nat_cmp-IsAntisymmetric a.lib.0 b.lib.0 parts.0) (nat_cmp-IsAntisymmetric a.slot b.slot parts.1)

key_of_insert : (ks : List CellId) (k x : CellId) → Contains (insert_key cell_cmp ks k) x → (x ≡ k) ⊎ Contains ks x
key_of_insert [] k x has = inl (only_one k x has)
key_of_insert (y ∷ ys) k x has = by_order (cell_cmp k y) has (λ later. key_of_insert ys k x later)
  where
    by_order : (o : Ordering) → Contains (match_ordering o (k ∷ y ∷ ys) (y ∷ ys) (y ∷ insert_key cell_cmp ys k)) x → (Contains (insert_key cell_cmp ys k) x → (x ≡ k) ⊎ Contains ys x) → (x ≡ k) ⊎ Contains (y ∷ ys) x
    by_order Less there rec = ⊎_elim (λ (one : Contains (k ∷ []) x). inl (only_one k x one)) (λ (rest : Contains (y ∷ ys) x). inr rest) (Contains-append_cases (k ∷ []) (y ∷ ys) x there)
    by_order Equal there rec = inr there
    by_order Greater there rec = ⊎_elim
        (λ (one : Contains (y ∷ []) x). inr (Contains-append_left (y ∷ []) ys x one))
        (λ (rest : Contains (insert_key cell_cmp ys k) x). ⊎_elim (λ (same : x ≡ k). inl same) (λ (in_ys : Contains ys x). inr (Contains-append_right (y ∷ []) ys x in_ys)) (rec rest))
        (Contains-append_cases (y ∷ []) (insert_key cell_cmp ys k) x there)

found_key : (k : CellId) (ks : List CellId) → list_any (is_at (cell_cmp k)) ks ≡ true → Contains ks k
found_key k [] is = cc
found_key k (x ∷ xs) is = by_order (cell_cmp k x) refl is (λ later. Contains-append_right (x ∷ []) xs k (found_key k xs later))
  where
    by_order : (o : Ordering) → cell_cmp k x ≡ o → (is_eq o || list_any (is_at (cell_cmp k)) xs) ≡ true → (list_any (is_at (cell_cmp k)) xs ≡ true → Contains (x ∷ xs) k) → Contains (x ∷ xs) k
    by_order Less same any rec = rec any
    by_order Equal same any rec = Contains-append_left (x ∷ []) xs k (in_one x k (cell_cmp_exact k x same))
    by_order Greater same any rec = rec any

cell_cmp_total : IsTotalOrder cell_cmp
cell_cmp_total = then_total (on_total (λ (id : CellId). id.lib.0) nat_cmp_total) (on_total (λ (id : CellId). id.slot) nat_cmp_total)

key_found : (k : CellId) (ks : List CellId) → Member ks k → list_any (is_at (cell_cmp k)) ks ≡ true
key_found k [] has = absurd has
key_found k (x ∷ xs) has = elim has [
  | inl same ↦ ap (λ b. b || list_any (is_at (cell_cmp k)) xs) (ap (λ (y : CellId). is_eq (cell_cmp k y)) same ∙ (eq_by_cmp_equiv cell_cmp_total).refl k)
  | inr rest ↦ behind (is_eq (cell_cmp k x)) (list_any (is_at (cell_cmp k)) xs) (key_found k xs rest)
]
  where
    behind : (a b : Bool) → b ≡ true → (a || b) ≡ true
    behind true b is = refl
    behind false b is = is

insert_has : (ks : List CellId) (k : CellId) → Member (insert_key cell_cmp ks k) k
insert_has [] k = inl refl
insert_has (y ∷ ys) k = by_order (cell_cmp k y) refl (insert_has ys k)
  where
    by_order : (o : Ordering) → cell_cmp k y ≡ o → Member (insert_key cell_cmp ys k) k → Member (match_ordering o (k ∷ y ∷ ys) (y ∷ ys) (y ∷ insert_key cell_cmp ys k)) k
    by_order Less same rec = inl refl
    by_order Equal same rec = inl (sym (cell_cmp_exact k y same))
    by_order Greater same rec = inr rec

insert_keeps : (ks : List CellId) (k x : CellId) → Member ks x → Member (insert_key cell_cmp ks k) x
insert_keeps [] k x has = absurd has
insert_keeps (y ∷ ys) k x has = by_order (cell_cmp k y) has (λ later. insert_keeps ys k x later)
  where
    by_order : (o : Ordering) → Member (y ∷ ys) x → (Member ys x → Member (insert_key cell_cmp ys k) x) → Member (match_ordering o (k ∷ y ∷ ys) (y ∷ ys) (y ∷ insert_key cell_cmp ys k)) x
    by_order Less there rec = inr there
    by_order Equal there rec = there
    by_order Greater there rec = elim there [ inl first ↦ inl first | inr rest ↦ inr (rec rest) ]

-- nothing was seen yet
pub listed_none : (ks a : List CellId) → ks ≡ [] → a ≡ [] → IsListed ks a
listed_none ks a no_keys no_cells =
    subst (λ (xs : List CellId). IsListed xs a) (sym no_keys) (subst (λ (xs : List CellId). IsListed [] xs) (sym no_cells)
    (record { same = λ id. (λ has. has, λ has. has); once = λ i j d below within. absurd (omega arith) }))

-- a cell that was seen stands on the list, and one that was not does not
pub listed_held : (ks a : List CellId) (k : CellId) (added : Bool) → IsListed ks a → added ≡ not (list_any (is_at (cell_cmp k)) ks) → added ≡ false → Contains a k
listed_held ks a k added listed is old = (listed.same k).0 (found_key k ks (negated (list_any (is_at (cell_cmp k)) ks) (sym is ∙ old)))
  where
    negated : (b : Bool) → not b ≡ false → b ≡ true
    negated true e = refl
    negated false e = cc

listed_new : (ks a : List CellId) (k : CellId) (added : Bool) → IsListed ks a → added ≡ not (list_any (is_at (cell_cmp k)) ks) → added ≡ true → ¬ Contains a k
listed_new ks a k added listed is new has =
    let found = key_found k ks (Contains-member ks k ((listed.same k).1 has)) in
    let never : true ≡ false = sym new ∙ is ∙ ap not found in
    cc

distinct_more : (a : List CellId) (k : CellId) → AreDistinct a → ¬ Contains a k → AreDistinct (a ++ k ∷ [])
distinct_more a k once new =
    distinct_of (a ++ k ∷ []) (apart_more a k (recursion_from_All (λ y. y ≢ k) a (λ i d within same. new (subst (λ (y : CellId). Contains a y) same (Contains-get_or a i d within)))) (apart_of a once))

-- a new cell is put on the list, and for an old one the list stays
pub listed_more : (ks ls a b : List CellId) (k : CellId) (added : Bool) → IsListed ks a → ls ≡ insert_key cell_cmp ks k → added ≡ not (list_any (is_at (cell_cmp k)) ks) → added ≡ true → b ≡ a ++ k ∷ [] → IsListed ls b
listed_more ks ls a b k added listed keys is new pushed =
    subst (λ (xs : List CellId). IsListed xs b) (sym keys) (subst (λ (xs : List CellId). IsListed (insert_key cell_cmp ks k) xs) (sym pushed)
    (record { same = λ id. (there id, back id); once = distinct_more a k listed.once (listed_new ks a k added listed is new) }))
  where
    there : (id : CellId) → Contains (insert_key cell_cmp ks k) id → Contains (a ++ k ∷ []) id
    there id has = ⊎_elim
        (λ (same : id ≡ k). Contains-append_right a (k ∷ []) id (in_one k id same))
        (λ (old : Contains ks id). Contains-append_left a (k ∷ []) id ((listed.same id).0 old))
        (key_of_insert ks k id has)

    back : (id : CellId) → Contains (a ++ k ∷ []) id → Contains (insert_key cell_cmp ks k) id
    back id has = ⊎_elim
        (λ (old : Contains a id). Member-contains (insert_key cell_cmp ks k) id (insert_keeps ks k id (Contains-member ks id ((listed.same id).1 old))))
        (λ (one : Contains (k ∷ []) id). subst (λ (x : CellId). Contains (insert_key cell_cmp ks k) x) (sym (only_one k id one)) (Member-contains (insert_key cell_cmp ks k) k (insert_has ks k)))
        (Contains-append_cases a (k ∷ []) id has)

pub listed_again : (ks ls a : List CellId) (k : CellId) (added : Bool) → IsListed ks a → ls ≡ insert_key cell_cmp ks k → added ≡ not (list_any (is_at (cell_cmp k)) ks) → added ≡ false → IsListed ls a
listed_again ks ls a k added listed keys is old =
    subst (λ (xs : List CellId). IsListed xs a) (sym keys) (record { same = λ id. (there id, back id); once = listed.once })
  where
    there : (id : CellId) → Contains (insert_key cell_cmp ks k) id → Contains a id
    there id has = ⊎_elim
        (λ (same : id ≡ k). subst (λ (x : CellId). Contains a x) (sym same) (listed_held ks a k added listed is old))
        (λ (held : Contains ks id). (listed.same id).0 held)
        (key_of_insert ks k id has)

    back : (id : CellId) → Contains a id → Contains (insert_key cell_cmp ks k) id
    back id has = Member-contains (insert_key cell_cmp ks k) id (insert_keeps ks k id (Contains-member ks id ((listed.same id).1 has)))

-- ---- a list of different cells below a cell is no longer than the list of all that instances are of

abbrev placed_by : List CellBody → List CellId
placed_by [] = []
placed_by (body ∷ bodies) = map (λ inst. inst.of) (insts_of body) ++ placed_by bodies

abbrev pub all_placed : List Lib → List CellId
all_placed [] = []
all_placed (lib ∷ libs) = placed_by lib.cells ++ all_placed libs

by_cell : (cells : List CellBody) (k : ℕ) (id : CellId) → Member (map (λ (inst : Inst). inst.of) (option_map_or insts_of (slice_get cells k) [])) id → Member (placed_by cells) id
by_cell [] k id has = has
by_cell (body ∷ bodies) zero id has = Member-append_left (map (λ (inst : Inst). inst.of) (insts_of body)) (placed_by bodies) id has
by_cell (body ∷ bodies) (suc k) id has = Member-append_right (map (λ (inst : Inst). inst.of) (insts_of body)) (placed_by bodies) id (by_cell bodies k id has)

by_lib : (libs : List Lib) (i k : ℕ) (id : CellId) → Member (map (λ (inst : Inst). inst.of) (option_map_or insts_of (slice_get (option_map_or (λ (lib : Lib). lib.cells) (slice_get libs i) []) k) [])) id → Member (all_placed libs) id
by_lib [] i k id has = has
by_lib (lib ∷ libs) zero k id has = Member-append_left (placed_by lib.cells) (all_placed libs) id (by_cell lib.cells k id has)
by_lib (lib ∷ libs) (suc i) k id has = Member-append_right (placed_by lib.cells) (all_placed libs) id (by_lib libs i k id has)

is_placed : (d : Design) (inner id : CellId) → IsBelow d inner id → Member (all_placed d.libs) inner
is_placed d inner id (placed inst is) = by_lib d.libs id.lib.0 id.slot inst.of (Member-map (λ (i : Inst). i.of) (insts_at d id) inst (Contains-member (insts_at d id) inst is))
is_placed d inner id (deeper inst is rest) = is_placed d inner inst.of rest

few_of : (order cells : List CellId) → AreDistinct order → ((id : CellId) → Contains order id → Member cells id) → length order ≤ length cells
few_of order cells once all =
    let first : CellId = record { lib = record { 0 = 0 }; slot = 0 } in
    pigeons (λ k. get_or order k first) (length order) 0 cells
    (λ j k low less high same. let within : k < length order = omega (arith, high) in once j k first less within (sym same))
    (λ k low high. let within : k < length order = omega (arith, high) in all (get_or order k first) (Contains-get_or order k first within))

-- a place that goes up is nearer to a bound
pub is_less : (bound next count : ℕ) → next < count → count ≤ bound → bound - (next + 1) < bound - next
is_less bound next count less few = omega arith

pub few_below : (d : Design) (top : CellId) (order : List CellId) → AreDistinct order → ((id : CellId) → Contains order id → IsBelow d id top) → length order ≤ length (all_placed d.libs)
few_below d top order once all = few_of order (all_placed d.libs) once (λ id has. is_placed d id top (all id has))

-- ---- the walk

pub record IsWalked (s u : State) (from : CellId) (order : List CellId) (next : ℕ) : Type 0 where
  pub within : next ≤ length order
  pub starts : Contains order from
  pub below : (id : CellId) → Contains order id → IsAtOrBelow s.design from id
  pub closed : (id inner : CellId) → Contains (take next order) id → IsPlaced (insts_at s.design id) inner → Contains order inner
  pub read : HasRead s u (λ o. (id : CellId) × Contains (take next order) id × IsInside id o)

pub placed_inst : (insts : List Inst) (id : CellId) → IsPlaced insts id → (inst : Inst) × Contains insts inst × (inst.of ≡ id)
placed_inst [] id has = absurd (none_in id has)
placed_inst (x ∷ xs) id (zero, lt, is) = (x, (0, omega arith, refl), is)
placed_inst (x ∷ xs) id (suc k, lt, is) =
    let rest = placed_inst xs id (k, omega arith, is) in (rest.0, Contains-append_right (x ∷ []) xs rest.0 rest.1, rest.2)

pub placed_of : (insts : List Inst) (inst : Inst) → Contains insts inst → IsPlaced insts inst.of
placed_of [] inst has = absurd (none_in inst has)
placed_of (x ∷ xs) inst (zero, lt, is) = (0, omega arith, ap (λ (i : Inst). i.of) is)
placed_of (x ∷ xs) inst (suc k, lt, is) = Contains-append_right (x.of ∷ []) (map (λ (i : Inst). i.of) xs) inst.of (placed_of xs inst (k, omega arith, is))

below_of_placed : (d : Design) (from id inner : CellId) → IsAtOrBelow d from id → IsPlaced (insts_at d id) inner → IsAtOrBelow d from inner
below_of_placed d from id inner at is =
    let found = placed_inst (insts_at d id) inner is in
    let one : IsBelow d inner id = subst (λ (c : CellId). IsBelow d c id) found.2 (placed found.0 found.1) in
    ⊎_elim (λ (same : id ≡ from). inr (subst (λ (c : CellId). IsBelow d inner c) same one)) (λ (below : IsBelow d id from). inr (below_trans d one below)) at

-- ---- the walk begins, goes on by one cell, and ends

pub walk_begins : (s : State) (from : CellId) (order : List CellId) → GoesOn [] order (λ x. x ≡ from) → HasRead s s (λ o. ⊥) → IsWalked s s from order 0
walk_begins s from order goes read = record {
  within = omega arith;
  starts = (goes.cells from).1 (inr refl);
  below = λ id has. ⊎_elim (λ (never : Contains [] id). absurd (none_in id never)) (λ (same : id ≡ from). inl same) ((goes.cells id).0 has);
  closed = λ id inner has. absurd (none_in id has);
  read = record {
    base = read.base;
    design = read.design;
    written = read.written;
    reads = grows_by_same s.reads s.reads (λ o. ⊥) (λ o. (id : CellId) × Contains [] id × IsInside id o) read.reads (λ o. (λ never. absurd never, λ is. none_in is.0 is.1));
  };
}

insts_inside : (s u : State) (id : CellId) (contents : Option Contents) → u.design ≡ s.design → contents ≡ contents_at u.design id → insts_in contents ≡ insts_at s.design id
insts_inside s u id contents same is =
    ap insts_in (is ∙ ap (λ (d : Design). contents_at d id) same) ∙ insts_of_found (cell_at s.design id)

pub walk_goes_on : (s u v : State) (from : CellId) (order more : List CellId) (next : ℕ) (id : CellId) → IsWalked s u from order next → next < length order → id ≡ get_or order next id → HasRead u v (IsInside id) → GoesOn order more (IsPlaced (insts_in (contents_at u.design id))) → IsWalked s v from more (next + 1)
walk_goes_on s u v from order more next id walk lt is read goes = record {
  within = longer;
  starts = (goes.cells from).1 (inl walk.starts);
  below = λ c has. ⊎_elim
      (λ (old : Contains order c). walk.below c old)
      (λ (new : IsPlaced (insts_in (contents_at u.design id)) c). below_of_placed s.design from id c (walk.below id here) (subst (λ (insts : List Inst). IsPlaced insts c) insts new))
      ((goes.cells c).0 has);
  closed = λ c inner has is_in. ⊎_elim
      (λ (old : Contains (take next order) c). (goes.cells inner).1 (inl (walk.closed c inner old is_in)))
      (λ (one : Contains (id ∷ []) c). (goes.cells inner).1 (inr (subst (λ (insts : List Inst). IsPlaced insts inner) (sym insts) (subst (λ (x : CellId). IsPlaced (insts_at s.design x) inner) (only_one id c one) is_in))))
      (Contains-append_cases (take next order) (id ∷ []) c (subst (λ (xs : List CellId). Contains xs c) front has));
  read = read_then s u v (λ o. (c : CellId) × Contains (take next order) c × IsInside c o) (IsInside id) (λ o. (c : CellId) × Contains (take (next + 1) more) c × IsInside c o) walk.read read (λ o. (
    λ x. ⊎_elim
        (λ (old : (c : CellId) × Contains (take next order) c × IsInside c o). (old.0, subst (λ (xs : List CellId). Contains xs old.0) (sym front) (Contains-append_left (take next order) (id ∷ []) old.0 old.1), old.2))
        (λ (new : IsInside id o). (id, subst (λ (xs : List CellId). Contains xs id) (sym front) (Contains-append_right (take next order) (id ∷ []) id (in_one id id refl)), new)) x,
    λ x. ⊎_elim
        (λ (old : Contains (take next order) x.0). inl (x.0, old, x.2))
        (λ (one : Contains (id ∷ []) x.0). inr (subst (λ (c : CellId). IsInside c o) (only_one id x.0 one) x.2))
        (Contains-append_cases (take next order) (id ∷ []) x.0 (subst (λ (xs : List CellId). Contains xs x.0) front x.1)),
  ));
}
  where
    insts : insts_in (contents_at u.design id) ≡ insts_at s.design id
    insts = insts_inside s u id (contents_at u.design id) walk.read.design refl

    longer : next + 1 ≤ length more
    longer = let same = ap length goes.prefix.1 in let sum = length-append order goes.prefix.0 in omega arith

    front : take (next + 1) more ≡ take next order ++ id ∷ []
    front = ap (take (next + 1)) goes.prefix.1 ∙ take-append-le (next + 1) order goes.prefix.0 (omega arith) ∙ take_more order next id lt ∙ ap (λ (x : CellId). take next order ++ x ∷ []) (sym is)

    here : Contains order id
    here = (next, lt, sym is)

pub take_whole : {X : Type 0} (xs : List X) (i : ℕ) → length xs ≤ i → take i xs ≡ xs
take_whole [] zero past = refl
take_whole [] (suc i) past = refl
take_whole (x ∷ xs) zero past = absurd (omega arith)
take_whole {X} (x ∷ xs) (suc i) past = ap (λ (l : List X). x ∷ l) (take_whole xs i (omega arith))

all_below : (s u : State) (from : CellId) (order : List CellId) → ((id inner : CellId) → Contains order id → IsPlaced (insts_at s.design id) inner → Contains order inner) → (id inner : CellId) → Contains order id → IsBelow s.design inner id → Contains order inner
all_below s u from order closed id inner has (placed inst is) = closed id inst.of has (placed_of (insts_at s.design id) inst is)
all_below s u from order closed id inner has (deeper inst is rest) = all_below s u from order closed inst.of inner (closed id inst.of has (placed_of (insts_at s.design id) inst is)) rest

pub walk_ends : (s u : State) (from : CellId) (order : List CellId) (next : ℕ) → IsWalked s u from order next → length order ≤ next → ((id : CellId) → Contains order id ↔ IsAtOrBelow s.design from id) × HasRead s u (IsInsideBelow s.design from)
walk_ends s u from order next walk past = (
  all,
  record {
    base = walk.read.base;
    design = walk.read.design;
    written = walk.read.written;
    reads = grows_by_same s.reads u.reads (λ o. (id : CellId) × Contains (take next order) id × IsInside id o) (IsInsideBelow s.design from) walk.read.reads (λ o. (
      λ x. (x.0, (all x.0).0 (subst (λ (xs : List CellId). Contains xs x.0) whole x.1), x.2),
      λ x. (x.0, subst (λ (xs : List CellId). Contains xs x.0) (sym whole) ((all x.0).1 x.1), x.2),
    ));
  },
)
  where
    whole : take next order ≡ order
    whole = take_whole order next past

    closed : (id inner : CellId) → Contains order id → IsPlaced (insts_at s.design id) inner → Contains order inner
    closed id inner has is = walk.closed id inner (subst (λ (xs : List CellId). Contains xs id) (sym whole) has) is

    all : (id : CellId) → Contains order id ↔ IsAtOrBelow s.design from id
    all id = (walk.below id, λ at. ⊎_elim (λ (same : id ≡ from). subst (λ (c : CellId). Contains order c) (sym same) walk.starts) (λ (below : IsBelow s.design id from). all_below s u from order closed from id walk.starts below) at)

-- the list is no longer than that of the first cell and of all that instances are of
pub few_walked : (s u : State) (from : CellId) (order : List CellId) (next : ℕ) → IsWalked s u from order next → AreDistinct order → length order ≤ suc (length (all_placed s.design.libs))
few_walked s u from order next walk once = few_of order (from ∷ all_placed s.design.libs) once
    (λ id has. elim (walk.below id has) [ inl same ↦ inl (sym same) | inr below ↦ inr (is_placed s.design id from below) ])

-- what is inside, as it was lent
pub goes_inside : (a b : List CellId) (lent inside : Option Contents) → lent ≡ inside → GoesOn a b (IsPlaced (insts_in lent)) → GoesOn a b (IsPlaced (insts_in inside))
goes_inside a b lent inside same goes = subst (λ (c : Option Contents). GoesOn a b (IsPlaced (insts_in c))) same goes

pub walked_some : (s u v : State) (from : CellId) (order : List CellId) (next : ℕ) → IsWalked s u from order next → HasReadSome u v → HasReadSome s v
walked_some s u v from order next walk some = record {
  base = some.base ∙ walk.read.base;
  design = some.design ∙ walk.read.design;
  written = some.written ∙ walk.read.written;
  prefix = prefix_twice s.reads u.reads v.reads walk.read.reads.prefix some.prefix;
}
