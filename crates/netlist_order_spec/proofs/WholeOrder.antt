-- The order of each library of a valid design is a permutation of its slots.
use Rattle.std.proofs.Common.{◌≡◌, ◌≢◌, ℕ, zero, suc, ◌+◌, ◌<◌, ◌≤◌, List, [], ◌∷◌, ◌++◌, length, refl, ap, sym, ◌∙◌, subst, ⊎_elim, Bool, true, false, not, Some, arith, slice_get, slice_index_or}
use Rattle.std.specs.Prelude.{IsSome, ◌||◌, nat_eq}
use Rattle.std.specs.List.{AllByRecursion, Contains, list_all, list_any, range_with_len}
use Rattle.std.specs.List.Sorted.{IsPermutation}
use Rattle.std.specs.Option.{option_map_or}
use Rattle.std.proofs.lemmas.Bool.{and_parts, or_cases, or_parts, or_from, or_left, or_right, not-true, eqb-true, eq-eqb, cases_eq, false_from_ne_true, true_from_ne_false, and_from}
use Rattle.std.proofs.lemmas.Bool.Decides.{nat_tests}
use Rattle.std.proofs.lemmas.List.Elements.{All-from_recursion, recursion_from_All}
use Rattle.std.proofs.lemmas.List.Sorted.{IsPermutation-refl, IsPermutation-cons, IsPermutation-trans, IsPermutation-sym, IsPermutation-middle}
use Rattle.std.proofs.lemmas.Option.{get_or_from_slice_get, slice_get_within}
use Rattle.netlist_schema.specs.Hierarchy.{IsCell, HasInst, insts_at}
use Rattle.netlist_schema.specs.Valid.{IsValid}
use Rattle.netlist_schema.proofs.Cells.{All-slice_get}
use Rattle.netlist_schema.proofs.Ranks.{valid_is_ranked}
use Rattle.netlist_schema.proofs.Lists.{some_of, same_test}
use Rattle.netlist_order_spec.specs.Order.{is_written, is_ready, order_of}
use Rattle.netlist_order_spec.specs.After.{AllAfter}
use Rattle.netlist_schema.specs.Design.{Design, cell_at, insts_of}
use Rattle.netlist_schema.specs.Types.{CellBody, CellId, Inst, Lib}
use Rattle.netlist_order_spec.specs.InTime.{ComesInTime, NoneEarlier}
use Rattle.netlist_order_spec.proofs.Places.{any_append, lib_of_cell, range}
use Rattle.netlist_order_spec.proofs.Ready.{IsRank, StepReady, NoneReady, order_covers, order_ready, order_first}

-- the id of a cell
abbrev pub id_at : ℕ → ℕ → CellId
id_at own slot = record { lib = record { 0 = own }; slot = slot }

pub cell_found : (d : Design) (own slot : ℕ) (l : Lib) (c : CellBody) → slice_get d.libs own ≡ Some l → slice_get l.cells slot ≡ Some c → cell_at d (id_at own slot) ≡ Some c
cell_found d own slot l c e f = ap (λ o. slice_get (option_map_or (λ (x : Lib). x.cells) o []) slot) e ∙ f

-- an instance at a place of a cell is an instance of the cell
pub has_inst : (d : Design) (id : CellId) (c : CellBody) (j : ℕ) (i : Inst) → cell_at d id ≡ Some c → slice_get (insts_of c) j ≡ Some i → HasInst d id i
has_inst d id c j i e f =
    let same : insts_at d id ≡ insts_of c = ap (λ o. option_map_or insts_of o []) e in
    let P : List Inst → Type 0 = λ is. Contains is i in
    subst P (sym same) (j, slice_get_within (insts_of c) j i f, get_or_from_slice_get (insts_of c) j i i f)

same_number : (own : ℕ) (id : CellId) → id.lib.0 ≡ own → id_at own id.slot ≡ id
same_number own id e = λ i. record { lib = record { 0 = sym e i }; slot = id.slot }

-- a rank of the cells of a design ranks those of each library
pub valid_rank : (d : Design) (own : ℕ) (l : Lib) → IsValid d → slice_get d.libs own ≡ Some l → (rank : ℕ → ℕ) × IsRank own l.cells rank
valid_rank d own l v e =
    let ranked = valid_is_ranked d v in
    let rank : ℕ → ℕ = λ slot. ranked.0 (id_at own slot) in (
      rank,
      record {
        falls = λ s c j i f g h.
            let found : cell_at d (id_at own s) ≡ Some c = cell_found d own s l c e f in
            let less : ranked.0 i.of < ranked.0 (id_at own s) = ranked.1 (id_at own s) i (has_inst d (id_at own s) c j i found g) in
            let same : ranked.0 (id_at own i.of.slot) ≡ ranked.0 i.of = ap ranked.0 (same_number own i.of h) in
            let there : IsSome (cell_at d i.of) = All-slice_get (λ (x : Inst). IsCell d x.of) (insts_of c) j i (v.cells (id_at own s) c found).placed g in
            (slot_below own l i.of e h there, omega (arith, less, same));
      },
    )
  where
    slot_below : (own : ℕ) (l : Lib) (id : CellId) → slice_get d.libs own ≡ Some l → id.lib.0 ≡ own → IsSome (cell_at d id) → id.slot < length l.cells
    slot_below own l id e h there =
        let c = some_of (cell_at d id) there in
        let k = lib_of_cell d id c.0 c.1 in
        let s : Some k.0 ≡ Some l = sym k.1 ∙ (ap (slice_get d.libs) h ∙ e) in
        let w : k.0 ≡ l = cc s in
        slice_get_within l.cells id.slot c.0 (ap (λ (x : Lib). slice_get x.cells id.slot) (sym w) ∙ k.2)

-- tests and membership
pub contains_from_any : (s : ℕ) (xs : List ℕ) → list_any (nat_eq s) xs ≡ true → Contains xs s
contains_from_any s [] h = absurd (cc h)
contains_from_any s (x ∷ xs) h = ⊎_elim
    (λ (e : nat_eq s x ≡ true). (0, omega arith, sym (eqb-true s x e)))
    (λ (e : list_any (nat_eq s) xs ≡ true). let r = contains_from_any s xs e in (suc r.0, omega (arith, r.1), r.2))
    (or_cases (nat_eq s x) (list_any (nat_eq s) xs) h)

none_from_any : (s : ℕ) (xs : List ℕ) → list_any (nat_eq s) xs ≡ false → Contains xs s → ⊥
none_from_any s xs h k = at xs k.0 h k.1 k.2
  where
    at : (xs : List ℕ) (k : ℕ) → list_any (nat_eq s) xs ≡ false → k < length xs → slice_index_or xs k s ≡ s → ⊥
    at [] k h l e = omega arith
    at (x ∷ xs) zero h l e = let n = (or_parts (nat_eq s x) (list_any (nat_eq s) xs) h).0 in let y : nat_eq s x ≡ true = eq-eqb s x (sym e) in absurd (cc (n, y))
    at (x ∷ xs) (suc k) h l e = at xs k (or_parts (nat_eq s x) (list_any (nat_eq s) xs) h).1 (omega arith) e

children_written : (own : ℕ) (before : List ℕ) (is : List Inst) → list_all (is_written own before) is ≡ true → AllByRecursion (λ (i : Inst). i.of.lib.0 ≡ own → Contains before i.of.slot) is
children_written own before [] h = tt
children_written own before (i ∷ is) h =
    let t = and_parts (is_written own before i) (list_all (is_written own before) is) h in
    (λ same. contains_from_any i.of.slot before (written (nat_eq i.of.lib.0 own) (eq-eqb i.of.lib.0 own same) t.0), children_written own before is t.1)
  where
    written : (b : Bool) → b ≡ true → (not b || list_any (nat_eq i.of.slot) before) ≡ true → list_any (nat_eq i.of.slot) before ≡ true
    written true e h = h
    written false e h = absurd (cc e)

step_in_time : (own : ℕ) (cells : List CellBody) (before : List ℕ) (k : ℕ) → StepReady own cells before k → ComesInTime own cells before k
step_in_time own cells before k h =
    let t = and_parts (not (list_any (nat_eq k) before)) (list_all (is_written own before) (insts_of h.0)) h.2 in
    record {
      cell = h.0;
      there = h.1;
      new = none_from_any k before (not-true (list_any (nat_eq k) before) t.0);
      children = All-from_recursion (λ (i : Inst). i.of.lib.0 ≡ own → Contains before i.of.slot) (insts_of h.0) (children_written own before (insts_of h.0) t.1);
    }

pub after_weaker : {A : Type 0} (P Q : List A → A → Type 0) (before xs : List A) → ((b : List A) (x : A) → P b x → Q b x) → AllAfter P before xs → AllAfter Q before xs
after_weaker P Q before [] f h = tt
after_weaker P Q before (x ∷ xs) f h = (f before x h.0, after_weaker P Q (before ++ x ∷ []) xs f h.1)

pub order_in_time : (own : ℕ) (cells : List CellBody) → AllAfter (ComesInTime own cells) [] (order_of own cells)
order_in_time own cells = after_weaker (StepReady own cells) (ComesInTime own cells) [] (order_of own cells) (step_in_time own cells) (order_ready own cells (length cells) [])

-- what could come is ready
any_from_contains : (s : ℕ) (xs : List ℕ) → Contains xs s → list_any (nat_eq s) xs ≡ true
any_from_contains s xs h = true_from_ne_false (list_any (nat_eq s) xs) (λ e. none_from_any s xs e h)

written_from_children : (own : ℕ) (before : List ℕ) (is : List Inst) → AllByRecursion (λ (i : Inst). i.of.lib.0 ≡ own → Contains before i.of.slot) is → list_all (is_written own before) is ≡ true
written_from_children own before [] h = refl
written_from_children own before (i ∷ is) h = and_from (is_written own before i) (list_all (is_written own before) is) (go (nat_eq i.of.lib.0 own) refl) (written_from_children own before is h.1)
  where
    go : (b : Bool) → nat_eq i.of.lib.0 own ≡ b → (not b || list_any (nat_eq i.of.slot) before) ≡ true
    go true e = any_from_contains i.of.slot before (h.0 (eqb-true i.of.lib.0 own e))
    go false e = refl

time_is_ready : (own : ℕ) (cells : List CellBody) (before : List ℕ) (k : ℕ) (h : ComesInTime own cells before k) → is_ready own before k h.cell ≡ true
time_is_ready own cells before k h = and_from (not (list_any (nat_eq k) before)) (list_all (is_written own before) (insts_of h.cell))
    (ap not (false_from_ne_true (list_any (nat_eq k) before) (λ e. h.new (contains_from_any k before e))))
    (written_from_children own before (insts_of h.cell) (recursion_from_All (λ (i : Inst). i.of.lib.0 ≡ own → Contains before i.of.slot) (insts_of h.cell) h.children))

step_first : (own : ℕ) (cells : List CellBody) (before : List ℕ) (k : ℕ) → NoneReady own cells before k → NoneEarlier own cells before k
step_first own cells before k h t l time = let g : true ≡ false = sym (time_is_ready own cells before t time) ∙ h t time.cell l time.there in absurd (cc g)

pub order_none_earlier : (own : ℕ) (cells : List CellBody) → AllAfter (NoneEarlier own cells) [] (order_of own cells)
order_none_earlier own cells = after_weaker (NoneReady own cells) (NoneEarlier own cells) [] (order_of own cells) (step_first own cells) (order_first own cells (length cells) [])

-- no number stands twice
abbrev pub IsNew : List ℕ → Type 0
IsNew [] = Unit {0}
IsNew (x ∷ xs) = (list_any (nat_eq x) xs ≡ false) × IsNew xs

-- a number that is there stands between others
parted : (s : ℕ) (ys : List ℕ) → list_any (nat_eq s) ys ≡ true → (front : List ℕ) × (back : List ℕ) × (ys ≡ front ++ s ∷ back)
parted s [] h = absurd (cc h)
parted s (y ∷ ys) h = ⊎_elim
    (λ (e : nat_eq s y ≡ true). ([], ys, ap (λ v. v ∷ ys) (sym (eqb-true s y e))))
    (λ (e : list_any (nat_eq s) ys ≡ true). let r = parted s ys e in (y ∷ r.0, r.1, ap (λ v. y ∷ v) r.2))
    (or_cases (nat_eq s y) (list_any (nat_eq s) ys) h)

-- a test of a list fails on both its parts
both_fail : (p : ℕ → Bool) (a b : List ℕ) → list_any p (a ++ b) ≡ false → (list_any p a ≡ false) × (list_any p b ≡ false)
both_fail p a b h = or_parts (list_any p a) (list_any p b) (sym (any_append p a b) ∙ h)

none_fails : (p : ℕ → Bool) (a b : List ℕ) → list_any p a ≡ false → list_any p b ≡ false → list_any p (a ++ b) ≡ false
none_fails p a b h k = any_append p a b ∙ or_from (list_any p a) (list_any p b) h k

-- without the number in the middle
without : (s : ℕ) (front back : List ℕ) → IsNew (front ++ s ∷ back) → IsNew (front ++ back) × (list_any (nat_eq s) (front ++ back) ≡ false)
without s [] back h = (h.1, h.0)
without s (x ∷ front) back h =
    let t = both_fail (nat_eq x) front (s ∷ back) h.0 in
    let u = or_parts (nat_eq x s) (list_any (nat_eq x) back) t.1 in
    let r = without s front back h.1 in
    let n : nat_eq s x ≡ false = grind (arith, nat_tests) in
    ((none_fails (nat_eq x) front back t.0 u.1, r.0), or_from (nat_eq s x) (list_any (nat_eq s) (front ++ back)) n r.1)

-- a number that differs from the one in the middle
other_member : (s x : ℕ) (front back : List ℕ) → nat_eq s x ≡ false → list_any (nat_eq s) (front ++ x ∷ back) ≡ list_any (nat_eq s) (front ++ back)
other_member s x front back n =
    let e : (nat_eq s x || list_any (nat_eq s) back) ≡ list_any (nat_eq s) back = ap (λ b. b || list_any (nat_eq s) back) n in
    any_append (nat_eq s) front (x ∷ back) ∙ (ap (λ b. list_any (nat_eq s) front || b) e ∙ sym (any_append (nat_eq s) front back))

-- lists in which no number stands twice, and which have the same numbers, are permutations of each other
permuted : (xs ys : List ℕ) → IsNew xs → IsNew ys → ((s : ℕ) → list_any (nat_eq s) xs ≡ list_any (nat_eq s) ys) → IsPermutation xs ys
permuted [] [] h k same = IsPermutation-refl []
permuted [] (y ∷ ys) h k same =
    let e : nat_eq y y ≡ true = eq-eqb y y refl in
    let f : list_any (nat_eq y) (y ∷ ys) ≡ true = ap (λ b. b || list_any (nat_eq y) ys) e in
    let g : false ≡ true = same y ∙ f in absurd (cc g)
permuted (x ∷ xs) ys h k same =
    let e : nat_eq x x ≡ true = eq-eqb x x refl in
    let there : list_any (nat_eq x) ys ≡ true = sym (same x) ∙ ap (λ b. b || list_any (nat_eq x) xs) e in
    let p = parted x ys there in
    let k' : IsNew (p.0 ++ x ∷ p.1) = subst (λ v. IsNew v) p.2 k in
    let w = without x p.0 p.1 k' in
    let rest : IsPermutation xs (p.0 ++ p.1) = permuted xs (p.0 ++ p.1) h.1 w.0 (λ s. member (nat_eq s x) s (p.0) (p.1) refl w.1 (same s ∙ ap (λ v. list_any (nat_eq s) v) p.2)) in
    let all : IsPermutation (x ∷ xs) (p.0 ++ x ∷ p.1) = IsPermutation-trans (x ∷ xs) (x ∷ (p.0 ++ p.1)) (p.0 ++ x ∷ p.1) (IsPermutation-cons x xs (p.0 ++ p.1) rest)
    (IsPermutation-sym (p.0 ++ x ∷ p.1) (x ∷ (p.0 ++ p.1)) (IsPermutation-middle p.0 x p.1)) in
    subst (λ v. IsPermutation (x ∷ xs) v) (sym p.2) all
  where
    member : (b : Bool) (s : ℕ) (front back : List ℕ) → nat_eq s x ≡ b → list_any (nat_eq x) (front ++ back) ≡ false → (nat_eq s x || list_any (nat_eq s) xs) ≡ list_any (nat_eq s) (front ++ x ∷ back) → list_any (nat_eq s) xs ≡ list_any (nat_eq s) (front ++ back)
    member true s front back e n m =
        let q : x ≡ s = sym (eqb-true s x e) in
        ap (λ v. list_any (nat_eq v) xs) (sym q) ∙ (h.0 ∙ (sym n ∙ ap (λ v. list_any (nat_eq v) (front ++ back)) q))
    member false s front back e n m = ap (λ b. b || list_any (nat_eq s) xs) (sym e) ∙ (m ∙ other_member s x front back e)

-- each slot comes when it was not there
any_in : (k : ℕ) (a b : List ℕ) → list_any (nat_eq k) a ≡ true → list_any (nat_eq k) (a ++ b) ≡ true
any_in k a b h = any_append (nat_eq k) a b ∙ or_left (list_any (nat_eq k) a) (list_any (nat_eq k) b) h

any_end : (k : ℕ) (a : List ℕ) → list_any (nat_eq k) (a ++ k ∷ []) ≡ true
any_end k a =
    let e : nat_eq k k ≡ true = eq-eqb k k refl in
    any_append (nat_eq k) a (k ∷ []) ∙ or_right (list_any (nat_eq k) a) (nat_eq k k || false) (ap (λ b. b || false) e)

pub step_new : (own : ℕ) (cells : List CellBody) (before : List ℕ) (k : ℕ) → StepReady own cells before k → list_any (nat_eq k) before ≡ false
step_new own cells before k h = not-true (list_any (nat_eq k) before) (and_parts (not (list_any (nat_eq k) before)) (list_all (is_written own before) (insts_of h.0)) h.2).0

other_slot : (s k : ℕ) (before : List ℕ) → list_any (nat_eq s) before ≡ true → list_any (nat_eq k) before ≡ false → nat_eq s k ≡ false
other_slot s k before h n = false_from_ne_true (nat_eq s k) (λ e.
    let q : s ≡ k = eqb-true s k e in
    let g : true ≡ false = sym h ∙ (ap (λ v. list_any (nat_eq v) before) q ∙ n) in absurd (cc g))

pub new_after : (own : ℕ) (cells : List CellBody) (before o : List ℕ) → AllAfter (StepReady own cells) before o → IsNew o × ((s : ℕ) → list_any (nat_eq s) before ≡ true → list_any (nat_eq s) o ≡ false)
new_after own cells before [] h = (tt, λ s k. refl)
new_after own cells before (k ∷ o) h =
    let r = new_after own cells (before ++ k ∷ []) o h.1 in
    let n = step_new own cells before k h.0 in
    ((r.1 k (any_end k before), r.0), λ s t. or_from (nat_eq s k) (list_any (nat_eq s) o) (other_slot s k before t n) (r.1 s (any_in s before (k ∷ []) t)))

pub below_after : (own : ℕ) (cells : List CellBody) (before o : List ℕ) (s : ℕ) → AllAfter (StepReady own cells) before o → list_any (nat_eq s) o ≡ true → s < length cells
below_after own cells before [] s h k = absurd (cc k)
below_after own cells before (x ∷ o) s h k = ⊎_elim
    (λ (e : nat_eq s x ≡ true). slice_get_within cells s h.0.0 (ap (slice_get cells) (eqb-true s x e) ∙ h.0.1))
    (λ (e : list_any (nat_eq s) o ≡ true). below_after own cells (before ++ x ∷ []) o s h.1 e)
    (or_cases (nat_eq s x) (list_any (nat_eq s) o) k)

-- the numbers of a range
range_above : (s k n : ℕ) → list_any (nat_eq s) (range k n) ≡ true → (k ≤ s) × (s < k + n)
range_above s k zero h = absurd (cc h)
range_above s k (suc n) h = ⊎_elim
    (λ (e : nat_eq s k ≡ true). let q : s ≡ k = eqb-true s k e in (omega arith, omega arith))
    (λ (e : list_any (nat_eq s) (range (suc k) n) ≡ true). let r = range_above s (suc k) n e in let a : suc k ≤ s = r.0 in let b : s < suc k + n = r.1 in (omega arith, omega arith))
    (or_cases (nat_eq s k) (list_any (nat_eq s) (range (suc k) n)) h)

in_range : (s k n : ℕ) → k ≤ s → s < k + n → list_any (nat_eq s) (range k n) ≡ true
in_range s k zero l m = absurd (omega arith)
in_range s k (suc n) l m = ⊎_elim
    (λ (e : s ≡ k). or_left (nat_eq s k) (list_any (nat_eq s) (range (suc k) n)) (eq-eqb s k e))
    (λ (e : s ≢ k). or_right (nat_eq s k) (list_any (nat_eq s) (range (suc k) n)) (in_range s (suc k) n (omega arith) (omega arith)))
    (cases_eq s k)

range_new : (k n : ℕ) → IsNew (range k n)
range_new k zero = tt
range_new k (suc n) = (false_from_ne_true (list_any (nat_eq k) (range (suc k) n)) (λ e. let r = range_above k (suc k) n e in let a : suc k ≤ k = r.0 in absurd (omega arith)), range_new (suc k) n)

range_is : (k n : ℕ) → range k n ≡ range_with_len k n
range_is k zero = refl
range_is k (suc n) = ap (λ v. k ∷ v) (range_is (suc k) n ∙ (let e : suc k ≡ k + 1 = omega arith in ap (λ m. range_with_len m n) e))

pub order_permutes : (d : Design) (own : ℕ) (l : Lib) → IsValid d → slice_get d.libs own ≡ Some l → IsPermutation (range_with_len 0 (length l.cells)) (order_of own l.cells)
order_permutes d own l v e =
    let r = valid_rank d own l v e in
    let ready = order_ready own l.cells (length l.cells) [] in
    subst (λ xs. IsPermutation xs (order_of own l.cells)) (range_is 0 (length l.cells)) (permuted (range 0 (length l.cells)) (order_of own l.cells) (range_new 0 (length l.cells)) (new_after own l.cells [] (order_of own l.cells) ready).0
    (λ s. same_test (list_any (nat_eq s) (range 0 (length l.cells))) (list_any (nat_eq s) (order_of own l.cells))
    (λ h. let b = range_above s 0 (length l.cells) h in let c : s < 0 + length l.cells = b.1 in order_covers own l.cells r.0 r.1 s (omega arith))
    (λ h. let b : s < length l.cells = below_after own l.cells [] (order_of own l.cells) s ready h in in_range s 0 (length l.cells) (omega arith) (omega arith))))
