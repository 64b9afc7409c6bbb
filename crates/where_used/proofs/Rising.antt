-- Lists of uses in order: the place of a use, and what stays in order.
use Rattle.std.proofs.Common.{◌≡◌, ◌-◌, ◌++◌, ◌<◌, ◌≤◌, ◌⊎◌, inl, inr, ℕ, zero, suc, arith, Bool, true, false, cond, List, [], ◌∷◌, ◌++◌, Ok, Err, drop, take, get_or, length, map, refl, sym, ap, subst, ◌∙◌}
use Rattle.std.specs.Prelude.{OnErr, OnOk, Result, nat_eq, nat_lt}
use Rattle.std.specs.List.{AllByRecursion, range_with_len}
use Rattle.std.specs.List.Sorted.{IsPartitionedBy}
use Rattle.std.proofs.lemmas.Bool.{cases_order, eq-eqb}
use Rattle.std.proofs.lemmas.Bool.Decides.{nat_tests}
use Rattle.netlist_schema.specs.Design.{Design}
use Rattle.netlist_schema.specs.Types.{CellId, LibId}
use Rattle.netlist_schema.proofs.Lists.{all_append}
use Rattle.edit_rules_spec.specs.Edit.{changed_at}
use Rattle.used_spec.specs.Uses.{comes_before, count_in, ids_of, users, uses}
use Rattle.used_spec.specs.declared.used_at.UsedAt.{UsedAt}
use Rattle.used_spec.proofs.InOrder.{Rises, lt_true, ne_false, users_rise}
use Rattle.where_used.specs.Rows.{IsIndex, IsRising, IsRow, drop_in, drop_use, place_of, put_in, put_use, with_row, without_last, without_row}

-- ---- what does not come before another

lt_false : (a b : ℕ) → b ≤ a → nat_lt a b ≡ false
lt_false a b h = grind (arith, nat_tests)

no_lt : (a b : ℕ) → nat_lt a b ≡ false → b ≤ a
no_lt a b h = grind (arith, nat_tests)

yes_lt : (a b : ℕ) → nat_lt a b ≡ true → a < b
yes_lt a b h = grind (arith, nat_tests)

-- by the first numbers that differ
abbrev two : ℕ → ℕ → Bool → Bool
two s t b = cond (nat_eq s t) b (nat_lt s t)

abbrev Falls : ℕ → ℕ → Type 0 → Type 0
Falls s t P = (t < s) ⊎ ((s ≡ t) × P)

two_same : (s t : ℕ) (b : Bool) → s ≡ t → two s t b ≡ b
two_same s t b same = ap (λ v. cond v b (nat_lt s t)) (eq-eqb s t same)

two_less : (s t : ℕ) (b : Bool) → s < t → two s t b ≡ true
two_less s t b less = ap (λ v. cond v b (nat_lt s t)) (ne_false s t (λ same. omega (arith, same, less))) ∙ lt_true s t less

two_more : (s t : ℕ) (b : Bool) → t < s → two s t b ≡ false
two_more s t b more = ap (λ v. cond v b (nat_lt s t)) (ne_false s t (λ same. omega (arith, same, more))) ∙ lt_false s t (omega (arith, more))

falls : (s t : ℕ) (b : Bool) (P : Type 0) → (b ≡ false → P) → two s t b ≡ false → Falls s t P
falls s t b P f e = go (cases_order s t)
  where
    go : (s ≡ t) ⊎ ((s < t) ⊎ (t < s)) → Falls s t P
    go (inl same) = inr (same, f (sym (two_same s t b same) ∙ e))
    go (inr (inl less)) = let no : true ≡ false = sym (two_less s t b less) ∙ e in absurd (cc no)
    go (inr (inr more)) = inl more

not_two : (s t : ℕ) (b : Bool) (P : Type 0) → (P → b ≡ false) → Falls s t P → two s t b ≡ false
not_two s t b P f (inl more) = two_more s t b more
not_two s t b P f (inr (same, p)) = two_same s t b same ∙ f p

-- the other way round
turned : (s t : ℕ) (b : Bool) (P : Type 0) → (b ≡ true → P) → two s t b ≡ true → Falls t s P
turned s t b P f e = go (cases_order s t)
  where
    go : (s ≡ t) ⊎ ((s < t) ⊎ (t < s)) → Falls t s P
    go (inl same) = inr (sym same, f (sym (two_same s t b same) ∙ e))
    go (inr (inl less)) = inl less
    go (inr (inr more)) = let no : false ≡ true = sym (two_more s t b more) ∙ e in absurd (cc no)

both : (a b c : ℕ) (P Q R : Type 0) → (P → Q → R) → Falls a b P → Falls b c Q → Falls a c R
both a b c P Q R f (inl m) (inl n) = inl (omega (arith, m, n))
both a b c P Q R f (inl m) (inr (e, q)) = inl (omega (arith, m, e))
both a b c P Q R f (inr (e, p)) (inl n) = inl (omega (arith, e, n))
both a b c P Q R f (inr (e, p)) (inr (g, q)) = inr (e ∙ g, f p q)

abbrev Behind : UsedAt → UsedAt → Type 0
Behind a b = Falls a.cell.lib.0 b.cell.lib.0 (Falls a.cell.slot b.cell.slot (b.inst ≤ a.inst))

behind : (a b : UsedAt) → comes_before a b ≡ false → Behind a b
behind a b e = falls a.cell.lib.0 b.cell.lib.0 (two a.cell.slot b.cell.slot (nat_lt a.inst b.inst)) (Falls a.cell.slot b.cell.slot (b.inst ≤ a.inst))
    (falls a.cell.slot b.cell.slot (nat_lt a.inst b.inst) (b.inst ≤ a.inst) (no_lt a.inst b.inst)) e

not_before : (a b : UsedAt) → Behind a b → comes_before a b ≡ false
not_before a b h = not_two a.cell.lib.0 b.cell.lib.0 (two a.cell.slot b.cell.slot (nat_lt a.inst b.inst)) (Falls a.cell.slot b.cell.slot (b.inst ≤ a.inst))
    (not_two a.cell.slot b.cell.slot (nat_lt a.inst b.inst) (b.inst ≤ a.inst) (lt_false a.inst b.inst)) h

-- what comes before does not come behind
one_way : (a b : UsedAt) → comes_before a b ≡ true → comes_before b a ≡ false
one_way a b e = not_before b a
    (turned a.cell.lib.0 b.cell.lib.0 (two a.cell.slot b.cell.slot (nat_lt a.inst b.inst)) (Falls b.cell.slot a.cell.slot (a.inst ≤ b.inst))
    (turned a.cell.slot b.cell.slot (nat_lt a.inst b.inst) (a.inst ≤ b.inst) (λ t. (let less = yes_lt a.inst b.inst t in omega (arith, less)))) e)

-- and what is behind what is behind is behind
further : (a b c : UsedAt) → comes_before a b ≡ false → comes_before b c ≡ false → comes_before a c ≡ false
further a b c e f = not_before a c
    (both a.cell.lib.0 b.cell.lib.0 c.cell.lib.0 (Falls a.cell.slot b.cell.slot (b.inst ≤ a.inst)) (Falls b.cell.slot c.cell.slot (c.inst ≤ b.inst)) (Falls a.cell.slot c.cell.slot (c.inst ≤ a.inst))
    (both a.cell.slot b.cell.slot c.cell.slot (b.inst ≤ a.inst) (c.inst ≤ b.inst) (c.inst ≤ a.inst) (λ p q. omega (arith, p, q)))
    (behind a b e) (behind b c f))

-- ---- the place of a use

all_get : (P : UsedAt → Type 0) (us : List UsedAt) → AllByRecursion P us → (i : ℕ) (d : UsedAt) → i < length us → P (get_or us i d)
all_get P [] h i d within = absurd (omega arith)
all_get P (u ∷ us) h zero d within = h.0
all_get P (u ∷ us) h (suc i) d within = all_get P us h.1 i d (omega arith)

no_true : (b : Bool) → b ≡ true → b ≡ false → ⊥
no_true b e f = let no : true ≡ false = sym e ∙ f in cc no

by_case : (b : Bool) → (b ≡ false → ⊥) → b ≡ true
by_case true f = refl
by_case false f = absurd (f refl)

-- those that come before a use are in front of those that do not
pub searchable : (at : UsedAt) (us : List UsedAt) → IsRising us → IsPartitionedBy (λ u. comes_before u at) us
searchable at [] h i j d le within e = absurd (omega arith)
searchable at (u ∷ us) h zero zero d le within e = e
searchable at (u ∷ us) h zero (suc j) d le within e = by_case (comes_before u at) (λ no.
    no_true (comes_before (get_or us j d) at) e (further (get_or us j d) u at (all_get (λ v. comes_before v u ≡ false) us h.0 j d (omega arith)) no))
searchable at (u ∷ us) h (suc i) zero d le within e = absurd (omega arith)
searchable at (u ∷ us) h (suc i) (suc j) d le within e = searchable at us h.1 i j d (omega arith) (omega arith) e

pub place_is : (at : UsedAt) (us : List UsedAt) (i : ℕ) → i ≤ length us → ((k : ℕ) (d : UsedAt) → k < i → comes_before (get_or us k d) at ≡ true) → ((k : ℕ) (d : UsedAt) → i ≤ k → k < length us → comes_before (get_or us k d) at ≡ false)
    → i ≡ place_of at us
place_is at [] i within low high = omega (arith, within)
place_is at (u ∷ us) zero within low high = sym (ap (λ b. cond b (suc (place_of at us)) 0) (high 0 u (omega arith) (omega arith)))
place_is at (u ∷ us) (suc i) within low high =
    ap suc (place_is at us i (omega arith) (λ k d less. low (suc k) d (omega arith)) (λ k d le less. high (suc k) d (omega arith) (omega arith)))
    ∙ sym (ap (λ b. cond b (suc (place_of at us)) 0) (low 0 u (omega arith)))

-- ---- what stays in order

all_inserted : (P : UsedAt → Type 0) (k : ℕ) (us : List UsedAt) (at : UsedAt) → P at → AllByRecursion P us → AllByRecursion P (take k us ++ at ∷ drop k us)
all_inserted P zero us at p h = (p, h)
all_inserted P (suc k) [] at p h = (p, tt)
all_inserted P (suc k) (u ∷ us) at p h = (h.0, all_inserted P k us at p h.1)

all_removed : (P : UsedAt → Type 0) (k : ℕ) (us : List UsedAt) → AllByRecursion P us → AllByRecursion P (take k us ++ drop (suc k) us)
all_removed P zero [] h = tt
all_removed P (suc k) [] h = tt
all_removed P zero (u ∷ us) h = h.1
all_removed P (suc k) (u ∷ us) h = (h.0, all_removed P k us h.1)

all_weaken : (P Q : UsedAt → Type 0) (us : List UsedAt) → ((u : UsedAt) → P u → Q u) → AllByRecursion P us → AllByRecursion Q us
all_weaken P Q [] f h = tt
all_weaken P Q (u ∷ us) f h = (f u h.0, all_weaken P Q us f h.1)

put_rising : (at : UsedAt) (us : List UsedAt) → IsRising us → IsRising (put_use at us)
put_rising at [] h = (tt, tt)
put_rising at (u ∷ us) h = go (comes_before u at) refl (put_rising at us h.1)
  where
    go : (b : Bool) → comes_before u at ≡ b → IsRising (put_use at us) → IsRising (take (cond b (suc (place_of at us)) 0) (u ∷ us) ++ at ∷ drop (cond b (suc (place_of at us)) 0) (u ∷ us))
    go true e rest = (all_inserted (λ v. comes_before v u ≡ false) (place_of at us) us at (one_way u at e) h.0, rest)
    go false e rest = ((e, all_weaken (λ v. comes_before v u ≡ false) (λ v. comes_before v at ≡ false) us (λ v no. further v u at no e) h.0), h)

removed_rising : (k : ℕ) (us : List UsedAt) → IsRising us → IsRising (take k us ++ drop (suc k) us)
removed_rising zero [] h = tt
removed_rising (suc k) [] h = tt
removed_rising zero (u ∷ us) h = h.1
removed_rising (suc k) (u ∷ us) h = (all_removed (λ v. comes_before v u ≡ false) k us h.0, removed_rising k us h.1)

drop_rising : (at : UsedAt) (us : List UsedAt) → IsRising us → IsRising (drop_use at us)
drop_rising at us h = removed_rising (place_of at us) us h

all_changed : {A : Type 0} (P : A → Type 0) (f : A → A) (i : ℕ) (xs : List A) → ((x : A) → P x → P (f x)) → AllByRecursion P xs → AllByRecursion P (changed_at f i xs)
all_changed P f i [] keeps h = tt
all_changed P f zero (x ∷ xs) keeps h = (keeps x h.0, h.1)
all_changed P f (suc i) (x ∷ xs) keeps h = (h.0, all_changed P f i xs keeps h.1)

put_index : (of : CellId) (at : UsedAt) (index : List (List (List UsedAt))) → IsIndex index → IsIndex (put_in of at index)
put_index of at index h = all_changed IsRow (λ cells. changed_at (put_use at) of.slot cells) of.lib.0 index (λ cells is. all_changed IsRising (put_use at) of.slot cells (put_rising at) is) h

pub drop_index : (of : CellId) (at : UsedAt) (index : List (List (List UsedAt))) → IsIndex index → IsIndex (drop_in of at index)
drop_index of at index h = all_changed IsRow (λ cells. changed_at (drop_use at) of.slot cells) of.lib.0 index (λ cells is. all_changed IsRising (drop_use at) of.slot cells (drop_rising at) is) h

-- a list more in a library, and the last one less
with_row_index : (lib : LibId) (index : List (List (List UsedAt))) → IsIndex index → IsIndex (with_row lib index)
with_row_index lib index h = all_changed IsRow (λ cells. cells ++ [] ∷ []) lib.0 index (λ cells is. all_append IsRising cells ([] ∷ []) is (tt, tt)) h

taken_row : (n : ℕ) (cells : List (List UsedAt)) → IsRow cells → IsRow (take n cells)
taken_row zero [] h = tt
taken_row zero (us ∷ cells) h = tt
taken_row (suc n) [] h = tt
taken_row (suc n) (us ∷ cells) h = (h.0, taken_row n cells h.1)

pub without_row_index : (lib : LibId) (index : List (List (List UsedAt))) → IsIndex index → IsIndex (without_row lib index)
without_row_index lib index h = all_changed IsRow without_last lib.0 index (λ cells is. taken_row (length cells - 1) cells is) h

-- ---- the index of a design

still_rising : (us : List UsedAt) → Rises us → IsRising us
still_rising [] h = tt
still_rising (u ∷ us) h = (all_weaken (λ v. comes_before u v ≡ true) (λ v. comes_before v u ≡ false) us (λ v. one_way u v) h.0, still_rising us h.1)

all_mapped : {A B : Type 0} (P : B → Type 0) (f : A → B) (xs : List A) → ((x : A) → P (f x)) → AllByRecursion P (map f xs)
all_mapped P f [] g = tt
all_mapped P f (x ∷ xs) g = (g x, all_mapped P f xs g)

pub uses_index : (d : Design) → IsIndex (uses d)
uses_index d = all_mapped IsRow (λ lib. map (users d) (ids_of lib (count_in d lib))) (range_with_len 0 (length d.libs))
    (λ lib. all_mapped IsRising (users d) (ids_of lib (count_in d lib)) (λ cell. still_rising (users d cell) (users_rise d cell)))

-- either way the lists stay in order
pub put_or_not : {T E : Type 0} (r : Result T E) (of : CellId) (at : UsedAt) (old new : List (List (List UsedAt))) → OnOk r (new ≡ put_in of at old) → OnErr r (new ≡ old) → IsIndex old → IsIndex new
put_or_not (Ok x) of at old new ok err h = subst IsIndex (sym ok) (put_index of at old h)
put_or_not (Err e) of at old new ok err h = subst IsIndex (sym err) h

pub row_or_not : {T E : Type 0} (r : Result T E) (lib : LibId) (old new : List (List (List UsedAt))) → OnOk r (new ≡ with_row lib old) → OnErr r (new ≡ old) → IsIndex old → IsIndex new
row_or_not (Ok x) lib old new ok err h = subst IsIndex (sym ok) (with_row_index lib old h)
row_or_not (Err e) lib old new ok err h = subst IsIndex (sym err) h
