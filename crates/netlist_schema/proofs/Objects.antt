-- Objects are told apart by kind and number, and their order is total: what the crates above know of it.
use Rattle.std.proofs.Common.{◌≡◌, ℕ, zero, suc, ◌<◌, ◌≤◌, ◌⊎◌, List, [], ◌∷◌, inl, inr, ⊎_elim, Option, true, refl, sym, ◌∙◌, ap, subst, arith}
use Rattle.std.specs.Prelude.{IsTrue, length, slice_index_or}
use Rattle.std.specs.declared.cmp.Ordering.{Ordering}
use Rattle.std.specs.declared.cmp.Ordering.TheVariants.{Less, Equal, Greater}
use Rattle.std.specs.Ordering.{MatchOrdering, nat_cmp, ordering_then, ordering_reverse, is_le, eq_by_cmp, is_eq}
use Rattle.std.specs.BTreeMap.{BTreeMap, get, Updates, IsOrdered}
use Rattle.std.specs.Cmp.{IsTotalOrder, nat_cmp_total, tied_itself}
use Rattle.std.specs.List.{Contains}
use Rattle.std.specs.FinMap.{IsAntisymmetric, nat_cmp-IsAntisymmetric}
use Rattle.std.proofs.lemmas.Bool.{false≢true}
use Rattle.std.proofs.lemmas.Cmp.{on_total, then_total, ranked}
use Rattle.netlist_schema.specs.Order.{cell_cmp, object_cmp, object_kind, object_number}
use Rattle.netlist_schema.specs.contracts.ids.ObjectOrd.TheImpl as derived
use Rattle.netlist_schema.specs.declared.ids.CellId.{CellId}
use Rattle.netlist_schema.specs.declared.ids.Object.{Object}
use Rattle.netlist_schema.specs.declared.ids.Object.TheVariants.{Directory, Interface, Contents, Notes}

-- the object of this kind and number
abbrev object_of : ℕ → CellId → Object
object_of zero id = Directory id.lib
object_of (suc zero) id = Interface id
object_of (suc (suc zero)) id = Contents id
object_of (suc (suc (suc n))) id = Notes

is_object_of : (o : Object) → object_of (object_kind o) (object_number o) ≡ o
is_object_of (Directory lib) = refl
is_object_of (Interface id) = refl
is_object_of (Contents id) = refl
is_object_of Notes = refl

-- objects of one kind and number are one
pub one_object : (a b : Object) → object_kind a ≡ object_kind b → object_number a ≡ object_number b → a ≡ b
one_object a b kinds numbers = sym (is_object_of a) ∙ (λ i. object_of (kinds i) (numbers i)) ∙ is_object_of b

-- ---- the order is total and exact

abbrev lib_of : Object → ℕ
lib_of o = (object_number o).lib.0

abbrev slot_of : Object → ℕ
slot_of o = (object_number o).slot

pub object_cmp_total : IsTotalOrder object_cmp
object_cmp_total = then_total (on_total object_kind nat_cmp_total) (then_total (on_total lib_of nat_cmp_total) (on_total slot_of nat_cmp_total))

pub both_Equal : (r s : Ordering) → ordering_then r s ≡ Equal → (r ≡ Equal) × (s ≡ Equal)
both_Equal Less s e = cc
both_Equal Equal s e = (refl, e)
both_Equal Greater s e = cc

pub both_are_Equal : (r s : Ordering) → is_eq (ordering_then r s) ≡ true → (r ≡ Equal) × (s ≡ Equal)
both_are_Equal Less s e = cc
both_are_Equal Equal Less e = cc
both_are_Equal Equal Equal e = (refl, refl)
both_are_Equal Equal Greater e = cc
both_are_Equal Greater s e = cc

pub object_cmp_exact : IsAntisymmetric object_cmp
object_cmp_exact a b e =
    let kinds = both_Equal (nat_cmp (object_kind a) (object_kind b)) (cell_cmp (object_number a) (object_number b)) e in
    let numbers = both_Equal (nat_cmp (lib_of a) (lib_of b)) (nat_cmp (slot_of a) (slot_of b)) kinds.1 in
    let lib : lib_of a ≡ lib_of b = nat_cmp-IsAntisymmetric (lib_of a) (lib_of b) numbers.0 in
    let slot : slot_of a ≡ slot_of b = nat_cmp-IsAntisymmetric (slot_of a) (slot_of b) numbers.1 in
    one_object a b (nat_cmp-IsAntisymmetric (object_kind a) (object_kind b) kinds.0) (λ i. record { lib = record { 0 = lib i }; slot = slot i })

-- objects that tie are one
pub tied_object : (a b : Object) → eq_by_cmp object_cmp a b ≡ true → a ≡ b
tied_object a b e = object_cmp_exact a b (tied (object_cmp a b) e)
  where
    tied : (r : Ordering) → is_eq r ≡ true → r ≡ Equal
    tied Less h = absurd (false≢true h)
    tied Equal h = refl
    tied Greater h = absurd (false≢true h)

-- the derived order is this one
then_Equal : (r : Ordering) → ordering_then r Equal ≡ r
then_Equal Less = refl
then_Equal Equal = refl
then_Equal Greater = refl

derived_order_at : (a b : Object) → (derived.ghosts).cmp a b ≡ object_cmp a b
derived_order_at (Directory a) (Directory b) = sym (then_Equal (nat_cmp a.0 b.0))
derived_order_at (Directory a) (Interface b) = refl
derived_order_at (Directory a) (Contents b) = refl
derived_order_at (Directory a) Notes = refl
derived_order_at (Interface a) (Directory b) = refl
derived_order_at (Interface a) (Interface b) = refl
derived_order_at (Interface a) (Contents b) = refl
derived_order_at (Interface a) Notes = refl
derived_order_at (Contents a) (Directory b) = refl
derived_order_at (Contents a) (Interface b) = refl
derived_order_at (Contents a) (Contents b) = refl
derived_order_at (Contents a) Notes = refl
derived_order_at Notes (Directory b) = refl
derived_order_at Notes (Interface b) = refl
derived_order_at Notes (Contents b) = refl
derived_order_at Notes Notes = refl

derived_order : (derived.ghosts).cmp ≡ object_cmp
derived_order = λ i a b. derived_order_at a b i

-- what a map says by the derived order holds by this one
module _ {X : Type 0} where
  pub updates_by_order : (m n : BTreeMap Object X) (object : Object) (value : Option X) → Updates (derived.ghosts).cmp m n object value → Updates object_cmp m n object value
  updates_by_order m n object value h = subst (λ (R : Object → Object → Ordering). Updates R m n object value) derived_order h

  pub get_by_order : (m : BTreeMap Object X) (object : Object) → get (derived.ghosts).cmp m object ≡ get object_cmp m object
  get_by_order m object = ap (λ (R : Object → Object → Ordering). get R m object) derived_order

  pub ordered_by_order : (m : BTreeMap Object X) → IsOrdered (derived.ghosts).cmp m → IsOrdered object_cmp m
  ordered_by_order m h = subst (λ (R : Object → Object → Ordering). IsOrdered R m) derived_order h

-- ---- objects of which neither is less are one

-- numbers that are at most each other
both_le : (m n : ℕ) → IsTrue (is_le (nat_cmp m n)) → IsTrue (is_le (nat_cmp n m)) → nat_cmp m n ≡ Equal
both_le m n le ge = one (nat_cmp m n) (nat_cmp n m) (nat_cmp_total.antisymm m n) le ge
  where
    one : (r s : Ordering) → r ≡ ordering_reverse s → IsTrue (is_le r) → IsTrue (is_le s) → r ≡ Equal
    one Less Less is a b = cc
    one Less Equal is a b = cc
    one Less Greater is a b = cc
    one Equal s is a b = refl
    one Greater s is a b = cc

then_le : (r s : Ordering) → IsTrue (is_le (ordering_then r s)) → IsTrue (is_le r)
then_le Less s le = refl
then_le Equal s le = refl
then_le Greater s le = le

after_tie : (r s : Ordering) → r ≡ Equal → IsTrue (is_le (ordering_then r s)) → IsTrue (is_le s)
after_tie Less s e le = cc
after_tie Equal s e le = le
after_tie Greater s e le = cc

same_by_order : (m n : ℕ) → IsTrue (is_le (nat_cmp m n)) → IsTrue (is_le (nat_cmp n m)) → m ≡ n
same_by_order m n le ge = nat_cmp-IsAntisymmetric m n (both_le m n le ge)

same_cell_id : (a b : CellId) → IsTrue (is_le (cell_cmp a b)) → IsTrue (is_le (cell_cmp b a)) → a ≡ b
same_cell_id a b le ge =
    let forth = then_le (nat_cmp a.lib.0 b.lib.0) (nat_cmp a.slot b.slot) le in
    let back = then_le (nat_cmp b.lib.0 a.lib.0) (nat_cmp b.slot a.slot) ge in
    let lib = same_by_order a.lib.0 b.lib.0 forth back in
    let slot = same_by_order a.slot b.slot (after_tie (nat_cmp a.lib.0 b.lib.0) (nat_cmp a.slot b.slot) (both_le a.lib.0 b.lib.0 forth back) le)
    (after_tie (nat_cmp b.lib.0 a.lib.0) (nat_cmp b.slot a.slot) (both_le b.lib.0 a.lib.0 back forth) ge) in
    λ i. record { lib = record { 0 = lib i }; slot = slot i }

pub same_object : (a b : Object) → IsTrue (is_le (object_cmp a b)) → IsTrue (is_le (object_cmp b a)) → a ≡ b
same_object a b le ge =
    let numbers_forth = cell_cmp (object_number a) (object_number b) in
    let numbers_back = cell_cmp (object_number b) (object_number a) in
    let kind_forth = then_le (nat_cmp (object_kind a) (object_kind b)) numbers_forth le in
    let kind_back = then_le (nat_cmp (object_kind b) (object_kind a)) numbers_back ge in
    one_object a b (same_by_order (object_kind a) (object_kind b) kind_forth kind_back)
    (same_cell_id (object_number a) (object_number b)
    (after_tie (nat_cmp (object_kind a) (object_kind b)) numbers_forth (both_le (object_kind a) (object_kind b) kind_forth kind_back) le)
    (after_tie (nat_cmp (object_kind b) (object_kind a)) numbers_back (both_le (object_kind b) (object_kind a) kind_back kind_forth) ge))

-- ---- by the order

less_number : (m n : ℕ) → nat_cmp m n ≡ Less → m < n
less_number m n e = subst (λ (r : Ordering). MatchOrdering r (m < n) (m ≡ n) (n < m)) e (ranked m n (nat_cmp m n) refl)

same_number : (m n : ℕ) → nat_cmp m n ≡ Equal → m ≡ n
same_number m n e = subst (λ (r : Ordering). MatchOrdering r (m < n) (m ≡ n) (n < m)) e (ranked m n (nat_cmp m n) refl)

then_less : (r s : Ordering) → ordering_then r s ≡ Less → (r ≡ Less) ⊎ ((r ≡ Equal) × (s ≡ Less))
then_less Less s e = inl refl
then_less Equal s e = inr (refl, e)
then_less Greater s e = cc

-- a lesser object is of a lesser kind, or of one kind and a lesser library, or of one library and a lesser place
is_less : (q o : Object) → object_cmp q o ≡ Less → (object_kind q < object_kind o) ⊎ ((object_kind q ≡ object_kind o) × ((lib_of q < lib_of o) ⊎ ((lib_of q ≡ lib_of o) × (slot_of q < slot_of o))))
is_less q o less =
    ⊎_elim
    (λ (kind : nat_cmp (object_kind q) (object_kind o) ≡ Less). inl (less_number (object_kind q) (object_kind o) kind))
    (λ (tie : (nat_cmp (object_kind q) (object_kind o) ≡ Equal) × (cell_cmp (object_number q) (object_number o) ≡ Less)).
    inr (
      same_number (object_kind q) (object_kind o) tie.0,
      ⊎_elim
          (λ (lib : nat_cmp (lib_of q) (lib_of o) ≡ Less). inl (less_number (lib_of q) (lib_of o) lib))
          (λ (both : (nat_cmp (lib_of q) (lib_of o) ≡ Equal) × (nat_cmp (slot_of q) (slot_of o) ≡ Less)). inr (same_number (lib_of q) (lib_of o) both.0, less_number (slot_of q) (slot_of o) both.1))
          (then_less (nat_cmp (lib_of q) (lib_of o)) (nat_cmp (slot_of q) (slot_of o)) tie.1),
    ))
    (then_less (nat_cmp (object_kind q) (object_kind o)) (cell_cmp (object_number q) (object_number o)) less)

module _ (P : Object → Type 0) (step : (o : Object) → ((q : Object) → object_cmp q o ≡ Less → P q) → P o) where
  -- the objects of one library, where those of lesser kinds and of libraries before it are done
  slots : (k n : ℕ) → ((q : Object) → object_kind q < k → P q) → ((q : Object) → object_kind q ≤ k → lib_of q < n → P q) → (s : ℕ) (o : Object) → object_kind o ≤ k → lib_of o ≤ n → slot_of o < s → P o
  slots k n kinds libs zero o kind lib lt = absurd (omega (arith, lt))
  slots k n kinds libs (suc s) o kind lib lt = step o (λ q less.
      ⊎_elim
      (λ (lesser : object_kind q < object_kind o). kinds q (omega (arith, lesser, kind)))
      (λ (tie : (object_kind q ≡ object_kind o) × ((lib_of q < lib_of o) ⊎ ((lib_of q ≡ lib_of o) × (slot_of q < slot_of o)))).
      ⊎_elim
      (λ (lesser : lib_of q < lib_of o). libs q (omega (arith, tie.0, kind)) (omega (arith, lesser, lib)))
      (λ (both : (lib_of q ≡ lib_of o) × (slot_of q < slot_of o)). slots k n kinds libs s q (omega (arith, tie.0, kind)) (omega (arith, both.0, lib)) (omega (arith, both.1, lt)))
      tie.1)
      (is_less q o less))

  libraries : (k : ℕ) → ((q : Object) → object_kind q < k → P q) → (n : ℕ) (o : Object) → object_kind o ≤ k → lib_of o < n → P o
  libraries k kinds zero o kind lt = absurd (omega (arith, lt))
  libraries k kinds (suc n) o kind lt = slots k n kinds (libraries k kinds n) (suc (slot_of o)) o kind (omega (arith, lt)) (omega arith)

  kinds : (k : ℕ) (o : Object) → object_kind o < k → P o
  kinds zero o lt = absurd (omega (arith, lt))
  kinds (suc k) o lt = libraries k (kinds k) (suc (lib_of o)) o (omega (arith, lt)) (omega arith)

  pub each_object : (o : Object) → P o
  each_object o = kinds (suc (object_kind o)) o (omega arith)

-- ---- of two objects one is at most the other

reverse_then : (r s : Ordering) → ordering_then (ordering_reverse r) (ordering_reverse s) ≡ ordering_reverse (ordering_then r s)
reverse_then Less s = refl
reverse_then Equal s = refl
reverse_then Greater s = refl

both_turned : (r s t u : Ordering) → r ≡ ordering_reverse t → s ≡ ordering_reverse u → ordering_then r s ≡ ordering_reverse (ordering_then t u)
both_turned r s t u first second = (λ i. ordering_then (first i) (second i)) ∙ reverse_then t u

turned : (a b : Object) → object_cmp a b ≡ ordering_reverse (object_cmp b a)
turned a b =
    both_turned (nat_cmp (object_kind a) (object_kind b)) (cell_cmp (object_number a) (object_number b)) (nat_cmp (object_kind b) (object_kind a)) (cell_cmp (object_number b) (object_number a))
    (nat_cmp_total.antisymm (object_kind a) (object_kind b))
    (both_turned (nat_cmp (lib_of a) (lib_of b)) (nat_cmp (slot_of a) (slot_of b)) (nat_cmp (lib_of b) (lib_of a)) (nat_cmp (slot_of b) (slot_of a))
    (nat_cmp_total.antisymm (lib_of a) (lib_of b)) (nat_cmp_total.antisymm (slot_of a) (slot_of b)))

pub at_most_or_less : (a b : Object) → IsTrue (is_le (object_cmp a b)) ⊎ (object_cmp b a ≡ Less)
at_most_or_less a b = one (object_cmp a b) (object_cmp b a) (turned b a)
  where
    one : (r s : Ordering) → s ≡ ordering_reverse r → IsTrue (is_le r) ⊎ (s ≡ Less)
    one Less s e = inl refl
    one Equal s e = inl refl
    one Greater s e = inr e

-- ---- an object is in a list, or is not

pub one_or_two : (a b : Object) → (a ≡ b) ⊎ (a ≡ b → ⊥)
one_or_two a b = by (object_cmp a b) refl
  where
    differ : (r : Ordering) → object_cmp a b ≡ r → (r ≡ Equal → ⊥) → a ≡ b → ⊥
    differ r is other same = other (sym is ∙ ap (λ (o : Object). object_cmp a o) (sym same) ∙ tied_itself object_cmp_total a)

    by : (r : Ordering) → object_cmp a b ≡ r → (a ≡ b) ⊎ (a ≡ b → ⊥)
    by Less is = inr (differ Less is (λ e. cc))
    by Equal is = inl (object_cmp_exact a b is)
    by Greater is = inr (differ Greater is (λ e. cc))

pub is_listed : (xs : List Object) (o : Object) → Contains xs o ⊎ (Contains xs o → ⊥)
is_listed [] o = inr (λ m. omega (arith, m.1))
is_listed (x ∷ xs) o = elim (one_or_two x o) [
  | inl e ↦ inl (0, omega arith, e)
  | inr n ↦ elim (is_listed xs o) [
    | inl m ↦ inl (suc m.0, omega (arith, m.1), m.2)
    | inr away ↦ inr (λ m. behind m.0 n away m.1 m.2)
  ]
]
  where
    behind : (k : ℕ) → (x ≡ o → ⊥) → (Contains xs o → ⊥) → k < length (x ∷ xs) → slice_index_or (x ∷ xs) k o ≡ o → ⊥
    behind zero other away l e = other e
    behind (suc k) other away l e = away (k, omega arith, e)
