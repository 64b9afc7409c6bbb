-- The read of all that is below a top, cell by cell.
use Rattle.std.proofs.Common.{◌≡◌, ◌⊎◌, ◌<◌, ◌≤◌, ◌+◌, inl, inr, ⊎_elim, ℕ, arith, lit<, List, [], ◌∷◌, ◌++◌, length, take, get_or, length-append, Option, refl, sym, ap, subst, ◌∙◌}
use Rattle.std.specs.Prelude.{MatchResult, Result, Ok, Err}
use Rattle.std.specs.List.{Contains}
use Rattle.std.proofs.lemmas.List.{take_more, take-append-le}
use Rattle.std.proofs.lemmas.List.Elements.{Contains-append_left, Contains-append_right, Contains-append_cases}
use Rattle.netlist_schema.specs.Design.{Design, cell_at, insts_in}
use Rattle.netlist_schema.specs.Hierarchy.{IsBelow, placed, deeper, insts_at}
use Rattle.netlist_schema.specs.Types.{CellId, Contents, Inst, Object}
use Rattle.netlist_schema.proofs.Ranks.{below_trans}
use Rattle.edit_rules_spec.specs.Seen.{contents_at}
use Rattle.uniquify_spec.proofs.Agreed.{insts_inside}
use Rattle.edit_cells.specs.Parts.{IsInside}
use Rattle.edit_cells.specs.State.{State, HasRead, HasReadSome}
use Rattle.edit_cells.proofs.Growing.{grows_by_same, prefix_twice}
use Rattle.eco_reads.specs.Walk.{GoesOn, IsPlaced}
use Rattle.eco_reads.proofs.Below.{placed_of, take_whole, only_one, placed_inst}
use Rattle.eco_reads.proofs.Reading.{read_some, read_then}
use Rattle.uniquify_copies.proofs.SomeReads.{some_then}
use Rattle.uniquify_blocks.specs.ForBlocks.{IsForBlock}
use Rattle.uniquify_blocks.specs.Below.{IsForAllBelow}

pub goes_inside : (a b : List CellId) (d : Design) (id : CellId) (lent : Option Contents) → lent ≡ contents_at d id → GoesOn a b (IsPlaced (insts_in lent)) → GoesOn a b (IsPlaced (insts_at d id))
goes_inside a b d id lent same goes = subst (λ (insts : List Inst). GoesOn a b (IsPlaced insts)) (ap insts_in same ∙ insts_inside (cell_at d id)) goes

-- what is inside a cell that was read is read already
read_again : (s t u : State) (id : CellId) → HasRead s t (IsForBlock s.design id) → HasRead t u (IsInside id) → HasRead s u (IsForBlock s.design id)
read_again s t u id first second =
    read_then s t u (IsForBlock s.design id) (IsInside id) (IsForBlock s.design id) first second (λ o. (
      (λ any. elim any [ inl part ↦ part | inr inside ↦ inl (inr inside) ]),
      (λ is. inl is),
    ))

pub read_entered : {T E : Type 0} (s t u : State) (id : CellId) (result : Result T E) → HasRead s t (IsForBlock s.design id) → MatchResult result (λ _. HasRead t u (IsInside id)) (λ _. HasReadSome t u)
    → MatchResult result (λ _. HasRead s u (IsForBlock s.design id)) (λ _. HasReadSome s u)
read_entered s t u id (Ok done) first second = read_again s t u id first second
read_entered s t u id (Err refused) first second = some_then s t u (read_some s t (IsForBlock s.design id) first) second

-- ---- cells below

none_in : {X : Type 0} (x : X) → Contains [] x → ⊥
none_in x has = absurd (omega (arith, has.1))

one_below : (d : Design) (id inner : CellId) → IsPlaced (insts_at d id) inner → IsBelow d inner id
one_below d id inner is =
    let found = placed_inst (insts_at d id) inner is in
    subst (λ (c : CellId). IsBelow d c id) found.2 (placed found.0 found.1)

-- ---- the walk

-- the cells before a place were read, and their instances are of cells on the list
pub record HasEntered (s u : State) (top : CellId) (order : List CellId) (next : ℕ) : Type 0 where
  pub within : next ≤ length order
  pub below : (id : CellId) → Contains order id → IsBelow s.design id top
  pub first : (inner : CellId) → IsPlaced (insts_at s.design top) inner → Contains order inner
  pub closed : (id inner : CellId) → Contains (take next order) id → IsPlaced (insts_at s.design id) inner → Contains order inner
  pub read : HasRead s u (λ o. IsInside top o ⊎ ((id : CellId) × Contains (take next order) id × IsForBlock s.design id o))

pub enter_begins : (s u : State) (top : CellId) (order : List CellId) → GoesOn [] order (IsPlaced (insts_at s.design top)) → HasRead s u (IsInside top) → HasEntered s u top order 0
enter_begins s u top order goes read = record {
  within = omega arith;
  below = λ id has. ⊎_elim (λ (never : Contains [] id). absurd (none_in id never)) (λ (is : IsPlaced (insts_at s.design top) id). one_below s.design top id is) ((goes.cells id).0 has);
  first = λ inner is. (goes.cells inner).1 (inr is);
  closed = λ id inner has. absurd (none_in id has);
  read = record {
    base = read.base;
    design = read.design;
    written = read.written;
    reads = grows_by_same s.reads u.reads (IsInside top) (λ o. IsInside top o ⊎ ((id : CellId) × Contains [] id × IsForBlock s.design id o)) read.reads
        (λ o. ((λ is. inl is), (λ any. elim any [ inl is ↦ is | inr each ↦ absurd (none_in each.0 each.1) ])));
  };
}

pub enter_goes_on : (s u v : State) (top : CellId) (order more : List CellId) (next : ℕ) (id : CellId) → HasEntered s u top order next → next < length order → id ≡ get_or order next id
    → HasRead u v (IsForBlock u.design id) → GoesOn order more (IsPlaced (insts_at u.design id)) → HasEntered s v top more (next + 1)
enter_goes_on s u v top order more next id walk lt is read goes = record {
  within = longer;
  below = λ c has. ⊎_elim
      (λ (old : Contains order c). walk.below c old)
      (λ (new : IsPlaced (insts_at u.design id) c). below_trans s.design (one_below s.design id c (subst (λ (d : Design). IsPlaced (insts_at d id) c) same new)) (walk.below id here))
      ((goes.cells c).0 has);
  first = λ inner is_in. (goes.cells inner).1 (inl (walk.first inner is_in));
  closed = λ c inner has is_in. ⊎_elim
      (λ (old : Contains (take next order) c). (goes.cells inner).1 (inl (walk.closed c inner old is_in)))
      (λ (one : Contains (id ∷ []) c).
      (goes.cells inner).1 (inr (subst (λ (d : Design). IsPlaced (insts_at d id) inner) (sym same) (subst (λ (x : CellId). IsPlaced (insts_at s.design x) inner) (only_one id c one) is_in))))
      (Contains-append_cases (take next order) (id ∷ []) c (subst (λ (xs : List CellId). Contains xs c) front has));
  read = read_then s u v (λ o. IsInside top o ⊎ ((c : CellId) × Contains (take next order) c × IsForBlock s.design c o)) (IsForBlock u.design id)
      (λ o. IsInside top o ⊎ ((c : CellId) × Contains (take (next + 1) more) c × IsForBlock s.design c o)) walk.read read (λ o. (to o, from o));
}
  where
    same : u.design ≡ s.design
    same = walk.read.design

    longer : next + 1 ≤ length more
    longer = let long = ap length goes.prefix.1 in let sum = length-append order goes.prefix.0 in omega (arith, long, sum, lt)

    front : take (next + 1) more ≡ take next order ++ id ∷ []
    front = ap (take (next + 1)) goes.prefix.1 ∙ take-append-le (next + 1) order goes.prefix.0 (omega (arith, lt)) ∙ take_more order next id lt ∙ ap (λ (x : CellId). take next order ++ x ∷ []) (sym is)

    here : Contains order id
    here = (next, lt, sym is)

    among : (c : CellId) → Contains (take next order ++ id ∷ []) c → Contains (take (next + 1) more) c
    among c has = subst (λ (xs : List CellId). Contains xs c) (sym front) has

    to : (o : Object) → (IsInside top o ⊎ ((c : CellId) × Contains (take next order) c × IsForBlock s.design c o)) ⊎ IsForBlock u.design id o
        → IsInside top o ⊎ ((c : CellId) × Contains (take (next + 1) more) c × IsForBlock s.design c o)
    to o any = elim any [
      | inl old ↦ elim old [
        | inl inside ↦ inl inside
        | inr each ↦ inr (each.0, among each.0 (Contains-append_left (take next order) (id ∷ []) each.0 each.1), each.2)
      ]
      | inr new ↦ inr (id, among id (Contains-append_right (take next order) (id ∷ []) id (0, lit< tt, refl)), subst (λ (d : Design). IsForBlock d id o) same new)
    ]

    from : (o : Object) → IsInside top o ⊎ ((c : CellId) × Contains (take (next + 1) more) c × IsForBlock s.design c o)
        → (IsInside top o ⊎ ((c : CellId) × Contains (take next order) c × IsForBlock s.design c o)) ⊎ IsForBlock u.design id o
    from o any = elim any [
      | inl inside ↦ inl (inl inside)
      | inr each ↦ elim (Contains-append_cases (take next order) (id ∷ []) each.0 (subst (λ (xs : List CellId). Contains xs each.0) front each.1)) [
        | inl old ↦ inl (inr (each.0, old, each.2))
        | inr one ↦ inr (subst (λ (d : Design). IsForBlock d id o) (sym same) (subst (λ (x : CellId). IsForBlock s.design x o) (only_one id each.0 one) each.2))
      ]
    ]

all_under : (d : Design) (order : List CellId) → ((id inner : CellId) → Contains order id → IsPlaced (insts_at d id) inner → Contains order inner) → (id inner : CellId) → Contains order id → IsBelow d inner id → Contains order inner
all_under d order closed id inner has (placed inst is) = closed id inst.of has (placed_of (insts_at d id) inst is)
all_under d order closed id inner has (deeper inst is rest) = all_under d order closed inst.of inner (closed id inst.of has (placed_of (insts_at d id) inst is)) rest

all_below : (d : Design) (order : List CellId) (top inner : CellId) → ((id other : CellId) → Contains order id → IsPlaced (insts_at d id) other → Contains order other)
    → ((other : CellId) → IsPlaced (insts_at d top) other → Contains order other) → IsBelow d inner top → Contains order inner
all_below d order top inner closed first (placed inst is) = first inst.of (placed_of (insts_at d top) inst is)
all_below d order top inner closed first (deeper inst is rest) = all_under d order closed inst.of inner (first inst.of (placed_of (insts_at d top) inst is)) rest

pub enter_ends : (s u : State) (top : CellId) (order : List CellId) (next : ℕ) → HasEntered s u top order next → length order ≤ next → HasRead s u (IsForAllBelow s.design top)
enter_ends s u top order next walk past = record {
  base = walk.read.base;
  design = walk.read.design;
  written = walk.read.written;
  reads = grows_by_same s.reads u.reads (λ o. IsInside top o ⊎ ((id : CellId) × Contains (take next order) id × IsForBlock s.design id o)) (IsForAllBelow s.design top) walk.read.reads (λ o. (
    (λ any. elim any [
      | inl inside ↦ inl inside
      | inr each ↦ inr (each.0, walk.below each.0 (subst (λ (xs : List CellId). Contains xs each.0) whole each.1), each.2)
    ]),
    (λ any. elim any [
      | inl inside ↦ inl inside
      | inr each ↦ inr (each.0, subst (λ (xs : List CellId). Contains xs each.0) (sym whole) (all_below s.design order top each.0 closed walk.first each.1), each.2)
    ]),
  ));
}
  where
    whole : take next order ≡ order
    whole = take_whole order next past

    closed : (id inner : CellId) → Contains order id → IsPlaced (insts_at s.design id) inner → Contains order inner
    closed id inner has is = walk.closed id inner (subst (λ (xs : List CellId). Contains xs id) (sym whole) has) is

pub entered_some : (s u v : State) (top : CellId) (order : List CellId) (next : ℕ) → HasEntered s u top order next → HasReadSome u v → HasReadSome s v
entered_some s u v top order next walk some = record {
  base = some.base ∙ walk.read.base;
  design = some.design ∙ walk.read.design;
  written = some.written ∙ walk.read.written;
  prefix = prefix_twice s.reads u.reads v.reads walk.read.reads.prefix some.prefix;
}
