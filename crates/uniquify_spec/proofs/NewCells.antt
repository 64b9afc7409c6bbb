-- What the new cells do to a design.
use Rattle.std.proofs.Common.{◌≡◌, ◌≢◌, ◌+◌, ℕ, List, [], ◌∷◌, ◌++◌, length, refl, sym, ap, subst, ◌∙◌, inl, inr, arith, Option, Some, None, true, false, cond, length-append, eq-eqb}
use Rattle.std.specs.Prelude.{◌==◌, IsSome, slice_get}
use Rattle.std.specs.List.{flat_map}
use Rattle.std.specs.Option.{option_map, option_to_list}
use Rattle.std.proofs.lemmas.Bool.{cases_eq, ne_eqb, cond-true, cond-false, true≢false}
use Rattle.netlist_schema.specs.Design.{Design, lib_at, cell_at, cells_in}
use Rattle.netlist_schema.specs.Hierarchy.{IsCell}
use Rattle.netlist_schema.specs.Types.{CellBody, CellId, Lib, LibId}
use Rattle.edit_rules_spec.specs.Edit.{Edit, fresh, edited, with_more_cell, lib_with_more}
use Rattle.edit_rules_spec.proofs.Edits.{cells_of, more_same, more_other, IsNext}
use Rattle.edit_rules_spec.proofs.Edits.{directory_of, new_cell_at, other_cell_at}
use Rattle.flat_spec.proofs.ListLemmas.{Member}
use Rattle.uniquify_spec.specs.Copies.{Copy, names_with}
use Rattle.uniquify_spec.specs.Split.{renamed, new_cell}
use Rattle.uniquify_spec.proofs.CopyLists.{IsNew, AreNew, length-names, length-names_more, later_apart}

abbrev pub new_cells : Design → List Copy → List Edit
new_cells d ms = flat_map (new_cell d) ms

-- a design on the way: the libraries are there, and each has its cells and the copies made before
pub record IsOnTheWay (d b : Design) (before : List Copy) : Type 0 where
  pub libs : (lib : LibId) → IsSome (lib_at d lib) → IsSome (lib_at b lib)
  pub count : (lib : LibId) → IsSome (lib_at d lib) → length (cells_in b lib) ≡ length (names_with d before lib)

pub at_the_start : (d : Design) → IsOnTheWay d d []
at_the_start d = record { libs = λ lib is. is; count = λ lib is. start (length (cells_in d lib)) (length (names_with d [] lib)) (length-names d [] lib) }
  where
    start : (a b : ℕ) → b ≡ a + 0 → a ≡ b
    start a b e = omega (arith, e)

some_more : (body : CellBody) (o : Option Lib) → IsSome o → IsSome (option_map (lib_with_more body) o)
some_more body None is = is
some_more body (Some lib) is = refl

count_more : (body : CellBody) (o : Option Lib) → IsSome o → length (cells_of (option_map (lib_with_more body) o)) ≡ length (cells_of o) + 1
count_more body None is = let never : false ≡ true = is in absurd (true≢false (sym never))
count_more body (Some lib) is = length-append lib.cells (body ∷ [])

lib_there : (o : Option Lib) (slot : ℕ) → IsSome (slice_get (cells_of o) slot) → IsSome o
lib_there None slot is = is
lib_there (Some lib) slot is = refl

pub lib_of_new : (d : Design) (before : List Copy) (m : Copy) → IsNew d before m → IsSome (lib_at d m.id.lib)
lib_of_new d before m new = subst (λ (l : LibId). IsSome (lib_at d l)) (sym new.lib) (lib_there (lib_at d m.of.lib) m.of.slot new.cell)

pub is_next : (d b : Design) (before : List Copy) (m : Copy) → IsOnTheWay d b before → IsNew d before m → IsNext b m.id
is_next d b before m way new = new.slot ∙ sym (way.count m.id.lib (lib_of_new d before m new))

pub one_more : (d b : Design) (before : List Copy) (m : Copy) (body : CellBody) → IsOnTheWay d b before → IsNew d before m
    → IsOnTheWay d (with_more_cell b m.id.lib body) (before ++ m ∷ [])
one_more d b before m body way new = record {
  libs = λ lib is. elim (cases_eq lib.0 m.id.lib.0) [
    | inl same ↦ subst (λ (o : Option Lib). IsSome o) (sym (more_same b m.id.lib body lib same)) (some_more body (lib_at b lib) (way.libs lib is))
    | inr apart ↦ subst (λ (o : Option Lib). IsSome o) (sym (more_other b m.id.lib body lib apart)) (way.libs lib is)
  ];
  count = λ lib is.
      let more = length-names_more d before m lib in
      let was = way.count lib is in
      elim (cases_eq lib.0 m.id.lib.0) [
        | inl same ↦
            let here = ap (λ (o : Option Lib). length (cells_of o)) (more_same b m.id.lib body lib same) ∙ count_more body (lib_at b lib) (way.libs lib is) in
            let one : ◌≡◌ {A = ℕ} (cond (m.id.lib.0 == lib.0) 1 0) 1 = cond-true _ _ _ (eq-eqb m.id.lib.0 lib.0 (sym same)) in
            sums _ _ _ _ _ here was more one
        | inr apart ↦
            let here = ap (λ (o : Option Lib). length (cells_of o)) (more_other b m.id.lib body lib apart) in
            let none : ◌≡◌ {A = ℕ} (cond (m.id.lib.0 == lib.0) 1 0) 0 = cond-false _ _ _ (ne_eqb m.id.lib.0 lib.0 (λ same. apart (sym same))) in
            sums_none _ _ _ _ _ here was more none
      ];
}
  where
    sums : (now old names more one : ℕ) → now ≡ old + 1 → old ≡ names → more ≡ names + one → one ≡ 1 → now ≡ more
    sums now old names more one a b c e = omega (arith, a, b, c, e)

    sums_none : (now old names more one : ℕ) → now ≡ old → old ≡ names → more ≡ names + one → one ≡ 0 → now ≡ more
    sums_none now old names more one a b c e = omega (arith, a, b, c, e)

pub body_of : (d : Design) (id : CellId) → IsCell d id → (body : CellBody) × (cell_at d id ≡ Some body)
body_of d id is = some (cell_at d id) is
  where
    some : (o : Option CellBody) → IsSome o → (body : CellBody) × (o ≡ Some body)
    some None is = let never : false ≡ true = is in absurd (true≢false (sym never))
    some (Some body) is = (body, refl)

-- a copy is one change
pub one_step : (d b : Design) (m : Copy) (ms : List Copy) (body : CellBody) → cell_at d m.of ≡ Some body
    → edited b (new_cells d (m ∷ ms)) ≡ edited (with_more_cell b m.id.lib (renamed m body)) (new_cells d ms)
one_step d b m ms body is =
    ap (λ (o : Option CellBody). edited b (option_to_list (option_map (λ c. fresh m.id (renamed m c)) o) ++ new_cells d ms)) is

-- a cell that is no copy stays
pub new_stays : (d : Design) (ms : List Copy) (b : Design) (before : List Copy) → IsOnTheWay d b before → AreNew d before ms
    → (id : CellId) → ((m : Copy) → Member ms m → id ≢ m.id) → cell_at (edited b (new_cells d ms)) id ≡ cell_at b id
new_stays d [] b before way new id none = refl
new_stays d (m ∷ ms) b before way new id none =
    let body = body_of d m.of new.0.cell in
    let after = with_more_cell b m.id.lib (renamed m body.0) in
    ap (λ e. cell_at e id) (one_step d b m ms body.0 body.1)
    ∙ new_stays d ms after (before ++ m ∷ []) (one_more d b before m (renamed m body.0) way new.0) new.1 id (λ n member. none n (inr member))
    ∙ other_cell_at b m.id (renamed m body.0) id (is_next d b before m way new.0) (none m (inl refl))

some_lib : (body : CellBody) (o : Option Lib) → IsSome o → option_map (λ (_ : List (List ℕ)). body) (directory_of o) ≡ Some body
some_lib body None is = let never : false ≡ true = is in absurd (true≢false (sym never))
some_lib body (Some lib) is = refl

-- each copy is there
pub new_is_there : (d : Design) (ms : List Copy) (b : Design) (before : List Copy) → IsOnTheWay d b before → AreNew d before ms
    → (m : Copy) → Member ms m → (body : CellBody) → cell_at d m.of ≡ Some body → cell_at (edited b (new_cells d ms)) m.id ≡ Some (renamed m body)
new_is_there d [] b before way new m member body is = absurd member
new_is_there d (v ∷ ms) b before way new m member body is =
    let first = body_of d v.of new.0.cell in
    let after = with_more_cell b v.id.lib (renamed v first.0) in
    let onward = one_more d b before v (renamed v first.0) way new.0 in
    ap (λ e. cell_at e m.id) (one_step d b v ms first.0 first.1)
    ∙ elim member [
      | inl e ↦
          let here : cell_at (edited after (new_cells d ms)) v.id ≡ Some (renamed v first.0) =
          new_stays d ms after (before ++ v ∷ []) onward new.1 v.id (λ n later. later_apart d v ms before new n later)
          ∙ new_cell_at b v.id (renamed v first.0) (is_next d b before v way new.0)
          ∙ some_lib (renamed v first.0) (lib_at b v.id.lib) (way.libs v.id.lib (lib_of_new d before v new.0)) in
          let found : cell_at (edited after (new_cells d ms)) m.id ≡ Some (renamed m first.0) = subst (λ (x : Copy). cell_at (edited after (new_cells d ms)) x.id ≡ Some (renamed x first.0)) e here in
          let bodies : Some first.0 ≡ Some body = sym first.1 ∙ ap (λ (x : Copy). cell_at d x.of) e ∙ is in
          found ∙ ap (option_map (renamed m)) bodies
      | inr rest ↦ new_is_there d ms after (before ++ v ∷ []) onward new.1 m rest body is
    ]

-- the copy is there once it is made
pub new_is_cell : (d b : Design) (before : List Copy) (m : Copy) (body : CellBody) → IsOnTheWay d b before → IsNew d before m → IsCell (with_more_cell b m.id.lib body) m.id
new_is_cell d b before m body way new =
    let there : cell_at (with_more_cell b m.id.lib body) m.id ≡ Some body =
    new_cell_at b m.id body (is_next d b before m way new) ∙ some_lib body (lib_at b m.id.lib) (way.libs m.id.lib (lib_of_new d before m new)) in
    subst (λ (o : Option CellBody). IsSome o) (sym there) refl
