-- The directories of a design after a split: their names differ, are identifiers, and are not too many.
use Rattle.std.proofs.Common.{◌≡◌, ◌≢◌, ◌≤◌, ◌<◌, ◌^◌, ℕ, List, [], ◌∷◌, ◌++◌, map, length, refl, sym, ap, subst, ◌∙◌, inl, inr, arith, Option, Some, None, Bool, true, false, not, cond, append-nil, append_assoc, length-append, eq-eqb}
use Rattle.std.specs.Prelude.{◌==◌, IsSome, IfSome, codes, decimal}
use Rattle.std.specs.List.{AllByRecursion, list_any}
use Rattle.std.specs.Option.{option_map, option_to_list}
use Rattle.std.specs.Str.Parse.{AllDigits}
use Rattle.std.proofs.lemmas.Bool.{cases_eq, cases_Bool, ne_eqb, cond-true, cond-false, true≢false, or_parts}
use Rattle.std.proofs.lemmas.Fmt.{decimal_is_IsNumeral}
use Rattle.std.proofs.lemmas.List.{map-append}
use Rattle.std.proofs.lemmas.List.Elements.{recursion_from_All, All-from_recursion}
use Rattle.std.proofs.lemmas.Str.Parse.{digit_from_value}
use Rattle.netlist_schema.specs.Design.{Design, lib_at, cells_in}
use Rattle.netlist_schema.specs.Ident.{is_identifier_byte, IsIdentifier}
use Rattle.netlist_schema.specs.Names.{cell_names}
use Rattle.netlist_schema.specs.Typed.{IsBytes, IsTypedName}
use Rattle.netlist_schema.specs.Types.{CellBody, Contents, Lib, LibId, Name}
use Rattle.netlist_schema.proofs.Lists.{all_append}
use Rattle.edit_rules_spec.specs.Edit.{inner, edited, with_more_cell, lib_with_more}
use Rattle.edit_rules_spec.specs.Find.{is_same}
use Rattle.edit_rules_spec.specs.Seen.{contents_at}
use Rattle.edit_rules_spec.proofs.Lists.{apart_more}
use Rattle.edit_rules_spec.proofs.Edits.{cells_of, more_same, more_other, once_alike}
use Rattle.edit_rules_spec.proofs.Lists.{Apart}
use Rattle.edit_rules_spec.proofs.Refusals.{is_same-refl}
use Rattle.flat_spec.specs.Occurrences.{Occurrence}
use Rattle.flat_spec.proofs.ListLemmas.{Member}
use Rattle.edit_rules_spec.proofs.Numbers.{digits_pass}
use Rattle.uniquify_spec.specs.Copies.{Copy, numbered, is_free, free_number, copy_name, copies_in, names_with, name_at, copy_after, copies_after}
use Rattle.uniquify_spec.specs.Split.{Split, Owner, owners, turned, renamed, is_turned, turned_cell, split_edits}
use Rattle.uniquify_spec.proofs.CopyLists.{IsNew, AreNew}
use Rattle.uniquify_spec.proofs.CopyNames.{copies_get_least_free, free_number_small}
use Rattle.uniquify_spec.proofs.KeptCells.{turned_cells, edited-append}
use Rattle.uniquify_spec.proofs.NewCells.{IsOnTheWay, at_the_start, one_more, one_step, body_of, new_cells}

-- each copy has the name that the copies before it leave free
abbrev pub AreNamed : Design → List Copy → List Copy → Type 0
AreNamed d before [] = Unit {0}
AreNamed d before (m ∷ ms) = (m.name ≡ copy_name (names_with d before m.id.lib) (name_at d m.of)) × AreNamed d (before ++ m ∷ []) ms

pub copies_are_named : (d : Design) (os : List Occurrence) (before : List Copy) → AreNamed d before (copies_after d before os)
copies_are_named d [] before = tt
copies_are_named d (o ∷ os) before = (refl, copies_are_named d os (before ++ copy_after d before o ∷ []))

-- the copies have places that a library has
abbrev pub HaveRoom : List Copy → Type 0
HaveRoom ms = (m : Copy) → Member ms m → m.id.slot < 65536

-- ---- one more name

abbrev last_name : Copy → LibId → List (List ℕ)
last_name m lib = cond (m.id.lib.0 == lib.0) (m.name.id ∷ []) []

abbrev name_of : Copy → List ℕ
name_of m = m.name.id

copies_more : (before : List Copy) (m : Copy) (lib : LibId) → map name_of (copies_in lib (before ++ m ∷ [])) ≡ map name_of (copies_in lib before) ++ last_name m lib
copies_more [] m lib = last (m.id.lib.0 == lib.0)
  where
    last : (b : Bool) → map name_of (cond b (m ∷ []) []) ≡ [] ++ cond b (m.name.id ∷ []) []
    last true = refl
    last false = refl
copies_more (v ∷ before) m lib = more (v.id.lib.0 == lib.0) (copies_in lib before) (copies_in lib (before ++ m ∷ [])) (copies_more before m lib)
  where
    more : (b : Bool) (less all : List Copy) → map name_of all ≡ map name_of less ++ last_name m lib
        → map name_of (cond b (v ∷ all) all) ≡ map name_of (cond b (v ∷ less) less) ++ last_name m lib
    more true less all e = ap (λ ns. v.name.id ∷ ns) e
    more false less all e = e

pub names_more : (d : Design) (before : List Copy) (m : Copy) (lib : LibId) → names_with d (before ++ m ∷ []) lib ≡ names_with d before lib ++ last_name m lib
names_more d before m lib =
    ap (λ ns. cell_names (cells_in d lib) ++ ns) (copies_more before m lib)
    ∙ sym (append_assoc (cell_names (cells_in d lib)) (map name_of (copies_in lib before)) (last_name m lib))

-- ---- names differ

not_same : (names : List (List ℕ)) (name : List ℕ) → list_any (λ other. is_same other name) names ≡ false → AllByRecursion (λ other. other ≢ name) names
not_same [] name e = tt
not_same (other ∷ names) name e =
    let both = or_parts _ _ e in
    (λ same. true≢false (sym (is_same-refl other name same) ∙ both.0), not_same names name both.1)

free_apart : (names : List (List ℕ)) (name : List ℕ) → is_free names name ≡ true → AllByRecursion (λ other. other ≢ name) names
free_apart names name free = not_same names name (elim (cases_Bool (list_any (λ other. is_same other name) names)) [
  | inl taken ↦ absurd (true≢false (sym free ∙ ap not taken))
  | inr none ↦ none
])

few_names : (d : Design) (before : List Copy) (m : Copy) → IsNew d before m → m.id.slot < 65536 → length (names_with d before m.id.lib) < 2 ^ 63
few_names d before m new room = let at = new.slot in omega (arith, at, room)

one_apart : (d : Design) (before : List Copy) (m : Copy) (lib : LibId) → IsNew d before m → m.name ≡ copy_name (names_with d before m.id.lib) (name_at d m.of) → m.id.slot < 65536
    → Apart (names_with d before lib) → Apart (names_with d (before ++ m ∷ []) lib)
one_apart d before m lib new named room apart = elim (cases_eq m.id.lib.0 lib.0) [
  | inl same ↦
      let at : m.id.lib ≡ lib = λ i. record { 0 = same i } in
      let names = names_with d before m.id.lib in
      let free = (copies_get_least_free names (name_at d m.of).id (few_names d before m new room)).free in
      let name : m.name.id ≡ numbered (name_at d m.of).id (free_number names (name_at d m.of).id) = ap (λ (n : Name). n.id) named in
      let others : AllByRecursion (λ other. other ≢ m.name.id) (names_with d before lib) =
      subst (λ l. AllByRecursion (λ other. other ≢ m.name.id) (names_with d before l)) at (subst (λ n. AllByRecursion (λ other. other ≢ n) names) (sym name) (free_apart names _ free)) in
      let last : last_name m lib ≡ m.name.id ∷ [] = cond-true _ _ _ (eq-eqb m.id.lib.0 lib.0 same) in
      subst (λ ns. Apart ns) (sym (names_more d before m lib ∙ ap (λ ns. names_with d before lib ++ ns) last)) (apart_more (names_with d before lib) m.name.id others apart)
  | inr other ↦
      let last : last_name m lib ≡ [] = cond-false _ _ _ (ne_eqb m.id.lib.0 lib.0 other) in
      subst (λ ns. Apart ns) (sym (names_more d before m lib ∙ ap (λ ns. names_with d before lib ++ ns) last ∙ append-nil (names_with d before lib))) apart
]

pub names_apart : (d : Design) (ms before : List Copy) → AreNew d before ms → AreNamed d before ms → HaveRoom ms → (lib : LibId) → Apart (names_with d before lib) → Apart (names_with d (before ++ ms) lib)
names_apart d [] before new named room lib apart = subst (λ l. Apart (names_with d l lib)) (sym (append-nil before)) apart
names_apart d (m ∷ ms) before new named room lib apart =
    subst (λ l. Apart (names_with d l lib)) (append_assoc before (m ∷ []) ms)
    (names_apart d ms (before ++ m ∷ []) new.1 named.1 (λ n member. room n (inr member)) lib (one_apart d before m lib new.0 named.0 (room m (inl refl)) apart))

-- ---- names are not too many

one_few : (d : Design) (before : List Copy) (m : Copy) (lib : LibId) → IsNew d before m → m.id.slot < 65536 → length (names_with d before lib) ≤ 65536 → length (names_with d (before ++ m ∷ []) lib) ≤ 65536
one_few d before m lib new room few = elim (cases_eq m.id.lib.0 lib.0) [
  | inl same ↦
      let at : m.id.lib ≡ lib = λ i. record { 0 = same i } in
      let last : last_name m lib ≡ m.name.id ∷ [] = cond-true _ _ _ (eq-eqb m.id.lib.0 lib.0 same) in
      let all = ap (λ (ns : List (List ℕ)). length ns) (names_more d before m lib ∙ ap (λ ns. names_with d before lib ++ ns) last) in
      let sum = length-append (names_with d before lib) (m.name.id ∷ []) in
      let here : m.id.slot ≡ length (names_with d before lib) = new.slot ∙ ap (λ l. length (names_with d before l)) at in
      omega (arith, all, sum, here, room)
  | inr other ↦
      let last : last_name m lib ≡ [] = cond-false _ _ _ (ne_eqb m.id.lib.0 lib.0 other) in
      subst (λ (ns : List (List ℕ)). length ns ≤ 65536) (sym (names_more d before m lib ∙ ap (λ ns. names_with d before lib ++ ns) last ∙ append-nil (names_with d before lib))) few
]

pub names_few : (d : Design) (ms before : List Copy) → AreNew d before ms → HaveRoom ms → (lib : LibId) → length (names_with d before lib) ≤ 65536 → length (names_with d (before ++ ms) lib) ≤ 65536
names_few d [] before new room lib few = subst (λ l. length (names_with d l lib) ≤ 65536) (sym (append-nil before)) few
names_few d (m ∷ ms) before new room lib few =
    subst (λ l. length (names_with d l lib) ≤ 65536) (append_assoc before (m ∷ []) ms)
    (names_few d ms (before ++ m ∷ []) new.1 (λ n member. room n (inr member)) lib (one_few d before m lib new.0 (room m (inl refl)) few))

-- ---- names are identifiers

digits_bytes : (ds : List ℕ) → AllDigits 10 ds → AllByRecursion (λ b. b < 256) ds
digits_bytes [] d = tt
digits_bytes (c ∷ cs) d =
    let r = digit_from_value c d.0 in
    let small : c < 256 = omega (arith, r) in
    (small, digits_bytes cs d.1)

ending_passes : AllByRecursion (λ b. is_identifier_byte b ≡ true) (codes "_u")
ending_passes = (refl, (refl, tt))

ending_bytes : AllByRecursion (λ b. b < 256) (codes "_u")
ending_bytes = (omega arith, (omega arith, tt))

numbered_all : (P : ℕ → Type 0) (text : List ℕ) (n : ℕ) → AllByRecursion P text → AllByRecursion P (codes "_u") → AllByRecursion P (decimal n) → AllByRecursion P (numbered text n)
numbered_all P text n front ending digits = all_append P (text ++ codes "_u") (decimal n) (all_append P text (codes "_u") front ending) digits

pub numbered_is_identifier : (id : List ℕ) (n : ℕ) → n < 2 ^ 64 → IsIdentifier id → IsIdentifier (numbered id n)
numbered_is_identifier id n small is =
    let number = decimal_is_IsNumeral n small in
    let some = number.0.0 in
    let sum = length-append (id ++ codes "_u") (decimal n) in
    let long : 0 < length (numbered id n) = omega (arith, some, sum) in (
      long,
      All-from_recursion (λ b. is_identifier_byte b ≡ true) (numbered id n)
          (numbered_all (λ b. is_identifier_byte b ≡ true) id n (recursion_from_All (λ b. is_identifier_byte b ≡ true) id is.1) ending_passes (digits_pass (decimal n) number.0.1)),
    )

numbered_bytes : (text : List ℕ) (n : ℕ) → n < 2 ^ 64 → IsBytes text → IsBytes (numbered text n)
numbered_bytes text n small is =
    All-from_recursion (λ b. b < 256) (numbered text n)
    (numbered_all (λ b. b < 256) text n (recursion_from_All (λ b. b < 256) text is) ending_bytes (digits_bytes (decimal n) (decimal_is_IsNumeral n small).0.1))

name_typed : (names : List (List ℕ)) (name : Name) → length names < 2 ^ 63 → IsTypedName name → IsTypedName (copy_name names name)
name_typed names name few typed =
    let small = free_number_small names name.id few in
    record { id = numbered_is_identifier name.id (free_number names name.id) small typed.id; shown = of name.shown typed.shown }
  where
    of : (o : Option (List ℕ)) → IfSome o IsBytes → IfSome (option_map (λ text. numbered text (free_number names name.id)) o) IsBytes
    of None is = tt
    of (Some text) is = numbered_bytes text (free_number names name.id) (free_number_small names name.id few) is

pub copy_typed : (d : Design) (ms before : List Copy) → AreNew d before ms → AreNamed d before ms → HaveRoom ms → ((m : Copy) → Member ms m → IsTypedName (name_at d m.of)) → (m : Copy) → Member ms m → IsTypedName m.name
copy_typed d [] before new named room typed m member = absurd member
copy_typed d (v ∷ ms) before new named room typed m member = elim member [
  | inl e ↦
      subst (λ (x : Copy). IsTypedName x.name) e
      (subst IsTypedName (sym named.0) (name_typed (names_with d before v.id.lib) (name_at d v.of) (few_names d before v new.0 (room v (inl refl))) (typed v (inl refl))))
  | inr rest ↦ copy_typed d ms (before ++ v ∷ []) new.1 named.1 (λ n k. room n (inr k)) (λ n k. typed n (inr k)) m rest
]

-- ---- the directories

more_names : (body : CellBody) (o : Option Lib) → IsSome o → cell_names (cells_of (option_map (lib_with_more body) o)) ≡ cell_names (cells_of o) ++ body.name.id ∷ []
more_names body None is = let never : false ≡ true = is in absurd (true≢false (sym never))
more_names body (Some lib) is = map-append (λ (c : CellBody). c.name.id) lib.cells (body ∷ [])

abbrev HasNames : Design → Design → List Copy → Type 0
HasNames d b before = (lib : LibId) → IsSome (lib_at d lib) → cell_names (cells_in b lib) ≡ names_with d before lib

one_named : (d b : Design) (before : List Copy) (m : Copy) (body : CellBody) → body.name ≡ m.name → IsOnTheWay d b before → IsNew d before m → HasNames d b before
    → HasNames d (with_more_cell b m.id.lib body) (before ++ m ∷ [])
one_named d b before m body name way new names lib is = elim (cases_eq lib.0 m.id.lib.0) [
  | inl same ↦
      let last : last_name m lib ≡ m.name.id ∷ [] = cond-true _ _ _ (eq-eqb m.id.lib.0 lib.0 (sym same)) in
      ap (λ (o : Option Lib). cell_names (cells_of o)) (more_same b m.id.lib body lib same)
      ∙ more_names body (lib_at b lib) (way.libs lib is)
      ∙ (λ i. names lib is i ++ (name i).id ∷ [])
      ∙ sym (names_more d before m lib ∙ ap (λ ns. names_with d before lib ++ ns) last)
  | inr apart ↦
      let last : last_name m lib ≡ [] = cond-false _ _ _ (ne_eqb m.id.lib.0 lib.0 (λ same. apart (sym same))) in
      ap (λ (o : Option Lib). cell_names (cells_of o)) (more_other b m.id.lib body lib apart)
      ∙ names lib is
      ∙ sym (names_more d before m lib ∙ ap (λ ns. names_with d before lib ++ ns) last ∙ append-nil (names_with d before lib))
]

new_names : (d : Design) (ms : List Copy) (b : Design) (before : List Copy) → IsOnTheWay d b before → AreNew d before ms → HasNames d b before → HasNames d (edited b (new_cells d ms)) (before ++ ms)
new_names d [] b before way new names lib is = names lib is ∙ ap (λ l. names_with d l lib) (sym (append-nil before))
new_names d (m ∷ ms) b before way new names lib is =
    let body = body_of d m.of new.0.cell in
    let after = with_more_cell b m.id.lib (renamed m body.0) in
    ap (λ e. cell_names (cells_in e lib)) (one_step d b m ms body.0 body.1)
    ∙ new_names d ms after (before ++ m ∷ []) (one_more d b before m (renamed m body.0) way new.0) new.1 (one_named d b before m (renamed m body.0) refl way new.0 names) lib is
    ∙ ap (λ l. names_with d l lib) (append_assoc before (m ∷ []) ms)

one_turned_names : (all : List Copy) (w : Owner) (turns : Bool) (c : Option Contents) (b : Design) (lib : LibId)
    → cell_names (cells_in (edited b (cond turns (option_to_list (option_map (λ inside. inner w.own (turned all w.path inside)) c)) [])) lib) ≡ cell_names (cells_in b lib)
one_turned_names all w false c b lib = refl
one_turned_names all w true None b lib = refl
one_turned_names all w true (Some inside) b lib = (once_alike b (inner w.own (turned all w.path inside)) tt).names lib

turned_names : (d : Design) (all : List Copy) (ws : List Owner) (b : Design) (lib : LibId) → cell_names (cells_in (edited b (turned_cells d all ws)) lib) ≡ cell_names (cells_in b lib)
turned_names d all [] b lib = refl
turned_names d all (w ∷ ws) b lib =
    ap (λ e. cell_names (cells_in e lib)) (edited-append (turned_cell d all w) (turned_cells d all ws) b)
    ∙ turned_names d all ws (edited b (turned_cell d all w)) lib
    ∙ one_turned_names all w (is_turned all w.path) (contents_at d w.cell) b lib

-- the directories after a split are those before with the names of the copies
pub split_names : (d : Design) (s : Split) → AreNew d [] s.copies → (lib : LibId) → IsSome (lib_at d lib) → cell_names (cells_in (edited d (split_edits d s)) lib) ≡ names_with d s.copies lib
split_names d s new lib is =
    ap (λ e. cell_names (cells_in e lib)) (edited-append (new_cells d s.copies) (turned_cells d s.copies (owners s)) d)
    ∙ turned_names d s.copies (owners s) (edited d (new_cells d s.copies)) lib
    ∙ new_names d s.copies d [] (at_the_start d) new (λ l there. sym (append-nil (cell_names (cells_in d l)))) lib is
