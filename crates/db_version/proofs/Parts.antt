-- Names in parts, one after another.
use Rattle.std.proofs.Common.{◌≡◌, ◌≤◌, ◌+◌, ℕ, suc, arith, Bool, true, false, cond, List, [], ◌∷◌, ◌++◌, map, length, take, drop, Some, None, refl, sym, ap, subst, ◌∙◌, slice_get, append_assoc, append-nil, Global}
use Rattle.std.specs.Prelude.{option_map}
use Rattle.std.specs.Arc.{arc_value}
use Rattle.std.specs.List.{flat_map, list_any, position_from}
use Rattle.std.specs.declared.sync.Arc.{Arc}
use Rattle.std.proofs.lemmas.Bool.{or_from, or_left, or_right}
use Rattle.std.proofs.lemmas.List.{length-map, take-append-drop}
use Rattle.std.proofs.lemmas.List.Concat.{flat_map-append}
use Rattle.std.proofs.lemmas.List.Folds.{flat_map-map, list_any-append}
use Rattle.netlist_schema.specs.Names.{AreDistinct, cell_names}
use Rattle.netlist_schema.specs.Types.{CellBody}
use Rattle.netlist_schema.proofs.Lists.{take_next}
use Rattle.edit_rules_spec.specs.Find.{is_name, place_of}
use Rattle.edit_rules_spec.proofs.Lists.{Apart, apart_of, apart_right, distinct_of, each_left}

abbrev Names : Type 0
Names = List (List ℕ)

abbrev pub Part : Type 0
Part = Arc (List (List ℕ)) Global

abbrev pub all_of : List Part → List (List ℕ)
all_of parts = flat_map arc_value parts

-- ---- names that differ

apart_left : (xs ys : Names) → Apart (xs ++ ys) → Apart xs
apart_left [] ys all = tt
apart_left (x ∷ xs) ys all = (each_left (λ y. x ≡ y → ⊥) xs ys all.0, apart_left xs ys all.1)

pub distinct_before : (xs ys : List (List ℕ)) → AreDistinct (xs ++ ys) → AreDistinct xs
distinct_before xs ys distinct = distinct_of xs (apart_left xs ys (apart_of (xs ++ ys) distinct))

pub distinct_behind : (xs ys : List (List ℕ)) → AreDistinct (xs ++ ys) → AreDistinct ys
distinct_behind xs ys distinct = distinct_of ys (apart_right xs ys (apart_of (xs ++ ys) distinct))

-- ---- parts of a list

all_map : (parts : List Part) → flat_map (λ (x : Names). x) (map arc_value parts) ≡ all_of parts
all_map parts = flat_map-map (λ (x : Names). x) arc_value parts

-- one part more behind the last
pub part_behind : (made front : List Part) (names : List (List ℕ)) → map arc_value made ≡ map arc_value front ++ names ∷ [] → all_of made ≡ all_of front ++ names
part_behind made front names is =
    sym (all_map made) ∙ ap (flat_map (λ (x : Names). x)) is ∙ flat_map-append (λ (x : Names). x) (map arc_value front) (names ∷ [])
    ∙ ap (λ xs. flat_map (λ (x : Names). x) (map arc_value front) ++ xs) (append-nil names) ∙ ap (λ xs. xs ++ names) (all_map front)

-- the parts up to a place, and those from it on
pub all_split : (parts : List Part) (n : ℕ) → all_of parts ≡ all_of (take n parts) ++ all_of (drop n parts)
all_split parts n = ap all_of (sym (take-append-drop n parts)) ∙ flat_map-append arc_value (take n parts) (drop n parts)

next_take : (parts : List Part) (i : ℕ) (part : Part) → slice_get parts i ≡ Some part → take (i + 1) parts ≡ take i parts ++ part ∷ []
next_take parts i part found = let one : i + 1 ≡ suc i = omega arith in ap (λ n. take n parts) one ∙ take_next parts i part found

pub all_next : (parts : List Part) (i : ℕ) (part : Part) → slice_get parts i ≡ Some part → all_of (take (i + 1) parts) ≡ all_of (take i parts) ++ arc_value part
all_next parts i part found =
    ap all_of (next_take parts i part found) ∙ flat_map-append arc_value (take i parts) (part ∷ []) ∙ ap (λ xs. all_of (take i parts) ++ xs) (append-nil (arc_value part))

-- the whole from a part on
pub all_from : (parts : List Part) (i : ℕ) (part : Part) → slice_get parts i ≡ Some part → all_of parts ≡ (all_of (take i parts) ++ arc_value part) ++ all_of (drop (i + 1) parts)
all_from parts i part found = all_split parts (i + 1) ∙ ap (λ xs. xs ++ all_of (drop (i + 1) parts)) (all_next parts i part found)

-- a part that is added behind those before it
pub part_distinct : (old : List (List ℕ)) (parts : List Part) (i : ℕ) (part : Part) → AreDistinct (old ++ all_of parts) → slice_get parts i ≡ Some part → AreDistinct ((old ++ all_of (take i parts)) ++ arc_value part)
part_distinct old parts i part distinct found =
    let here = all_of (take i parts) ++ arc_value part in
    let whole : old ++ all_of parts ≡ (old ++ here) ++ all_of (drop (i + 1) parts) = ap (λ xs. old ++ xs) (all_from parts i part found) ∙ sym (append_assoc old here (all_of (drop (i + 1) parts))) in
    subst AreDistinct (sym (append_assoc old (all_of (take i parts)) (arc_value part))) (distinct_before (old ++ here) (all_of (drop (i + 1) parts)) (subst AreDistinct whole distinct))

pub part_added : (old names new : List (List ℕ)) (parts : List Part) (i : ℕ) (part : Part) → slice_get parts i ≡ Some part → names ≡ old ++ all_of (take i parts) → new ≡ names ++ arc_value part → new ≡ old ++ all_of (take (i + 1) parts)
part_added old names new parts i part found before is =
    is ∙ ap (λ xs. xs ++ arc_value part) before ∙ append_assoc old (all_of (take i parts)) (arc_value part) ∙ ap (λ xs. old ++ xs) (sym (all_next parts i part found))

long : (xs ys : Names) → length (xs ++ ys) ≡ length xs + length ys
long [] ys = omega arith
long (x ∷ xs) ys = omega (arith, long xs ys)

pub part_count : (parts : List Part) (i : ℕ) (part : Part) → slice_get parts i ≡ Some part → length (all_of (take (i + 1) parts)) ≡ length (all_of (take i parts)) + length (arc_value part)
part_count parts i part found = ap length (all_next parts i part found) ∙ long (all_of (take i parts)) (arc_value part)

pub part_long : (parts : List Part) (i : ℕ) (part : Part) → slice_get parts i ≡ Some part → length (all_of (take i parts)) + length (arc_value part) ≤ length (all_of parts)
part_long parts i part found =
    let here = all_of (take i parts) ++ arc_value part in
    omega (arith, ap length (all_from parts i part found), long here (all_of (drop (i + 1) parts)), long (all_of (take i parts)) (arc_value part))

-- names of parts and of cells in one part more
pub joined_distinct : (parts front back : List Part) (now more : List (List ℕ)) (n : ℕ) → all_of parts ≡ now → front ≡ take n parts → back ≡ drop n parts → AreDistinct (now ++ more) → AreDistinct (all_of back ++ more)
joined_distinct parts front back now more n is front_is back_is distinct =
    distinct_behind (all_of front) (all_of back ++ more) (subst AreDistinct (ap (λ xs. xs ++ more) (sym is ∙ whole) ∙ append_assoc (all_of front) (all_of back) more) distinct)
  where
    whole : all_of parts ≡ all_of front ++ all_of back
    whole = all_split parts n ∙ λ i. all_of (sym front_is i) ++ all_of (sym back_is i)

pub joined_is : (parts front back made : List Part) (now more names : List (List ℕ)) (n : ℕ) → all_of parts ≡ now → front ≡ take n parts → back ≡ drop n parts → names ≡ all_of back ++ more
    → map arc_value made ≡ map arc_value front ++ names ∷ [] → all_of made ≡ now ++ more
joined_is parts front back made now more names n is front_is back_is names_are made_is =
    part_behind made front names made_is ∙ ap (λ xs. all_of front ++ xs) names_are ∙ sym (append_assoc (all_of front) (all_of back) more)
    ∙ ap (λ xs. xs ++ more) (sym (all_split parts n ∙ λ i. all_of (sym front_is i) ++ all_of (sym back_is i)) ∙ is)

pub count_more : (names : List (List ℕ)) (more : List (Arc CellBody Global)) → length (names ++ cell_names (map arc_value more)) ≡ length names + length more
count_more [] more = length-map (map arc_value more) (λ (b : CellBody). b.name.id) ∙ length-map more arc_value ∙ zero_less (length more)
  where
    zero_less : (n : ℕ) → n ≡ 0 + n
    zero_less n = omega arith
count_more (x ∷ names) more = omega (arith, count_more names more)

-- ---- places

module _ (test : List ℕ → Bool) where
  shifted : (a i : ℕ) (xs : Names) → position_from test (a + i) xs ≡ option_map (λ k. a + k) (position_from test i xs)
  shifted a i [] = refl
  shifted a i (x ∷ xs) = at (test x) (shifted a (i + 1) xs)
    where
      next : a + i + 1 ≡ a + (i + 1)
      next = omega arith

      at : (b : Bool) → position_from test (a + (i + 1)) xs ≡ option_map (λ k. a + k) (position_from test (i + 1) xs) → cond b (Some (a + i)) (position_from test (a + i + 1) xs) ≡ option_map (λ k. a + k) (cond b (Some i) (position_from test (i + 1) xs))
      at true later = refl
      at false later = ap (λ n. position_from test n xs) next ∙ later

  behind : (i : ℕ) (xs ys : Names) → position_from test i xs ≡ None → position_from test i (xs ++ ys) ≡ position_from test (length xs + i) ys
  behind i [] ys none = let same : i ≡ 0 + i = omega arith in ap (λ n. position_from test n ys) same
  behind i (x ∷ xs) ys none = at (test x) none (behind (i + 1) xs ys)
    where
      next : length xs + (i + 1) ≡ suc (length xs) + i
      next = omega arith

      at : (b : Bool) → cond b (Some i) (position_from test (i + 1) xs) ≡ None → (position_from test (i + 1) xs ≡ None → position_from test (i + 1) (xs ++ ys) ≡ position_from test (length xs + (i + 1)) ys)
          → cond b (Some i) (position_from test (i + 1) (xs ++ ys)) ≡ position_from test (suc (length xs) + i) ys
      at true off later = absurd (cc off)
      at false off later = later off ∙ ap (λ n. position_from test n ys) next

  still : (i k : ℕ) (xs ys : Names) → position_from test i xs ≡ Some k → position_from test i (xs ++ ys) ≡ Some k
  still i k [] ys found = absurd (cc found)
  still i k (x ∷ xs) ys found = at (test x) found (still (i + 1) k xs ys)
    where
      at : (b : Bool) → cond b (Some i) (position_from test (i + 1) xs) ≡ Some k → (position_from test (i + 1) xs ≡ Some k → position_from test (i + 1) (xs ++ ys) ≡ Some k) → cond b (Some i) (position_from test (i + 1) (xs ++ ys)) ≡ Some k
      at true is later = is
      at false is later = later is

-- a name that is not among the first names has its place among those behind them
place_behind : (name : List ℕ) (xs ys : Names) → place_of name xs ≡ None → place_of name (xs ++ ys) ≡ option_map (λ k. length xs + k) (place_of name ys)
place_behind name xs ys none = behind (λ other. is_name other name) 0 xs ys none ∙ shifted (λ other. is_name other name) (length xs) 0 ys

-- no name of the parts so far
pub no_place : (name : List ℕ) → place_of name (all_of []) ≡ None
no_place name = refl

-- nor of the next one
pub place_next : (name : List ℕ) (parts : List Part) (i : ℕ) (part : Part) → slice_get parts i ≡ Some part → place_of name (all_of (take i parts)) ≡ None → place_of name (arc_value part) ≡ None → place_of name (all_of (take (i + 1) parts)) ≡ None
place_next name parts i part found before here =
    ap (place_of name) (all_next parts i part found) ∙ place_behind name (all_of (take i parts)) (arc_value part) before ∙ ap (option_map (λ k. length (all_of (take i parts)) + k)) here

-- the place in a part is one of the whole
pub place_at : (name : List ℕ) (parts : List Part) (i k : ℕ) (part : Part) → slice_get parts i ≡ Some part → place_of name (all_of (take i parts)) ≡ None → place_of name (arc_value part) ≡ Some k
    → place_of name (all_of parts) ≡ Some (length (all_of (take i parts)) + k)
place_at name parts i k part found before here =
    let near : place_of name (all_of (take i parts) ++ arc_value part) ≡ Some (length (all_of (take i parts)) + k) =
    place_behind name (all_of (take i parts)) (arc_value part) before ∙ ap (option_map (λ n. length (all_of (take i parts)) + n)) here in
    ap (place_of name) (all_from parts i part found) ∙ still (λ other. is_name other name) 0 (length (all_of (take i parts)) + k) (all_of (take i parts) ++ arc_value part) (all_of (drop (i + 1) parts)) near

-- ---- names that are the same ignoring case

pub any_next : (test : List ℕ → Bool) (parts : List Part) (i : ℕ) (part : Part) → slice_get parts i ≡ Some part → list_any test (all_of (take i parts)) ≡ false → list_any test (arc_value part) ≡ false → list_any test (all_of (take (i + 1) parts)) ≡ false
any_next test parts i part found before here =
    ap (list_any test) (all_next parts i part found) ∙ list_any-append test (all_of (take i parts)) (arc_value part) ∙ or_from (list_any test (all_of (take i parts))) (list_any test (arc_value part)) before here

pub any_at : (test : List ℕ → Bool) (parts : List Part) (i : ℕ) (part : Part) → slice_get parts i ≡ Some part → list_any test (arc_value part) ≡ true → list_any test (all_of parts) ≡ true
any_at test parts i part found here =
    let near = all_of (take i parts) ++ arc_value part in
    let there : list_any test near ≡ true = list_any-append test (all_of (take i parts)) (arc_value part) ∙ or_right (list_any test (all_of (take i parts))) (list_any test (arc_value part)) here in
    ap (list_any test) (all_from parts i part found) ∙ list_any-append test near (all_of (drop (i + 1) parts)) ∙ or_left (list_any test near) (list_any test (all_of (drop (i + 1) parts))) there
