-- What the bodies of a layer come to in its library.
use Rattle.std.proofs.Common.{◌≡◌, ◌⊎◌, inl, inr, ℕ, zero, suc, arith, ◌+◌, ◌<◌, ◌≤◌, true, false, cond, List, [], ◌∷◌, ◌++◌, map, length, Option, Some, None, refl, sym, ap, subst, ◌∙◌, slice_get, option_map, unwrap_or, append-nil, take, Global}
use Rattle.std.specs.Prelude.{slice_set, IsSomeAnd}
use Rattle.std.specs.Arc.{arc_value}
use Rattle.std.specs.BTreeMap.{BTreeMap, IsOrdered, get, is_at}
use Rattle.std.specs.Cmp.{nat_cmp_total}
use Rattle.std.specs.FinMap.Entries.{below_all}
use Rattle.std.specs.List.{AllByRecursion}
use Rattle.std.specs.List.Sorted.{IsStrictlySortedBy}
use Rattle.std.specs.Map.{keys_of, lookup}
use Rattle.std.specs.Ordering.{nat_cmp, is_eq, is_lt}
use Rattle.std.specs.declared.cmp.Ordering.{Ordering}
use Rattle.std.specs.declared.cmp.Ordering.TheVariants.{Less}
use Rattle.std.specs.declared.sync.Arc.{Arc}
use Rattle.std.proofs.lemmas.Bool.{and_from, cases_order}
use Rattle.std.proofs.lemmas.Map.Entries.{btree_map_get_place}
use Rattle.std.proofs.lemmas.Option.{slice_get-map}
use Rattle.netlist_schema.specs.Names.{AreDistinct, cell_names}
use Rattle.netlist_schema.specs.Types.{CellBody, Lib}
use Rattle.netlist_schema.proofs.Lists.{take_next}
use Rattle.edit_rules_spec.proofs.Overlaid.{list_ext}
use Rattle.ver_table.specs.Entries.{IsInOrder}
use Rattle.ver_table.proofs.Places.{cmp_above, cmp_below, cmp_same}
use Rattle.db_version.specs.Changes.{cells_set, KeepNames}
use Rattle.db_draft.specs.Laid.{Fits, cells_changed, cells_laid, libs_laid}
use Rattle.db_draft.specs.Drafts.{AllSuit, AreSound}
use Rattle.db_draft.specs.Layers.{IsBlank, changes_of, over_of}
use Rattle.db_draft.specs.declared.layer.Layer.{Layer}
use Rattle.db_draft.proofs.Layers.{get_changed}
use Rattle.db_draft.proofs.Suiting.{no_lib, suits_at}
use Rattle.db_draft.proofs.Works.{lib_here, lib_laid, lib_none}
use Rattle.netlist_schema.proofs.Cells.{All-slice_get}
use Rattle.std.proofs.lemmas.List.{map-append, take_all}

abbrev Shared : Type 0
Shared = Arc CellBody Global

abbrev pub valued : List (ℕ × Shared) → List (ℕ × CellBody)
valued es = map (λ e. (e.0, arc_value e.1)) es

below_pairs : (x : ℕ) (es : List (ℕ × Shared)) → AllByRecursion (λ y. nat_cmp x y ≡ Less) (keys_of es) → below_all nat_cmp x (valued es) ≡ true
below_pairs x [] all = refl
below_pairs x (e ∷ es) all = and_from _ _ (ap is_lt all.0) (below_pairs x es all.1)

pub sorted_pairs : (es : List (ℕ × Shared)) → IsStrictlySortedBy nat_cmp (keys_of es) → IsInOrder (valued es)
unfolding IsStrictlySortedBy
sorted_pairs [] sorted = refl
sorted_pairs (e ∷ es) sorted = and_from _ _ (below_pairs e.0 es sorted.0) (sorted_pairs es sorted.1)

pub kept_names : (es : List (ℕ × Shared)) (names : List (List ℕ)) → ((i k : ℕ) (v : Shared) → slice_get es i ≡ Some (k, v) → slice_get names k ≡ Some (arc_value v).name.id) → KeepNames names (valued es)
kept_names [] names each = tt
kept_names (e ∷ es) names each = (each 0 e.0 e.1 refl, kept_names es names (λ i k v is. each (suc i) k v is))

-- ---- by place

same_option : (o : Option CellBody) → o ≡ option_map (λ old. old) o
same_option None = refl
same_option (Some body) = refl

set_same : (cells : List CellBody) (k : ℕ) (body : CellBody) → slice_get (slice_set cells k body) k ≡ option_map (λ _. body) (slice_get cells k)
set_same [] k body = refl
set_same (c ∷ cells) zero body = refl
set_same (c ∷ cells) (suc k) body = set_same cells k body

set_other : (cells : List CellBody) (k at : ℕ) (body : CellBody) → (k ≡ at → ⊥) → slice_get (slice_set cells k body) at ≡ slice_get cells at
set_other [] k at body other = refl
set_other (c ∷ cells) zero zero body other = absurd (other refl)
set_other (c ∷ cells) zero (suc at) body other = refl
set_other (c ∷ cells) (suc k) zero body other = refl
set_other (c ∷ cells) (suc k) (suc at) body other = set_other cells k at body (λ e. other (ap suc e))

off_below : (k : ℕ) (es : List (ℕ × Shared)) → AllByRecursion (λ y. nat_cmp k y ≡ Less) (keys_of es) → lookup (is_at (nat_cmp k)) es ≡ None
off_below k [] all = refl
off_below k (e ∷ es) all = ap (λ (r : Ordering). cond (is_eq r) (Some e.1) (lookup (is_at (nat_cmp k)) es)) all.0 ∙ off_below k es all.1

set_at : (es : List (ℕ × Shared)) (cells : List CellBody) (k : ℕ) → IsStrictlySortedBy nat_cmp (keys_of es)
    → slice_get (cells_set cells (valued es)) k ≡ option_map (λ old. unwrap_or (option_map arc_value (lookup (is_at (nat_cmp k)) es)) old) (slice_get cells k)
unfolding IsStrictlySortedBy
set_at [] cells k sorted = same_option (slice_get cells k)
set_at (e ∷ es) cells k sorted = set_at es (slice_set cells e.0 (arc_value e.1)) k sorted.1 ∙ one (cases_order k e.0)
  where
    found : Option Shared
    found = lookup (is_at (nat_cmp k)) es

    apart : (k ≡ e.0 → ⊥) → is_eq (nat_cmp k e.0) ≡ false → option_map (λ old. unwrap_or (option_map arc_value found) old) (slice_get (slice_set cells e.0 (arc_value e.1)) k)
        ≡ option_map (λ old. unwrap_or (option_map arc_value (cond (is_eq (nat_cmp k e.0)) (Some e.1) found)) old) (slice_get cells k)
    apart other off =
        ap (option_map (λ old. unwrap_or (option_map arc_value found) old)) (set_other cells e.0 k (arc_value e.1) (λ is. other (sym is)))
        ∙ ap (λ b. option_map (λ old. unwrap_or (option_map arc_value (cond b (Some e.1) found)) old) (slice_get cells k)) (sym off)

    one : (k ≡ e.0) ⊎ ((k < e.0) ⊎ (e.0 < k)) → option_map (λ old. unwrap_or (option_map arc_value found) old) (slice_get (slice_set cells e.0 (arc_value e.1)) k)
        ≡ option_map (λ old. unwrap_or (option_map arc_value (cond (is_eq (nat_cmp k e.0)) (Some e.1) found)) old) (slice_get cells k)
    one (inl is) =
        let none : found ≡ None = ap (λ n. lookup (is_at (nat_cmp n)) es) is ∙ off_below e.0 es sorted.0 in
        let on : is_eq (nat_cmp k e.0) ≡ true = ap is_eq (cmp_same k e.0 is) in
        ap (λ (o : Option Shared). option_map (λ old. unwrap_or (option_map arc_value o) old) (slice_get (slice_set cells e.0 (arc_value e.1)) k)) none
        ∙ sym (same_option (slice_get (slice_set cells e.0 (arc_value e.1)) k))
        ∙ ap (λ n. slice_get (slice_set cells e.0 (arc_value e.1)) n) is ∙ set_same cells e.0 (arc_value e.1) ∙ ap (λ n. option_map (λ _. arc_value e.1) (slice_get cells n)) (sym is)
        ∙ ap (λ b. option_map (λ old. unwrap_or (option_map arc_value (cond b (Some e.1) found)) old) (slice_get cells k)) (sym on)
    one (inr (inl less)) = apart (λ is. omega arith) (ap is_eq (cmp_below k e.0 less))
    one (inr (inr more)) = apart (λ is. omega arith) (ap is_eq (cmp_above k e.0 more))

pub set_is_changed : (m : BTreeMap ℕ Shared) (cells : List CellBody) → IsOrdered nat_cmp m → cells_set cells (valued m.entries) ≡ cells_changed (λ slot. option_map arc_value (get nat_cmp m slot)) 0 cells
set_is_changed m cells ordered =
    list_ext _ _ (λ k. set_at m.entries cells k ordered ∙ sym (get_changed (λ slot. option_map arc_value (get nat_cmp m slot)) 0 k k cells (omega arith)))

-- nothing is changed where there is no entry
pub none_changed : (m : BTreeMap ℕ Shared) (cells : List CellBody) → m.entries ≡ [] → cells_changed (λ slot. option_map arc_value (get nat_cmp m slot)) 0 cells ≡ cells
none_changed m cells none =
    list_ext _ _ (λ k. get_changed (λ slot. option_map arc_value (get nat_cmp m slot)) 0 k k cells (omega arith)
    ∙ ap (λ (es : List (ℕ × Shared)). option_map (λ old. unwrap_or (option_map arc_value (lookup (is_at (nat_cmp k)) es)) old) (slice_get cells k)) none
    ∙ sym (same_option (slice_get cells k)))

-- the entries of a layer that fits
pub entries_named : (m : BTreeMap ℕ Shared) (cells : List CellBody) → IsOrdered nat_cmp m → ((slot : ℕ) (body : CellBody) → option_map arc_value (get nat_cmp m slot) ≡ Some body → IsSomeAnd (slice_get cells slot) (λ old. body.name.id ≡ old.name.id))
    → KeepNames (cell_names cells) (valued m.entries)
entries_named m cells ordered fits = kept_names m.entries (cell_names cells) (λ i k v is. named cells k (arc_value v) (fits k (arc_value v) (ap (option_map arc_value) (btree_map_get_place nat_cmp_total m i k v ordered is))))
  where
    named : (cs : List CellBody) (k : ℕ) (body : CellBody) → IsSomeAnd (slice_get cs k) (λ old. body.name.id ≡ old.name.id) → slice_get (cell_names cs) k ≡ Some body.name.id
    named [] k body is = absurd is
    named (c ∷ cs) zero body is = ap (λ n. Some n) (sym is)
    named (c ∷ cs) (suc k) body is = named cs k body is

-- ---- a library with its layer

pub blank_laid : (layer : Layer) (lib : Lib) → IsBlank layer → lib ≡ record lib { cells = cells_laid (over_of layer) lib.cells }
blank_laid layer lib blank = λ i. record { head = lib.head; cells = same i }
  where
    same : lib.cells ≡ cells_laid (over_of layer) lib.cells
    same = sym (
        ap (λ (cs : List CellBody). cs ++ (over_of layer).added) (none_changed layer.changed lib.cells blank.changed)
        ∙ ap (λ bodies. lib.cells ++ map arc_value bodies) blank.added ∙ append-nil lib.cells)

module _ (layer : Layer) (lib shelf : Lib) (pairs : List (ℕ × CellBody)) (same : shelf ≡ lib) (ordered : IsOrdered nat_cmp layer.changed) (is : pairs ≡ changes_of layer) where
  pub in_order : IsInOrder pairs
  in_order = subst (λ (ps : List (ℕ × CellBody)). IsInOrder ps) (sym is) (sorted_pairs layer.changed.entries ordered)

  pub keep_names : Fits lib.cells (over_of layer) → KeepNames (cell_names shelf.cells) pairs
  keep_names fits =
      subst (λ (l : Lib). KeepNames (cell_names l.cells) pairs) (sym same)
      (subst (λ (ps : List (ℕ × CellBody)). KeepNames (cell_names lib.cells) ps) (sym is) (entries_named layer.changed lib.cells ordered fits))

  module _ (changed : Lib) (made : changed ≡ record shelf { cells = cells_set shelf.cells pairs }) where
    cells_are : changed.cells ≡ cells_changed (over_of layer).changed 0 lib.cells
    cells_are =
        ap (λ (l : Lib). l.cells) made ∙ ap (λ (l : Lib). cells_set l.cells pairs) same ∙ ap (cells_set lib.cells) is
        ∙ set_is_changed layer.changed lib.cells ordered

    head_is : changed.head ≡ lib.head
    head_is = ap (λ (l : Lib). l.head) made ∙ ap (λ (l : Lib). l.head) same

    pub changed_laid : length (over_of layer).added ≡ 0 → changed ≡ record lib { cells = cells_laid (over_of layer) lib.cells }
    changed_laid none = λ i. record { head = head_is i; cells = (cells_are ∙ sym (append-nil (cells_changed (over_of layer).changed 0 lib.cells)) ∙ ap (λ more. cells_changed (over_of layer).changed 0 lib.cells ++ more) (sym (empty (over_of layer).added none))) i }
      where
        empty : (bodies : List CellBody) → length bodies ≡ 0 → bodies ≡ []
        empty [] is_none = refl
        empty (b ∷ bodies) is_none = absurd (omega arith)

    module _ (bodies : List Shared) (added : bodies ≡ layer.cells.items) where
      pub whole : changed.cells ++ map arc_value bodies ≡ cells_laid (over_of layer) lib.cells
      whole = ap (λ (cs : List CellBody). cs ++ map arc_value bodies) cells_are ∙ ap (λ bs. cells_changed (over_of layer).changed 0 lib.cells ++ map arc_value bs) added

      pub more_few : length (cells_laid (over_of layer) lib.cells) ≤ 65536 → length (changed.cells ++ map arc_value bodies) ≤ 65536
      more_few few = subst (λ (cs : List CellBody). length cs ≤ 65536) (sym whole) few

      pub more_distinct : AreDistinct (cell_names (cells_laid (over_of layer) lib.cells)) → AreDistinct (cell_names (changed.cells ++ map arc_value bodies))
      more_distinct distinct = subst (λ (cs : List CellBody). AreDistinct (cell_names cs)) (sym whole) distinct

      pub more_laid : (made_more : Lib) → made_more ≡ record changed { cells = changed.cells ++ map arc_value bodies } → made_more ≡ record lib { cells = cells_laid (over_of layer) lib.cells }
      more_laid made_more is_more = is_more ∙ λ i. record { head = head_is i; cells = whole i }

-- ---- a library of a design with its layer

module _ (libs : List Lib) (layers : List Layer) (all : AllSuit libs layers) (sound : AreSound (libs_laid (map over_of layers) libs)) (k : ℕ) where
  pub none_laid : None ≡ slice_get layers k → None ≡ slice_get (libs_laid (map over_of layers) libs) k
  none_laid none = sym (lib_none (map over_of layers) libs k (no_lib libs layers k all (sym none)))

  pub absent_laid : (found : Option (Arc Lib Global)) → found ≡ None → option_map arc_value found ≡ slice_get libs k → None ≡ slice_get (libs_laid (map over_of layers) libs) k
  absent_laid found none is = sym (lib_none (map over_of layers) libs k (sym (ap (option_map arc_value) (sym none) ∙ is)))

  module _ (found : Option (Arc Lib Global)) (shelf : Arc Lib Global) (layer : Layer) (is : found ≡ Some shelf) (at : option_map arc_value found ≡ slice_get libs k) (has : Some layer ≡ slice_get layers k) where
    there : slice_get libs k ≡ Some (arc_value shelf)
    there = sym (ap (option_map arc_value) (sym is) ∙ at)

    laid_here : slice_get (libs_laid (map over_of layers) libs) k ≡ Some (lib_laid (over_of layer) (arc_value shelf))
    laid_here = lib_here (map over_of layers) libs k (arc_value shelf) (over_of layer) there (slice_get-map over_of layers k ∙ ap (option_map over_of) (sym has))

    pub laid_fits : Fits (arc_value shelf).cells (over_of layer)
    laid_fits = let suits = suits_at libs layers k (arc_value shelf) layer all there (sym has) in suits.fits

    pub laid_few : length (cells_laid (over_of layer) (arc_value shelf).cells) ≤ 65536
    laid_few = All-slice_get (λ (l : Lib). length l.cells ≤ 65536) (libs_laid (map over_of layers) libs) k (lib_laid (over_of layer) (arc_value shelf)) sound.few laid_here

    pub laid_distinct : AreDistinct (cell_names (cells_laid (over_of layer) (arc_value shelf).cells))
    laid_distinct = All-slice_get (λ (l : Lib). AreDistinct (cell_names l.cells)) (libs_laid (map over_of layers) libs) k (lib_laid (over_of layer) (arc_value shelf)) sound.distinct laid_here

    pub laid_at : (made : Lib) → made ≡ record (arc_value shelf) { cells = cells_laid (over_of layer) (arc_value shelf).cells } → Some made ≡ slice_get (libs_laid (map over_of layers) libs) k
    laid_at made same = ap (λ (l : Lib). Some l) same ∙ sym laid_here

-- ---- all libraries of a design

pub length_libs : (layers : List Layer) (libs : List Lib) → AllSuit libs layers → length (libs_laid (map over_of layers) libs) ≡ length libs
length_libs [] [] all = refl
length_libs [] (l ∷ libs) all = absurd all
length_libs (o ∷ layers) [] all = absurd all
length_libs (o ∷ layers) (l ∷ libs) all = ap suc (length_libs layers libs all.1)

pub next_laid : (all_libs : List Lib) (shelves more : List (Arc Lib Global)) (found : Option (Arc Lib Global)) (shelf : Arc Lib Global) (k : ℕ) → map arc_value shelves ≡ take k all_libs → option_map arc_value found ≡ slice_get all_libs k → found ≡ Some shelf → more ≡ shelves ++ shelf ∷ []
    → map arc_value more ≡ take (k + 1) all_libs
next_laid all_libs shelves more found shelf k so_far at is pushed =
    let there : slice_get all_libs k ≡ Some (arc_value shelf) = sym (ap (option_map arc_value) (sym is) ∙ at) in
    let next : suc k ≡ k + 1 = omega arith in
    ap (map arc_value) pushed ∙ map-append arc_value shelves (shelf ∷ []) ∙ ap (λ (ls : List Lib). ls ++ arc_value shelf ∷ []) so_far
    ∙ sym (take_next all_libs k (arc_value shelf) there) ∙ ap (λ n. take n all_libs) next

pub none_missing : {P : Type 0} (all_libs : List Lib) (found : Option (Arc Lib Global)) (k : ℕ) → option_map arc_value found ≡ slice_get all_libs k → found ≡ None → k < length all_libs → P
none_missing all_libs found k at none within = missing all_libs k (sym (ap (option_map arc_value) (sym none) ∙ at)) within
  where
    missing : {Q : Type 0} (ls : List Lib) (i : ℕ) → slice_get ls i ≡ None → i < length ls → Q
    missing [] i is less = absurd (omega arith)
    missing (l ∷ ls) zero is less = cc
    missing (l ∷ ls) (suc i) is less = missing ls i is (omega arith)

pub all_laid : (layers : List Layer) (libs : List Lib) (shelves : List (Arc Lib Global)) (k : ℕ) → AllSuit libs layers → map arc_value shelves ≡ take k (libs_laid (map over_of layers) libs) → length libs ≤ k → map arc_value shelves ≡ libs_laid (map over_of layers) libs
all_laid layers libs shelves k all so_far long =
    so_far ∙ take_all k (libs_laid (map over_of layers) libs) (omega (arith, length_libs layers libs all))
