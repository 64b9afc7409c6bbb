-- Which occurrences get copies, and when there are too many.
use Rattle.std.proofs.Common.{◌≡◌, ◌≢◌, ◌≤◌, ◌<◌, ◌↔◌, ℕ, List, [], ◌∷◌, ◌++◌, length, refl, sym, ap, subst, ◌∙◌, inl, inr, arith, Option, Some, None, true, not, cond, append-nil, append_assoc, eq-eqb}
use Rattle.std.specs.Prelude.{◌==◌, ◌&&◌, filter, nat_le}
use Rattle.std.specs.List.{Contains, list_any}
use Rattle.std.specs.Option.{option_map, option_map_or}
use Rattle.std.proofs.lemmas.Bool.{cases_Bool, true≢false, cond-true, cond-false, leb-true, not_from_false, or_cases}
use Rattle.netlist_schema.specs.Design.{Design, lib_at, cells_in}
use Rattle.netlist_schema.specs.Hierarchy.{IsCell}
use Rattle.netlist_schema.specs.Types.{CellId, Lib, LibId, TopHead}
use Rattle.netlist_schema.specs.Valid.{IsValid}
use Rattle.netlist_schema.proofs.Cells.{All-slice_get}
use Rattle.flat_spec.specs.Occurrences.{Occurrence, occurrences}
use Rattle.flat_spec.specs.Paths.{cell_along, Reaches}
use Rattle.flat_spec.proofs.ListLemmas.{Member, Contains-member, Member-filter, Member-from_filter, filter_same}
use Rattle.flat_spec.proofs.PathLemmas.{Some-same}
use Rattle.uniquify_spec.specs.Blocks.{is_block, blocks_below, is_first, each_block, along_path}
use Rattle.uniquify_spec.specs.Copies.{Copy, names_with}
use Rattle.uniquify_spec.specs.Laws.{has_step, IsOwned, IsDoneBelow, IsTooFull}
use Rattle.uniquify_spec.specs.Rows.{too_many_cells, below_top, uniquified}
use Rattle.uniquify_spec.specs.Split.{Split}
use Rattle.uniquify_spec.proofs.BlockSplit.{block_reached, copy_made, copy_comes, each_block_is_split}
use Rattle.uniquify_spec.proofs.CopyLists.{AreNew, copy-cases, length-names, length-names_more, new_apart}
use Rattle.uniquify_spec.proofs.PathSplit.{along_path_is_split}
use Rattle.uniquify_spec.proofs.Reached.{top_is_cell}
use Rattle.uniquify_spec.proofs.SplitAlike.{along_root}
use Rattle.uniquify_spec.proofs.SplitCells.{IsSplit, split_design, own}
use Rattle.uniquify_spec.proofs.SplitLaws.{uniquify_is_split_design}
use Rattle.uniquify_spec.proofs.Unfolded.{below, below_are, below_has_step}
use Rattle.uniquify_spec.proofs.ValidNames.{names_few}
use Rattle.uniquify_spec.proofs.SplitValid.{not_many}

-- ---- the list

has_step-true : (path : List ℕ) → path ≢ [] → has_step path ≡ true
has_step-true [] some = absurd (some refl)
has_step-true (i ∷ path) some = refl

pub blocks_are_occurrences : (d : Design) (top : CellId) → IsValid d → blocks_below d top ≡ filter (λ o. has_step o.path && is_block d o.cell) (occurrences d top)
blocks_are_occurrences d top valid =
    filter_same (λ (o : Occurrence). is_block d o.cell) (λ (o : Occurrence). has_step o.path && is_block d o.cell) (below d top)
    (λ o member. ap (λ b. b && is_block d o.cell) (sym (has_step-true o.path (below_has_step d top o member))))
    ∙ ap (filter (λ (o : Occurrence). has_step o.path && is_block d o.cell)) (sym (below_are d valid top))

-- ---- firsts and later ones

abbrev later_of : List Occurrence → List Occurrence
later_of os = filter (λ o. not (is_first os o)) os

-- where a path leads after the split
led : (d : Design) (r : CellId) (s : Split) → IsSplit d r s → (path : List ℕ) (c : CellId) → Reaches d r path c → Reaches (split_design d s) r path (own s path c)
led d r s is path c reached = along_root d r s is path ∙ ap (option_map (own s path)) reached

owned : (d : Design) (r : CellId) → IsValid d → IsCell d r → (o : Occurrence) → Member (blocks_below d r) o → IsOwned d (split_design d (each_block d r)) r o
owned d r valid is_cell o member =
    let s = each_block d r in
    let os = blocks_below d r in
    let is = each_block_is_split d valid r is_cell in
    let reached = block_reached d valid r o member in
    let there = led d r s is o.path o.cell reached in
    record {
      first = λ first. elim (copy-cases s.copies o.path) [
        | inl absent ↦ subst (λ id. Reaches (split_design d s) r o.path id) (ap (λ (c : Option Copy). option_map_or (λ copy. copy.id) c o.cell) absent.0) there
        | inr found ↦
            let from = copy_comes d (later_of os) [] found.0 found.2 in
            let both = Member-from_filter (λ q. not (is_first os q)) os from.0 from.1 in
            let path : from.0.path ≡ o.path = sym from.2 ∙ found.3 in
            let cell : from.0.cell ≡ o.cell = Some-same (cell_along d r o.path) (subst (λ p. Reaches d r p from.0.cell) path (block_reached d valid r from.0 both.0)) reached in
            let same : ◌≡◌ {A = Occurrence} from.0 o = λ t. record { path = path t; cell = cell t } in
            absurd (true≢false (sym both.1 ∙ ap (λ q. not (is_first os q)) same ∙ ap not first))
      ];
      later = λ later.
          let made = copy_made d (later_of os) [] o (Member-filter (λ q. not (is_first os q)) os o member (not_from_false (is_first os o) later)) in
          elim (copy-cases s.copies o.path) [
            | inl absent ↦ absurd (absent.1 made.0 made.1 made.2)
            | inr found ↦ (
              found.0.id,
              subst (λ id. Reaches (split_design d s) r o.path id) (ap (λ (c : Option Copy). option_map_or (λ copy. copy.id) c o.cell) found.1) there,
              λ old. new_apart d s.copies is.new found.0 found.2 found.0.id old refl,
            )
          ];
    }

pub firsts_keep_their_cells : (d : Design) (top : TopHead) → IsDoneBelow d top (uniquified d) → (o : Occurrence) → Contains (blocks_below d top.cell) o → IsOwned d (uniquified d).design top.cell o
firsts_keep_their_cells d top is o has =
    subst (λ e. IsOwned d e top.cell o) (uniquify_is_split_design d top is)
    (owned d top.cell is.valid (top_is_cell d top is.has_top is.valid) o (Contains-member (blocks_below d top.cell) o has))

-- ---- too many

-- in the end there are more names than the place of each copy
names_never_less : (d : Design) (ms before : List Copy) (lib : LibId) → length (names_with d before lib) ≤ length (names_with d (before ++ ms) lib)
names_never_less d [] before lib = subst (λ l. length (names_with d before lib) ≤ length (names_with d l lib)) (sym (append-nil before)) (omega arith)
names_never_less d (m ∷ ms) before lib =
    let one = length-names_more d before m lib in
    let more = names_never_less d ms (before ++ m ∷ []) lib in
    subst (λ l. length (names_with d before lib) ≤ length (names_with d l lib)) (append_assoc before (m ∷ []) ms) (omega (arith, one, more))

slot_before_end : (d : Design) (ms before : List Copy) → AreNew d before ms → (m : Copy) → Member ms m → m.id.slot < length (names_with d (before ++ ms) m.id.lib)
slot_before_end d [] before new m member = absurd member
slot_before_end d (v ∷ ms) before new m member = elim member [
  | inl e ↦ subst (λ (x : Copy). x.id.slot < length (names_with d (before ++ v ∷ ms) x.id.lib)) e
      (subst (λ l. v.id.slot < length (names_with d l v.id.lib)) (append_assoc before (v ∷ []) ms)
      (let more = names_never_less d ms (before ++ v ∷ []) v.id.lib in
      let one = length-names_more d before v v.id.lib in
      let here : ◌≡◌ {A = ℕ} (cond (v.id.lib.0 == v.id.lib.0) 1 0) 1 = cond-true _ _ _ (eq-eqb v.id.lib.0 v.id.lib.0 refl) in
      let at = new.0.slot in
      omega (arith, more, one, here, at)))
  | inr rest ↦
      subst (λ l. m.id.slot < length (names_with d l m.id.lib)) (append_assoc before (v ∷ []) ms) (slot_before_end d ms (before ++ v ∷ []) new.1 m rest)
]

any_found : (copies : List Copy) → list_any (λ (copy : Copy). nat_le 65536 copy.id.slot) copies ≡ true → (m : Copy) × Member copies m × (65536 ≤ m.id.slot)
any_found [] any = absurd (true≢false (sym any))
any_found (m ∷ ms) any = elim (or_cases _ _ any) [
  | inl here ↦ (m, inl refl, leb-true 65536 m.id.slot here)
  | inr later ↦ let more = any_found ms later in (more.0, inr more.1, more.2)
]

pub few_cells_in : (d : Design) → IsValid d → (lib : LibId) → length (cells_in d lib) ≤ 65536
few_cells_in d valid lib = at (lib_at d lib) refl
  where
    at : (o : Option Lib) → lib_at d lib ≡ o → length (option_map_or (λ (l : Lib). l.cells) o []) ≤ 65536
    at None is = omega arith
    at (Some l) is = All-slice_get (λ (l : Lib). length l.cells ≤ 65536) d.libs lib.0 l valid.limits.cells is

too_full : (d : Design) → IsValid d → (copies : List Copy) → AreNew d [] copies → (too_many_cells copies ≡ None → ⊥) ↔ IsTooFull d copies
too_full d valid copies new = (there, back)
  where
    there : (too_many_cells copies ≡ None → ⊥) → IsTooFull d copies
    there many = elim (cases_Bool (list_any (λ (copy : Copy). nat_le 65536 copy.id.slot) copies)) [
      | inr fits ↦ absurd (many (cond-false _ _ _ fits))
      | inl full ↦
          let m = any_found copies full in
          let last = slot_before_end d copies [] new m.0 m.1 in
          let count = length-names d copies m.0.id.lib in
          let high = m.2 in
          (m.0.id.lib, omega (arith, last, count, high))
    ]

    back : IsTooFull d copies → too_many_cells copies ≡ None → ⊥
    back full none =
        let before = length-names d [] full.0 in
        let old = few_cells_in d valid full.0 in
        let few : length (names_with d [] full.0) ≤ 65536 = omega (arith, before, old) in
        let all = names_few d copies [] new (not_many copies none) full.0 few in
        let count = length-names d copies full.0 in
        let over = full.1 in
        omega (arith, all, count, over)

new_below_top : (d : Design) (split : CellId → Split) → ((top : TopHead) → d.top ≡ Some top → AreNew d [] (split top.cell).copies) → AreNew d [] (below_top split d).copies
new_below_top d split new = at d.top refl
  where
    at : (o : Option TopHead) → d.top ≡ o → AreNew d [] (option_map_or (λ (top : TopHead). split top.cell) o (record { kept = []; copies = [] })).copies
    at None is = tt
    at (Some top) is = new top is

pub too_many_is_too_full : (d : Design) (path : List (List ℕ)) → IsValid d
    → ((too_many_cells (below_top (each_block d) d).copies ≡ None → ⊥) ↔ IsTooFull d (below_top (each_block d) d).copies)
    × ((too_many_cells (below_top (along_path d path) d).copies ≡ None → ⊥) ↔ IsTooFull d (below_top (along_path d path) d).copies)
too_many_is_too_full d path valid = (
  too_full d valid (below_top (each_block d) d).copies (new_below_top d (each_block d) (λ top at. (each_block_is_split d valid top.cell (top_is_cell d top at valid)).new)),
  too_full d valid (below_top (along_path d path) d).copies (new_below_top d (along_path d path) (λ top at. (along_path_is_split d valid path top.cell (top_is_cell d top at valid)).new)),
)
