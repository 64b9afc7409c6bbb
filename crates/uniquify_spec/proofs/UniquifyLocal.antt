-- Uniquify sees what it needs and no more.
use Rattle.std.proofs.Common.{◌≡◌, ◌⊎◌, ◌↔◌, ℕ, zero, suc, List, [], ◌∷◌, map, refl, sym, ap, subst, ◌∙◌, inl, inr, Option, Some, None, true, not}
use Rattle.std.specs.Prelude.{filter, is_none}
use Rattle.std.specs.List.{Contains}
use Rattle.std.specs.Option.{option_map_or}
use Rattle.netlist_schema.specs.Design.{Design, cell_at, cells_in}
use Rattle.netlist_schema.specs.Hierarchy.{HasInst, IsBelow, placed, deeper, insts_at}
use Rattle.netlist_schema.specs.Names.{cell_names}
use Rattle.netlist_schema.specs.Types.{CellId, Inst, Object, TopHead}
use Rattle.netlist_schema.specs.declared.ids.Object.TheVariants.{Directory}
use Rattle.edit_rules_spec.specs.Edit.{IsChanged}
use Rattle.edit_rules_spec.specs.Objects.{AgreesOn}
use Rattle.edit_rules_spec.specs.Paths.{most_cells}
use Rattle.edit_rules_spec.specs.Rule.{Rule, refuse}
use Rattle.edit_rules_spec.specs.Seen.{contents_at}
use Rattle.edit_rules_spec.specs.declared.reply.Reply.TheVariants.{NoTop}
use Rattle.edit_rules_spec.proofs.Reached.{either_same, iff_trans}
use Rattle.edit_rules_spec.proofs.Same.{both_ways}
use Rattle.flat_spec.specs.Occurrences.{Occurrence, under, occurrences_from}
use Rattle.flat_spec.specs.Trees.{Grown as Tree, grown}
use Rattle.flat_spec.proofs.ListLemmas.{Member, Member-contains, Member-append_cases, Member-from_map, Member-from_filter, filter_same}
use Rattle.uniquify_spec.specs.Blocks.{is_block, trees_below, blocks_below, is_first, root_of, each_block}
use Rattle.uniquify_spec.specs.Copies.{Copy, copies_after}
use Rattle.edit_rules_spec.specs.Edit.{IsMade}
use Rattle.edit_rules_spec.specs.Local.{IsLocal}
use Rattle.uniquify_spec.specs.Needs.{IsPartOfEach, UniquifyNeedsBelow, UniquifyNeeds}
use Rattle.edit_rules_spec.specs.Objects.{contents_object}
use Rattle.uniquify_spec.specs.Rows.{split_row, uniquify_row}
use Rattle.uniquify_spec.specs.Split.{Split, Owner, copy_owner, kept_owner, owners, split_edits}
use Rattle.uniquify_spec.proofs.Agreed.{contents_agree, parts_agree, directory_agrees, insts_agree, block_agrees, copies_same, edits_same}
use Rattle.uniquify_spec.proofs.BlockSplit.{copies_are_new, copy_comes, copy_lib}
use Rattle.uniquify_spec.proofs.CopyLists.{AreNew}
use Rattle.uniquify_spec.proofs.SplitValid.{uniquify_keeps_valid}
use Rattle.uniquify_spec.proofs.SplitEdits.{block_is_cell, split_writes, split_last, split_finds, split_places}

-- ---- trees

-- the cell of one of the instances, or a cell below it
abbrev Under : Design → List Inst → CellId → Type 0
Under d insts c = (x : Inst) × Member insts x × ((c ≡ x.of) ⊎ IsBelow d c x.of)

under_cell : (d : Design) (k c : CellId) → Under d (insts_at d k) c → IsBelow d c k
under_cell d k c u =
    let has : HasInst d k u.0 = Member-contains (insts_at d k) u.0 u.1 in
    elim u.2 [ inl same ↦ subst (λ x. IsBelow d x k) (sym same) (placed u.0 has) | inr below ↦ deeper u.0 has below ]

trees_same : (d e : Design) (n : ℕ) (insts : List Inst) → ((c : CellId) → Under d insts c → insts_at d c ≡ insts_at e c) → grown d n insts ≡ grown e n insts
trees_same d e zero [] same = refl
trees_same d e zero (x ∷ insts) same = refl
trees_same d e (suc n) [] same = refl
trees_same d e (suc n) (x ∷ insts) same =
    let deep = trees_same d e n (insts_at d x.of) (λ c u. same c (x, inl refl, inr (under_cell d x.of c u))) in
    let wide = trees_same d e (suc n) insts (λ c u. same c (u.0, inr u.1, u.2)) in
    let here = ap (grown e n) (same x.of (x, inl refl, inl refl)) in
    λ t. Tree x.of ((deep ∙ here) t) (wide t)

-- the cells in a tree
tree_cells : (d : Design) (n : ℕ) (insts : List Inst) (i : ℕ) (o : Occurrence) → Member (occurrences_from i (grown d n insts)) o → Under d insts o.cell
tree_cells d zero [] i o member = absurd member
tree_cells d zero (x ∷ insts) i o member = absurd member
tree_cells d (suc n) [] i o member = absurd member
tree_cells d (suc n) (x ∷ insts) i o member =
    let mine : List Occurrence = record { path = []; cell = x.of } ∷ occurrences_from 0 (grown d n (insts_at d x.of)) in
    elim (Member-append_cases (map (under i) mine) (occurrences_from (suc i) (grown d (suc n) insts)) o member) [
      | inl left ↦
          let from = Member-from_map (under i) mine o left in
          let cell : o.cell ≡ from.0.cell = ap (λ (v : Occurrence). v.cell) (sym from.2) in
          elim from.1 [
            | inl e ↦ (x, inl refl, inl (cell ∙ ap (λ (v : Occurrence). v.cell) (sym e)))
            | inr rest ↦ (x, inl refl, inr (subst (λ c. IsBelow d c x.of) (sym cell) (under_cell d x.of from.0.cell (tree_cells d n (insts_at d x.of) 0 from.0 rest))))
          ]
      | inr right ↦ let more = tree_cells d (suc n) insts (suc i) o right in (more.0, inr more.1, more.2)
    ]

trees_below_same : (d e : Design) (top : CellId) → insts_at d top ≡ insts_at e top → ((c : CellId) → IsBelow d c top → insts_at d c ≡ insts_at e c) → trees_below d top ≡ trees_below e top
unfolding trees_below
trees_below_same d e top here below = trees_same d e most_cells (insts_at d top) (λ c u. below c (under_cell d top c u)) ∙ ap (grown e most_cells) here

below_cells : (d : Design) (top : CellId) (o : Occurrence) → Member (occurrences_from 0 (trees_below d top)) o → IsBelow d o.cell top
unfolding trees_below
below_cells d top o member = under_cell d top o.cell (tree_cells d most_cells (insts_at d top) 0 o member)

block_is_below : (d : Design) (top : CellId) (o : Occurrence) → Member (blocks_below d top) o → IsBelow d o.cell top × (is_block d o.cell ≡ true)
block_is_below d top o member =
    let both = Member-from_filter (λ (o : Occurrence). is_block d o.cell) (occurrences_from 0 (trees_below d top)) o member in
    (below_cells d top o both.0, both.1)

-- ---- below

there : (d e : Design) {c k : CellId} → ((j : CellId) → (j ≡ k) ⊎ IsBelow d j k → insts_at d j ≡ insts_at e j) → IsBelow d c k → IsBelow e c k
there d e same (placed {id} inst has) = placed inst (subst (λ xs. Contains xs inst) (same id (inl refl)) has)
there d e same (deeper {inner} {id} inst has below) =
    deeper inst (subst (λ xs. Contains xs inst) (same id (inl refl)) has)
    (there d e (λ j at. same j (inr (elim at [ inl here ↦ subst (λ x. IsBelow d x id) (sym here) (placed inst has) | inr under ↦ deeper inst has under ]))) below)

back : (d e : Design) {c k : CellId} → ((j : CellId) → (j ≡ k) ⊎ IsBelow d j k → insts_at d j ≡ insts_at e j) → IsBelow e c k → IsBelow d c k
back d e same (placed {id} inst has) = placed inst (subst (λ xs. Contains xs inst) (sym (same id (inl refl))) has)
back d e same (deeper {inner} {id} inst has below) =
    let here : HasInst d id inst = subst (λ xs. Contains xs inst) (sym (same id (inl refl))) has in
    deeper inst here
    (back d e (λ j at. same j (inr (elim at [ inl at_it ↦ subst (λ x. IsBelow d x id) (sym at_it) (placed inst here) | inr under ↦ deeper inst here under ]))) below)

-- ---- what the needs give

-- two designs that agree on what is needed below this top
record AgreeBelow (d e : Design) (top : CellId) : Type 0 where
  pub inside : contents_at d top ≡ contents_at e top
  pub cells : (c : CellId) → IsBelow d c top → cell_at d c ≡ cell_at e c
  pub contents : (c : CellId) → IsBelow d c top → contents_at d c ≡ contents_at e c
  pub directories : (c : CellId) → IsBelow d c top → is_block d c ≡ true → cell_names (cells_in d c.lib) ≡ cell_names (cells_in e c.lib)

agree_below : (d e : Design) (top : TopHead) → AgreesOn d e (UniquifyNeedsBelow d (Some top)) → AgreeBelow d e top.cell
agree_below d e top agree = record {
  inside = contents_agree d e top.cell (agree (contents_object top.cell) (inl refl));
  cells = λ c below. parts_agree d e c (λ o part. agree o (inr (inl (c, below, part))));
  contents = λ c below. contents_agree d e c (agree (contents_object c) (inr (inl (c, below, inr refl))));
  directories = λ c below block. directory_agrees d e c.lib (agree (Directory c.lib) (inr (inr (c, below, block, refl))));
}

insts_region : (d e : Design) (top : CellId) → AgreeBelow d e top → (j : CellId) → (j ≡ top) ⊎ IsBelow d j top → insts_at d j ≡ insts_at e j
insts_region d e top agree j at = elim at [
  | inl same ↦ subst (λ x. insts_at d x ≡ insts_at e x) (sym same) (insts_agree d e top agree.inside)
  | inr below ↦ insts_agree d e j (agree.contents j below)
]

blocks_same : (d e : Design) (top : CellId) → AgreeBelow d e top → blocks_below d top ≡ blocks_below e top
blocks_same d e top agree =
    filter_same (λ (o : Occurrence). is_block d o.cell) (λ (o : Occurrence). is_block e o.cell) (occurrences_from 0 (trees_below d top))
    (λ o member. block_agrees d e o.cell (agree.contents o.cell (below_cells d top o member)))
    ∙ ap (λ f. filter (λ (o : Occurrence). is_block e o.cell) (occurrences_from 0 f))
    (trees_below_same d e top (insts_agree d e top agree.inside) (λ c below. insts_agree d e c (agree.contents c below)))

abbrev later_of : List Occurrence → List Occurrence
later_of os = filter (λ o. not (is_first os o)) os

later_block : (d : Design) (top : CellId) (o : Occurrence) → Member (later_of (blocks_below d top)) o → IsBelow d o.cell top × (is_block d o.cell ≡ true)
later_block d top o member = block_is_below d top o (Member-from_filter (λ q. not (is_first (blocks_below d top) q)) (blocks_below d top) o member).0

-- the copy of a split is of a block below the top
copy_block : (d : Design) (top : CellId) (m : Copy) → Member (each_block d top).copies m → IsBelow d m.of top × (is_block d m.of ≡ true) × (m.id.lib ≡ m.of.lib)
copy_block d top m member =
    let from = copy_comes d (later_of (blocks_below d top)) [] m member in
    let block = later_block d top from.0 from.1 in
    (subst (λ k. IsBelow d k top) (sym from.3) block.0, ap (is_block d) from.3 ∙ block.1, copy_lib d (later_of (blocks_below d top)) [] m member)

each_block_same : (d e : Design) (top : CellId) → AgreeBelow d e top → each_block d top ≡ each_block e top
each_block_same d e top agree =
    let os = blocks_below d top in
    let copies = copies_same d e (later_of os) []
    (λ o member. let block = later_block d top o member in agree.directories o.cell block.0 block.1)
    (λ o member. agree.cells o.cell (later_block d top o member).0) in
    let blocks = blocks_same d e top agree in
    (λ t. record { kept = root_of top ∷ filter (is_first os) os; copies = copies t })
    ∙ (λ t. record { kept = root_of top ∷ filter (is_first (blocks t)) (blocks t); copies = copies_after e [] (later_of (blocks t)) })

kept_region : (d : Design) (top : CellId) (o : Occurrence) → Member (each_block d top).kept o → (o.cell ≡ top) ⊎ IsBelow d o.cell top
kept_region d top o member = elim member [
  | inl e ↦ inl (ap (λ (v : Occurrence). v.cell) (sym e))
  | inr rest ↦ inr (block_is_below d top o (Member-from_filter (is_first (blocks_below d top)) (blocks_below d top) o rest).0).0
]

owner_contents : (d e : Design) (top : CellId) → AgreeBelow d e top → (w : Owner) → Member (owners (each_block d top)) w → contents_at d w.cell ≡ contents_at e w.cell
owner_contents d e top agree w member = elim (Member-append_cases (map copy_owner (each_block d top).copies) (map kept_owner (each_block d top).kept) w member) [
  | inl copy ↦
      let m = Member-from_map copy_owner (each_block d top).copies w copy in
      subst (λ (v : Owner). contents_at d v.cell ≡ contents_at e v.cell) m.2 (agree.contents m.0.of (copy_block d top m.0 m.1).0)
  | inr kept ↦
      let k = Member-from_map kept_owner (each_block d top).kept w kept in
      subst (λ (v : Owner). contents_at d v.cell ≡ contents_at e v.cell) k.2
      (elim (kept_region d top k.0 k.1) [
        | inl root ↦ subst (λ x. contents_at d x ≡ contents_at e x) (sym root) agree.inside
        | inr below ↦ agree.contents k.0.cell below
      ])
]

-- ---- the fields of locality

abbrev none : Split
none = record { kept = []; copies = [] }

abbrev split_at : Design → Option TopHead → Split
split_at d o = option_map_or (λ (top : TopHead). each_block d top.cell) o none

abbrev row_at : Design → Option TopHead → Rule
row_at d o = split_row d (refuse (is_none o) NoTop ∷ []) (split_at d o)

row_at_same : (d e : Design) (o : Option TopHead) → AgreesOn d e (UniquifyNeedsBelow d o) → row_at d o ≡ row_at e o
row_at_same d e None agree = refl
row_at_same d e (Some top) agree =
    let same = agree_below d e top agree in
    let s = each_block d top.cell in
    let refusals = refuse (is_none (Some top)) NoTop ∷ [] in
    let edits = edits_same d e s (λ m member. same.cells m.of (copy_block d top.cell m member).0) (owner_contents d e top.cell same) in
    (λ t. record (split_row d refusals s) { edits = edits t }) ∙ ap (split_row e refusals) (each_block_same d e top.cell same)

part_same : {P Q : CellId → Type 0} → ((id : CellId) → P id ↔ Q id) → (o : Object) → IsPartOfEach P o ↔ IsPartOfEach Q o
part_same same o = (λ h. (h.0, (same h.0).0 h.1, h.2), λ h. (h.0, (same h.0).1 h.1, h.2))

needs_at : (d e : Design) (top : Option TopHead) (o : Object) → AgreesOn d e (UniquifyNeedsBelow d top) → UniquifyNeedsBelow d top o ↔ UniquifyNeedsBelow e top o
needs_at d e None o agree = (λ h. h, λ h. h)
needs_at d e (Some top) o agree =
    let same = agree_below d e top agree in
    let region = insts_region d e top.cell same in
    let below : (id : CellId) → IsBelow d id top.cell ↔ IsBelow e id top.cell = λ id. (there d e region, back d e region) in
    either_same (λ h. h, λ h. h)
    (either_same (part_same below o) (
      λ h. (h.0, (below h.0).0 h.1, sym (block_agrees d e h.0 (same.contents h.0 h.1)) ∙ h.2, h.3),
      λ h. let inside = (below h.0).1 h.1 in (h.0, inside, block_agrees d e h.0 (same.contents h.0 inside) ∙ h.2, h.3),
    ))

writes_at : (d : Design) (top : Option TopHead) (o : Object) → IsChanged (split_edits d (split_at d top)) o → UniquifyNeedsBelow d top o ⊎ IsMade (split_edits d (split_at d top)) o
writes_at d None o is = absurd is
writes_at d (Some top) o is = elim (split_writes d (each_block d top.cell) o is) [
  | inl directory ↦
      let block = copy_block d top.cell directory.0 directory.1 in
      inl (inr (inr (directory.0.of, block.0, block.1, directory.2 ∙ ap Directory block.2)))
  | inr rest ↦ elim rest [
    | inl kept ↦ inl (elim (kept_region d top.cell kept.0 kept.1) [
      | inl root ↦ inl (kept.2 ∙ ap contents_object root)
      | inr below ↦ inr (inl (kept.0.cell, below, inr kept.2))
    ])
    | inr made ↦ inr made
  ]
]

new_at : (d : Design) (top : Option TopHead) → AreNew d [] (split_at d top).copies
new_at d None = tt
new_at d (Some top) = copies_are_new d (later_of (blocks_below d top.cell)) [] (λ o member. block_is_cell d o.cell (later_block d top.cell o member).1)

pub uniquify_is_local : IsLocal uniquify_row UniquifyNeeds (Unit {0})
uniquify_is_local = record {
  same = λ d e closed grown agree. row_at_same d e d.top agree ∙ ap (row_at e) grown.top;
  needs_same = λ d e grown agree o. iff_trans (needs_at d e d.top o agree) (both_ways (λ top. UniquifyNeedsBelow e top o) d.top e.top grown.top);
  writes_seen = λ d o is. writes_at d d.top o is;
  last = λ d. split_last d (split_at d d.top) (new_at d d.top);
  finds = λ d. split_finds d (split_at d d.top) (new_at d d.top);
  places = λ d closed. split_places d (split_at d d.top) closed (new_at d d.top);
  valid = λ d typed valid. uniquify_keeps_valid d valid;
  refuses = λ d. inr (λ never. never);
}
