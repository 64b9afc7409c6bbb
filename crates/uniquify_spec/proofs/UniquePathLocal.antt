-- UniquePath sees what it needs and no more.
use Rattle.std.proofs.Common.{◌≡◌, ◌⊎◌, ◌↔◌, ℕ, List, [], ◌∷◌, map, refl, sym, ap, subst, ◌∙◌, inl, inr, Option, Some, None, Bool, true, false, not}
use Rattle.std.specs.Prelude.{◌==◌, ◌&&◌, is_none, length, slice_get, option_and_then}
use Rattle.std.specs.List.{Contains}
use Rattle.std.specs.Option.{option_map_or}
use Rattle.netlist_schema.specs.Design.{Design, cell_at, cells_in}
use Rattle.netlist_schema.specs.Hierarchy.{insts_at}
use Rattle.netlist_schema.specs.Names.{cell_names}
use Rattle.netlist_schema.specs.Types.{CellId, Inst, Object, TopHead}
use Rattle.netlist_schema.specs.declared.ids.Object.TheVariants.{Directory}
use Rattle.edit_rules_spec.specs.Find.{inst_place}
use Rattle.edit_rules_spec.specs.Edit.{IsChanged}
use Rattle.edit_rules_spec.specs.Objects.{AgreesOn}
use Rattle.edit_rules_spec.specs.Paths.{resolves}
use Rattle.edit_rules_spec.specs.Rule.{Rule, refuse}
use Rattle.edit_rules_spec.specs.Seen.{contents_at}
use Rattle.edit_rules_spec.specs.Paths.{is_path}
use Rattle.edit_rules_spec.specs.declared.reply.Reply.TheVariants.{NoTop, NoPath}
use Rattle.edit_rules_spec.proofs.Reached.{either_same, iff_trans}
use Rattle.edit_rules_spec.proofs.Same.{both_ways}
use Rattle.flat_spec.specs.Occurrences.{Occurrence, under}
use Rattle.flat_spec.proofs.ListLemmas.{Member, Contains-member, Member-contains, Member-append_cases, Member-map, Member-from_map, Member-from_filter, filter_same}
use Rattle.uniquify_spec.specs.Blocks.{is_block, blocks, root_of, steps_along, along_path}
use Rattle.uniquify_spec.specs.Copies.{Copy, copies_after}
use Rattle.edit_rules_spec.specs.Edit.{IsMade}
use Rattle.edit_rules_spec.specs.Local.{IsLocal}
use Rattle.uniquify_spec.specs.Needs.{UniquePathNeedsBelow, UniquePathNeeds}
use Rattle.edit_rules_spec.specs.Objects.{contents_object}
use Rattle.uniquify_spec.specs.Rows.{split_row, unique_path_row}
use Rattle.uniquify_spec.specs.Split.{Split, Owner, copy_owner, kept_owner, owners, split_edits}
use Rattle.uniquify_spec.proofs.Agreed.{contents_agree, parts_agree, directory_agrees, insts_agree, block_agrees, copies_same, edits_same}
use Rattle.uniquify_spec.proofs.BlockSplit.{copies_are_new, copy_comes, copy_lib}
use Rattle.uniquify_spec.proofs.CopyLists.{AreNew}
use Rattle.uniquify_spec.proofs.SplitValid.{unique_path_keeps_valid}
use Rattle.uniquify_spec.proofs.SplitEdits.{block_is_cell, split_writes, split_last, split_finds, split_places}

-- the cell where the path begins, and those at the ends of its steps
abbrev IsAlong : Design → CellId → List (List ℕ) → CellId → Type 0
IsAlong d c names id = (id ≡ c) ⊎ ((o : Occurrence) × Member (steps_along d c names) o × (id ≡ o.cell))

abbrev behind : Design → List (List ℕ) → ℕ → Inst → List Occurrence
behind d steps i inst = map (under i) (root_of inst.of ∷ steps_along d inst.of steps)

abbrev at_place : Design → List (List ℕ) → List Inst → Option ℕ → List Occurrence
at_place d steps insts place = option_map_or (λ i. option_map_or (behind d steps i) (slice_get insts i) []) place []

-- ---- the steps

-- a cell along the rest of the path is along the whole path
along_more : (d : Design) (step : List ℕ) (steps : List (List ℕ)) (c : CellId) (i : ℕ) (inst : Inst) → inst_place step (insts_at d c) ≡ Some i → slice_get (insts_at d c) i ≡ Some inst
    → (id : CellId) → IsAlong d inst.of steps id → IsAlong d c (step ∷ steps) id
along_more d step steps c i inst is found id along =
    let list : steps_along d c (step ∷ steps) ≡ behind d steps i inst =
    ap (λ place. at_place d steps (insts_at d c) place) is ∙ ap (λ got. option_map_or (behind d steps i) got []) found in
    inr (elim along [
      | inl here ↦ (under i (root_of inst.of), subst (λ os. Member os (under i (root_of inst.of))) (sym list) (inl refl), here)
      | inr later ↦ (
        under i later.0,
        subst (λ os. Member os (under i later.0)) (sym list) (inr (Member-map (under i) (steps_along d inst.of steps) later.0 later.1)),
        later.2,
      )
    ])

-- designs with the same instances along a path have the same steps
steps_same : (d e : Design) (names : List (List ℕ)) (c : CellId) → ((id : CellId) → IsAlong d c names id → insts_at d id ≡ insts_at e id) → steps_along d c names ≡ steps_along e c names
steps_same d e [] c same = refl
steps_same d e (step ∷ steps) c same =
    at (inst_place step (insts_at d c)) refl (λ k inst further. steps_same d e steps inst.of further)
    ∙ ap (λ insts. at_place e steps insts (inst_place step insts)) (same c (inl refl))
  where
    got_at : (i : ℕ) (got : Option Inst) → ((inst : Inst) → got ≡ Some inst → steps_along d inst.of steps ≡ steps_along e inst.of steps)
        → option_map_or (behind d steps i) got [] ≡ option_map_or (behind e steps i) got []
    got_at i None further = refl
    got_at i (Some inst) further = let rest = further inst refl in λ t. map (under i) (root_of inst.of ∷ rest t)

    at : (place : Option ℕ) → inst_place step (insts_at d c) ≡ place
        → ((k : ℕ) (inst : Inst) → ((id : CellId) → IsAlong d inst.of steps id → insts_at d id ≡ insts_at e id) → steps_along d inst.of steps ≡ steps_along e inst.of steps)
        → at_place d steps (insts_at d c) place ≡ at_place e steps (insts_at d c) place
    at None is further = refl
    at (Some i) is further =
        got_at i (slice_get (insts_at d c) i)
        (λ inst found. further i inst (λ id along. same id (along_more d step steps c i inst is found id along)))

abbrev leads_at : Design → List (List ℕ) → List Inst → Option ℕ → Bool
leads_at d steps insts place = option_map_or (λ (inst : Inst). resolves d inst.of steps) (option_and_then (slice_get insts) place) false

-- and a path leads somewhere in both or in none
resolves_same : (d e : Design) (names : List (List ℕ)) (c : CellId) → ((id : CellId) → IsAlong d c names id → insts_at d id ≡ insts_at e id) → resolves d c names ≡ resolves e c names
resolves_same d e [] c same = refl
resolves_same d e (step ∷ steps) c same =
    at (inst_place step (insts_at d c)) refl (λ inst further. resolves_same d e steps inst.of further)
    ∙ ap (λ insts. leads_at e steps insts (inst_place step insts)) (same c (inl refl))
  where
    got_at : (got : Option Inst) → ((inst : Inst) → got ≡ Some inst → resolves d inst.of steps ≡ resolves e inst.of steps)
        → option_map_or (λ (inst : Inst). resolves d inst.of steps) got false ≡ option_map_or (λ (inst : Inst). resolves e inst.of steps) got false
    got_at None further = refl
    got_at (Some inst) further = further inst refl

    at : (place : Option ℕ) → inst_place step (insts_at d c) ≡ place
        → ((inst : Inst) → ((id : CellId) → IsAlong d inst.of steps id → insts_at d id ≡ insts_at e id) → resolves d inst.of steps ≡ resolves e inst.of steps)
        → leads_at d steps (insts_at d c) place ≡ leads_at e steps (insts_at d c) place
    at None is further = refl
    at (Some i) is further =
        got_at (slice_get (insts_at d c) i) (λ inst found. further inst (λ id along. same id (along_more d step steps c i inst is found id along)))

-- ---- what the needs give

record AgreeAlong (d e : Design) (top : CellId) (names : List (List ℕ)) : Type 0 where
  pub contents : (id : CellId) → IsAlong d top names id → contents_at d id ≡ contents_at e id
  pub cells : (o : Occurrence) → Member (steps_along d top names) o → cell_at d o.cell ≡ cell_at e o.cell
  pub directories : (o : Occurrence) → Member (steps_along d top names) o → is_block d o.cell ≡ true → cell_names (cells_in d o.cell.lib) ≡ cell_names (cells_in e o.cell.lib)

at_step : (d : Design) (top : CellId) (names : List (List ℕ)) (o : Occurrence) → Member (steps_along d top names) o → Contains (map (λ (step : Occurrence). step.cell) (steps_along d top names)) o.cell
at_step d top names o member = Member-contains _ o.cell (Member-map (λ (step : Occurrence). step.cell) (steps_along d top names) o member)

agree_along : (d e : Design) (top : TopHead) (names : List (List ℕ)) → AgreesOn d e (UniquePathNeedsBelow d (Some top) names) → AgreeAlong d e top.cell names
agree_along d e top names agree = record {
  contents = λ id along. elim along [
    | inl here ↦ subst (λ x. contents_at d x ≡ contents_at e x) (sym here) (contents_agree d e top.cell (agree (contents_object top.cell) (inl (inr refl))))
    | inr step ↦
        subst (λ x. contents_at d x ≡ contents_at e x) (sym step.2)
        (contents_agree d e step.0.cell (agree (contents_object step.0.cell) (inr (inl (step.0.cell, at_step d top.cell names step.0 step.1, inr refl)))))
  ];
  cells = λ o member. parts_agree d e o.cell (λ ob part. agree ob (inr (inl (o.cell, at_step d top.cell names o member, part))));
  directories = λ o member block. directory_agrees d e o.cell.lib (agree (Directory o.cell.lib) (inr (inr (o.cell, at_step d top.cell names o member, block, refl))));
}

insts_along_same : (d e : Design) (top : CellId) (names : List (List ℕ)) → AgreeAlong d e top names → (id : CellId) → IsAlong d top names id → insts_at d id ≡ insts_at e id
insts_along_same d e top names agree id along = insts_agree d e id (agree.contents id along)

block_step : (d : Design) (top : CellId) (names : List (List ℕ)) (o : Occurrence) → Member (blocks d (steps_along d top names)) o → Member (steps_along d top names) o × (is_block d o.cell ≡ true)
block_step d top names o member = Member-from_filter (λ (o : Occurrence). is_block d o.cell) (steps_along d top names) o member

blocks_same : (d e : Design) (top : CellId) (names : List (List ℕ)) → AgreeAlong d e top names → blocks d (steps_along d top names) ≡ blocks e (steps_along e top names)
blocks_same d e top names agree =
    filter_same (λ (o : Occurrence). is_block d o.cell) (λ (o : Occurrence). is_block e o.cell) (steps_along d top names)
    (λ o member. block_agrees d e o.cell (agree.contents o.cell (inr (o, member, refl))))
    ∙ ap (blocks e) (steps_same d e names top (insts_along_same d e top names agree))

along_path_same : (d e : Design) (top : CellId) (names : List (List ℕ)) → AgreeAlong d e top names → along_path d names top ≡ along_path e names top
along_path_same d e top names agree =
    let os = blocks d (steps_along d top names) in
    let copies = copies_same d e os []
    (λ o member. let step = block_step d top names o member in agree.directories o step.0 step.1)
    (λ o member. agree.cells o (block_step d top names o member).0) in
    let blocks_are = blocks_same d e top names agree in
    (λ t. record { kept = root_of top ∷ []; copies = copies t }) ∙ (λ t. record { kept = root_of top ∷ []; copies = copies_after e [] (blocks_are t) })

-- the copy of a split is of a block at the end of a step
copy_step : (d : Design) (top : CellId) (names : List (List ℕ)) (m : Copy) → Member (along_path d names top).copies m
    → (o : Occurrence) × Member (steps_along d top names) o × (m.of ≡ o.cell) × (is_block d o.cell ≡ true) × (m.id.lib ≡ m.of.lib)
copy_step d top names m member =
    let from = copy_comes d (blocks d (steps_along d top names)) [] m member in
    let step = block_step d top names from.0 from.1 in
    (from.0, step.0, from.3, step.1, copy_lib d (blocks d (steps_along d top names)) [] m member)

owner_contents : (d e : Design) (top : CellId) (names : List (List ℕ)) → AgreeAlong d e top names → (w : Owner) → Member (owners (along_path d names top)) w → contents_at d w.cell ≡ contents_at e w.cell
owner_contents d e top names agree w member = elim (Member-append_cases (map copy_owner (along_path d names top).copies) (map kept_owner (along_path d names top).kept) w member) [
  | inl copy ↦
      let m = Member-from_map copy_owner (along_path d names top).copies w copy in
      let step = copy_step d top names m.0 m.1 in
      subst (λ (v : Owner). contents_at d v.cell ≡ contents_at e v.cell) m.2 (agree.contents m.0.of (inr (step.0, step.1, step.2)))
  | inr kept ↦ elim kept [
    | inl root ↦ subst (λ (v : Owner). contents_at d v.cell ≡ contents_at e v.cell) root (agree.contents top (inl refl))
    | inr never ↦ absurd never
  ]
]

-- ---- the fields of locality

abbrev none : Split
none = record { kept = []; copies = [] }

abbrev split_at : Design → List (List ℕ) → Option TopHead → Split
split_at d names o = option_map_or (λ (top : TopHead). along_path d names top.cell) o none

abbrev row_by : Design → Option TopHead → Bool → Split → Rule
row_by d o leads s = split_row d (refuse (is_none o) NoTop ∷ refuse (not leads) NoPath ∷ []) s

abbrev row_at : Design → List (List ℕ) → Option TopHead → Rule
row_at d names o = row_by d o (is_path d o names) (split_at d names o)

row_at_same : (d e : Design) (names : List (List ℕ)) (o : Option TopHead) → AgreesOn d e (UniquePathNeedsBelow d o names) → row_at d names o ≡ row_at e names o
row_at_same d e names None agree = refl
row_at_same d e names (Some top) agree =
    let same = agree_along d e top names agree in
    let s = along_path d names top.cell in
    let leads : is_path d (Some top) names ≡ is_path e (Some top) names =
    ap (λ b. not (length names == 0) && b) (resolves_same d e names top.cell (insts_along_same d e top.cell names same)) in
    let edits = edits_same d e s
    (λ m member. let step = copy_step d top.cell names m member in subst (λ x. cell_at d x ≡ cell_at e x) (sym step.2) (same.cells step.0 step.1))
    (owner_contents d e top.cell names same) in
    (λ t. record (row_by d (Some top) (leads t) s) { edits = edits t }) ∙ ap (row_by e (Some top) (is_path e (Some top) names)) (along_path_same d e top.cell names same)

needs_at : (d e : Design) (names : List (List ℕ)) (top : Option TopHead) (o : Object) → AgreesOn d e (UniquePathNeedsBelow d top names)
    → UniquePathNeedsBelow d top names o ↔ UniquePathNeedsBelow e top names o
needs_at d e names None o agree = (λ h. h, λ h. h)
needs_at d e names (Some top) o agree =
    let same = agree_along d e top names agree in
    let steps : steps_along d top.cell names ≡ steps_along e top.cell names = steps_same d e names top.cell (insts_along_same d e top.cell names same) in
    let At : List Occurrence → CellId → Type 0 = λ os id. Contains (map (λ (step : Occurrence). step.cell) os) id in
    let there : (id : CellId) → At (steps_along d top.cell names) id → At (steps_along e top.cell names) id = λ id. subst (λ os. At os id) steps in
    let back : (id : CellId) → At (steps_along e top.cell names) id → At (steps_along d top.cell names) id = λ id. subst (λ os. At os id) (sym steps) in
    let blocks_are : (id : CellId) → At (steps_along d top.cell names) id → is_block d id ≡ is_block e id = λ id at.
    let from = Member-from_map (λ (step : Occurrence). step.cell) (steps_along d top.cell names) id (Contains-member _ id at) in
    block_agrees d e id (same.contents id (inr (from.0, from.1, sym from.2))) in
    either_same (λ h. h, λ h. h)
    (either_same (
      λ h. (h.0, there h.0 h.1, h.2),
      λ h. (h.0, back h.0 h.1, h.2),
    ) (
      λ h. (h.0, there h.0 h.1, sym (blocks_are h.0 h.1) ∙ h.2, h.3),
      λ h. let at = back h.0 h.1 in (h.0, at, blocks_are h.0 at ∙ h.2, h.3),
    ))

writes_at : (d : Design) (names : List (List ℕ)) (top : Option TopHead) (o : Object) → IsChanged (split_edits d (split_at d names top)) o
    → UniquePathNeedsBelow d top names o ⊎ IsMade (split_edits d (split_at d names top)) o
writes_at d names None o is = absurd is
writes_at d names (Some top) o is = elim (split_writes d (along_path d names top.cell) o is) [
  | inl directory ↦
      let step = copy_step d top.cell names directory.0 directory.1 in
      inl (inr (inr (step.0.cell, at_step d top.cell names step.0 step.1, step.3, directory.2 ∙ ap Directory (step.4 ∙ ap (λ (id : CellId). id.lib) step.2))))
  | inr rest ↦ elim rest [
    | inl kept ↦ elim kept.1 [
      | inl root ↦ inl (inl (inr (kept.2 ∙ ap (λ (v : Occurrence). contents_object v.cell) (sym root))))
      | inr never ↦ absurd never
    ]
    | inr made ↦ inr made
  ]
]

new_at : (d : Design) (names : List (List ℕ)) (top : Option TopHead) → AreNew d [] (split_at d names top).copies
new_at d names None = tt
new_at d names (Some top) = copies_are_new d (blocks d (steps_along d top.cell names)) [] (λ o member. block_is_cell d o.cell (block_step d top.cell names o member).1)

pub unique_path_is_local : (names : List (List ℕ)) → IsLocal (λ d. unique_path_row d names) (λ d. UniquePathNeeds d names) (Unit {0})
unique_path_is_local names = record {
  same = λ d e closed grown agree. row_at_same d e names d.top agree ∙ ap (row_at e names) grown.top;
  needs_same = λ d e grown agree o. iff_trans (needs_at d e names d.top o agree) (both_ways (λ top. UniquePathNeedsBelow e top names o) d.top e.top grown.top);
  writes_seen = λ d o is. writes_at d names d.top o is;
  last = λ d. split_last d (split_at d names d.top) (new_at d names d.top);
  finds = λ d. split_finds d (split_at d names d.top) (new_at d names d.top);
  places = λ d closed. split_places d (split_at d names d.top) closed (new_at d names d.top);
  valid = λ d typed valid. unique_path_keeps_valid names d valid;
  refuses = λ d. inr (λ never. never);
}
