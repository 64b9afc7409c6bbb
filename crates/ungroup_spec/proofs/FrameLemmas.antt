-- An ungroup is local: it sees what it needs and no more, and keeps a valid design valid.
use Rattle.std.proofs.Common.{map, ◌≡◌, ◌⊎◌, ℕ, List, [], ◌∷◌, cond, refl, sym, ap, subst, ◌∙◌, inl, inr, Option, Some, None}
use Rattle.std.specs.Prelude.{◌&&◌, ◌||◌, IsSomeAnd, filter_map, option_and_then, option_map, option_to_list}
use Rattle.std.specs.List.{cons_option, list_any}
use Rattle.std.specs.Option.{option_map_or}
use Rattle.netlist_schema.specs.Design.{Design}
use Rattle.netlist_schema.specs.Hierarchy.{insts_at}
use Rattle.netlist_schema.specs.Types.{CellId, Inst, Note, Object, TopHead}
use Rattle.netlist_schema.specs.declared.ids.Object.TheVariants.{Notes}
use Rattle.edit_rules_spec.specs.Edit.{AllGoLast, AllPlaceOld, IsChanged, noted, AllFindOld}
use Rattle.edit_rules_spec.specs.Find.{is_name, cell_named, inst_named}
use Rattle.edit_rules_spec.specs.Objects.{AgreesOn, AreSameObjects, Grown, IsClosed, contents_object}
use Rattle.edit_rules_spec.specs.Reading.{IsForCell, IsForNotes, IsInside, IsReached, IsReachedBy}
use Rattle.edit_rules_spec.specs.Paths.{same_cell, goes_through}
use Rattle.edit_rules_spec.specs.Seen.{inside, placed, contents_at}
use Rattle.edit_rules_spec.specs.declared.reply.CellName.{CellName}
use Rattle.edit_rules_spec.proofs.Reached.{either_same, for_notes_same, goes_through_same, insts_same, iff_trans}
use Rattle.edit_rules_spec.proofs.Same.{both_ways, by_name, cell_named_same, cell_needs_same, contents_same, inside_same, named_same, placed_same}
use Rattle.ungroup_spec.specs.Groups.{Site}
use Rattle.ungroup_spec.specs.MovedNotes.{changed_notes, moved_note, moved_notes, moved_path, past_inst}
use Rattle.ungroup_spec.specs.Needs.{IsForInst, Needs, UngroupIsLocal}
use Rattle.ungroup_spec.specs.Ungroup.{IsSite, edits_if, inside_inst, notes_seen, rule_seen, site_named, site_of, ungroup}
use Rattle.std.specs.List.{All}
use Rattle.netlist_schema.specs.Hierarchy.{IsCell}
use Rattle.netlist_schema.specs.Valid.{IsValid}
use Rattle.flat_spec.proofs.ListLemmas.{Member, Member-from_map, Member-map}
use Rattle.ungroup_spec.specs.Dissolved.{insts_after}
use Rattle.ungroup_spec.specs.Maps.{Dissolving}
use Rattle.ungroup_spec.proofs.DoneLemmas.{dissolves, site-stands}
use Rattle.ungroup_spec.proofs.EndLemmas.{map-insts_after}
use Rattle.ungroup_spec.proofs.FreshLemmas.{All-member}
use Rattle.ungroup_spec.proofs.SoundLemmas.{Member-spliced, has-around, has-within}
use Rattle.ungroup_spec.proofs.ValidLemmas.{valid_stays}
use Rattle.edit_rules_spec.proofs.There.{named_cell_there}

-- ---- notes

moved_same : (d e : Design) (cell : CellId) (s : Site) (path : List (List ℕ)) (at : CellId) → AgreesOn d e (IsReached d at path)
    → moved_path d cell s at path ≡ moved_path e cell s at path
moved_same d e cell s [] at agree = refl
moved_same d e cell s (step ∷ steps) at agree =
    ap (λ o. cond (same_cell at cell && is_name step s.inst.name.id) (past_inst s steps) (option_map (λ rest. step ∷ rest) o))
    (go (inst_named step (insts_at d at)) refl (λ inst is. moved_same d e cell s steps inst.of (λ ob reached. agree ob (inr (next d (inst_named step (insts_at d at)) inst ob is reached))))
    ∙ ap (λ (insts : List Inst). option_map_or (λ (next : Inst). moved_path e cell s next.of steps) (inst_named step insts) (Some steps)) (insts_same d e at (agree (contents_object at) (inl refl))))
  where
    next : (d : Design) (o : Option Inst) (inst : Inst) (ob : Object) → o ≡ Some inst → IsReached d inst.of steps ob → IsSomeAnd o (λ i. IsReached d i.of steps ob)
    next d o inst ob is reached = subst (λ (x : Option Inst). IsSomeAnd x (λ i. IsReached d i.of steps ob)) (sym is) reached

    go : (o : Option Inst) → inst_named step (insts_at d at) ≡ o
        → ((inst : Inst) → inst_named step (insts_at d at) ≡ Some inst → moved_path d cell s inst.of steps ≡ moved_path e cell s inst.of steps)
        → option_map_or (λ (next : Inst). moved_path d cell s next.of steps) o (Some steps) ≡ option_map_or (λ (next : Inst). moved_path e cell s next.of steps) o (Some steps)
    go None is same = refl
    go (Some inst) is same = same inst is

all_moved_same : (d e : Design) (cell : CellId) (s : Site) (top : CellId) (notes : List Note) → AgreesOn d e (IsReachedBy d top notes)
    → filter_map (moved_note d cell s top) notes ≡ filter_map (moved_note e cell s top) notes
all_moved_same d e cell s top [] agree = refl
all_moved_same d e cell s top (note ∷ notes) agree =
    let here = ap (option_map (λ path. record note { path = path })) (moved_same d e cell s note.path top (λ o is. agree o (inl is))) in
    let rest = all_moved_same d e cell s top notes (λ o is. agree o (inr is)) in
    λ i. cons_option (here i) (rest i)

any_through_same : (d e : Design) (cell : CellId) (inst : List ℕ) (top : CellId) (notes : List Note) → AgreesOn d e (IsReachedBy d top notes)
    → list_any (λ (note : Note). goes_through d cell inst top note.path) notes ≡ list_any (λ (note : Note). goes_through e cell inst top note.path) notes
any_through_same d e cell inst top [] agree = refl
any_through_same d e cell inst top (note ∷ notes) agree =
    let here = goes_through_same d e cell inst note.path top (λ o is. agree o (inl is)) in
    let rest = any_through_same d e cell inst top notes (λ o is. agree o (inr is)) in
    λ i. here i || rest i

changed_same : (d e : Design) (cell : CellId) (s : Site) → Grown d e → AgreesOn d e (IsForNotes d (Some cell) d.top) → changed_notes d cell s ≡ changed_notes e cell s
changed_same d e cell s grown agree = go d.top agree ∙ ap (option_and_then (λ (top : TopHead). cond (list_any (λ (note : Note). goes_through e cell s.inst.name.id top.cell note.path) e.notes) (Some (moved_notes e cell s top.cell)) None)) grown.top
  where
    go : (o : Option TopHead) → AgreesOn d e (IsForNotes d (Some cell) o)
        → option_and_then (λ (top : TopHead). cond (list_any (λ (note : Note). goes_through d cell s.inst.name.id top.cell note.path) d.notes) (Some (moved_notes d cell s top.cell)) None) o
        ≡ option_and_then (λ (top : TopHead). cond (list_any (λ (note : Note). goes_through e cell s.inst.name.id top.cell note.path) e.notes) (Some (moved_notes e cell s top.cell)) None) o
    go None agree = refl
    go (Some top) agree =
        let notes : d.notes ≡ e.notes = agree Notes (inl refl) in
        let any = any_through_same d e cell s.inst.name.id top.cell d.notes (λ o is. agree o (inr is))
        ∙ ap (list_any (λ (note : Note). goes_through e cell s.inst.name.id top.cell note.path)) notes in
        let moved = all_moved_same d e cell s top.cell d.notes (λ o is. agree o (inr is)) ∙ ap (filter_map (moved_note e cell s top.cell)) notes in
        λ i. cond (any i) (Some (moved i)) None

-- ---- the rule

inside_inst_same : (d e : Design) (o : Option Inst) → AgreesOn d e (IsForInst o)
    → option_and_then (λ (inst : Inst). contents_at d inst.of) o ≡ option_and_then (λ (inst : Inst). contents_at e inst.of) o
inside_inst_same d e None agree = refl
inside_inst_same d e (Some inst) agree = contents_same d e inst.of (agree (contents_object inst.of) (inr refl))

seen_notes_same : (d e : Design) (cell : Option CellId) (site : Option Site) → Grown d e → AgreesOn d e (IsForNotes d cell d.top)
    → option_and_then (λ id. option_and_then (changed_notes d id) site) cell ≡ option_and_then (λ id. option_and_then (changed_notes e id) site) cell
seen_notes_same d e None site grown agree = refl
seen_notes_same d e (Some id) None grown agree = refl
seen_notes_same d e (Some id) (Some s) grown agree = changed_same d e id s grown agree

pub rule_same : (d e : Design) (cell : CellName) (name : List ℕ) → Grown d e → AgreesOn d e (Needs d cell name) → ungroup d cell name ≡ ungroup e cell name
rule_same d e cell name grown agree =
    let for_cell : AgreesOn d e (IsForCell d cell) = λ o is. agree o (inl is) in
    let for_notes : AgreesOn d e (IsForNotes d (cell_named d cell) d.top) = λ o is. agree o (inr (inl is)) in
    let for_inst : AgreesOn d e (IsForInst (placed d cell name)) = λ o is. agree o (inr (inr is)) in
    let at_name = by_name d e cell for_cell in
    let cells : cell_named d cell ≡ cell_named e cell = cell_named_same d e cell grown at_name in
    let around : inside d cell ≡ inside e cell = inside_same d e cell grown for_cell in
    let insts : placed d cell name ≡ placed e cell name = placed_same d e cell name grown for_cell in
    let within : inside_inst d cell name ≡ inside_inst e cell name =
    inside_inst_same d e (placed d cell name) for_inst ∙ ap (option_and_then (λ (inst : Inst). contents_at e inst.of)) insts in
    let sites : site_named d cell name ≡ site_named e cell name = λ i. site_of (around i) name (within i) in
    let notes : notes_seen d cell name ≡ notes_seen e cell name =
    seen_notes_same d e (cell_named d cell) (site_named d cell name) grown for_notes
    ∙ (λ i. option_and_then (λ id. option_and_then (changed_notes e id) (sites i)) (cells i)) in
    λ i. rule_seen (named_same d e cell grown at_name i) (around i) name (within i) (notes i)

needs_same : (d e : Design) (cell : CellName) (name : List ℕ) → Grown d e → AgreesOn d e (Needs d cell name) → AreSameObjects (Needs d cell name) (Needs e cell name)
needs_same d e cell name grown agree o =
    let for_cell : AgreesOn d e (IsForCell d cell) = λ ob is. agree ob (inl is) in
    let for_notes : AgreesOn d e (IsForNotes d (cell_named d cell) d.top) = λ ob is. agree ob (inr (inl is)) in
    let cells : cell_named d cell ≡ cell_named e cell = cell_named_same d e cell grown (by_name d e cell for_cell) in
    either_same (cell_needs_same d e cell o grown for_cell)
    (either_same
    (iff_trans (for_notes_same d e (cell_named d cell) d.top o for_notes)
    (iff_trans (both_ways (λ (c : Option CellId). IsForNotes e c d.top o) (cell_named d cell) (cell_named e cell) cells)
    (both_ways (λ (top : Option TopHead). IsForNotes e (cell_named e cell) top o) d.top e.top grown.top)))
    (both_ways (λ (i : Option Inst). IsForInst i o) (placed d cell name) (placed e cell name) (placed_same d e cell name grown for_cell)))

-- what is written is needed
notes_written : (d : Design) (id : CellId) (top : Option TopHead) (notes : Option (List Note)) (o : Object)
    → IsChanged (option_to_list (option_map noted notes)) o → IsForNotes d (Some id) top o
notes_written d id top None o is = absurd is
notes_written d id None (Some notes) o is = elim is [ inl here ↦ here | inr never ↦ absurd never ]
notes_written d id (Some top) (Some notes) o is = elim is [ inl here ↦ inl here | inr never ↦ absurd never ]

edits_written : (d : Design) (cell : Option CellId) (site : Option Site) (notes : Option (List Note)) (o : Object) → IsChanged (edits_if cell site notes) o
    → IsInside cell o ⊎ IsForNotes d cell d.top o
edits_written d None site notes o is = absurd is
edits_written d (Some id) None notes o is = absurd is
edits_written d (Some id) (Some s) notes o is = elim is [ inl here ↦ inl here | inr there ↦ inr (notes_written d id d.top notes o there) ]

edits_last : (d : Design) (cell : Option CellId) (site : Option Site) (notes : Option (List Note)) → AllGoLast d (edits_if cell site notes)
edits_last d None site notes = tt
edits_last d (Some id) None notes = tt
edits_last d (Some id) (Some s) None = (tt, tt)
edits_last d (Some id) (Some s) (Some notes) = (tt, (tt, tt))

edits_find : (d : Design) (cell : Option CellId) (site : Option Site) (notes : Option (List Note)) → ((id : CellId) → cell ≡ Some id → IsCell d id) → AllFindOld d (edits_if cell site notes)
edits_find d None site notes there = tt
edits_find d (Some id) None notes there = tt
edits_find d (Some id) (Some s) None there = (there id refl, tt)
edits_find d (Some id) (Some s) (Some notes) there = (there id refl, (tt, tt))

-- what is placed afterwards was placed before
placed_old : (d : Design) (q : Dissolving) → IsSite d q.cell q.site → IsClosed d → All (λ (inst : Inst). IsCell d inst.of) (insts_after q.site)
placed_old d q stands closed =
    All-member (λ (inst : Inst). IsCell d inst.of) (insts_after q.site) (λ y m.
    let cells = subst (λ v. Member v y.of) (map-insts_after q.site (λ (i : Inst). i.of) (λ n i. refl)) (Member-map (λ (i : Inst). i.of) (insts_after q.site) y m) in
    elim (Member-spliced q.site.place (map (λ (i : Inst). i.of) q.site.within.insts) (map (λ (i : Inst). i.of) q.site.around.insts) y.of cells) [
      | inl around ↦
          let found = Member-from_map (λ (i : Inst). i.of) q.site.around.insts y.of around in
          subst (λ v. IsCell d v) found.2 (closed q.cell found.0 (has-around d q stands found.0 found.1))
      | inr within ↦
          let found = Member-from_map (λ (i : Inst). i.of) q.site.within.insts y.of within in
          subst (λ v. IsCell d v) found.2 (closed q.site.inst.of found.0 (has-within d q stands found.0 found.1))
    ])

edits_place : (d : Design) (cell : Option CellId) (site : Option Site) (notes : Option (List Note))
    → ((id : CellId) (s : Site) → cell ≡ Some id → site ≡ Some s → All (λ (inst : Inst). IsCell d inst.of) (insts_after s)) → AllPlaceOld d (edits_if cell site notes)
edits_place d None site notes old = tt
edits_place d (Some id) None notes old = tt
edits_place d (Some id) (Some s) None old = (old id s refl refl, tt)
edits_place d (Some id) (Some s) (Some notes) old = (old id s refl refl, (tt, tt))

pub ungroup_is_local : UngroupIsLocal
ungroup_is_local cell name = record {
  same = λ d e closed grown agree. rule_same d e cell name grown agree;
  needs_same = λ d e grown agree. needs_same d e cell name grown agree;
  writes_seen = λ d o is.
      inl (elim (edits_written d (cell_named d cell) (site_named d cell name) (notes_seen d cell name) o is) [
        | inl contents ↦ inl (inr contents)
        | inr notes ↦ inr (inl notes)
      ]);
  last = λ d. edits_last d (cell_named d cell) (site_named d cell name) (notes_seen d cell name);
  finds = λ d. edits_find d (cell_named d cell) (site_named d cell name) (notes_seen d cell name) (named_cell_there d cell);
  places = λ d closed.
      edits_place d (cell_named d cell) (site_named d cell name) (notes_seen d cell name) (λ id s at is.
      placed_old d (record { cell = id; site = s }) (site-stands d cell name id s at is) closed);
  valid = λ d typed valid allowed.
      let done = dissolves d cell name allowed in
      subst IsValid (sym done.edits) (valid_stays d (record { cell = done.id; site = done.site }) (record {
        valid = valid;
        stands = done.stands;
        insts_fit = done.insts_fit;
        nets_fit = done.nets_fit;
        ends_fit = done.ends_fit;
      }));
  refuses = λ d. inr (λ never. never);
}
