-- One instance is put at a place: what its row, and that of the one that stood there, come to is the index of the design afterwards.
use Rattle.std.proofs.Common.{◌≡◌, ◌+◌, ◌≤◌, ℕ, zero, suc, arith, Bool, true, false, cond, List, [], ◌∷◌, ◌++◌, length, map, Option, Some, None, refl, sym, ap, subst, ◌∙◌, slice_get}
use Rattle.std.specs.Prelude.{IsSomeAnd, nat_lt, option_and_then, option_map, option_to_list, slice_set}
use Rattle.std.specs.List.{enumerate_from}
use Rattle.std.specs.Option.{option_map_or}
use Rattle.std.proofs.lemmas.Option.{slice_get_within}
use Rattle.netlist_schema.specs.Change.{body_with, with_inst_put}
use Rattle.netlist_parts.specs.Put.{put_at}
use Rattle.netlist_schema.specs.Design.{Design, cell_at, insts_in, insts_of}
use Rattle.netlist_schema.specs.Hierarchy.{insts_at}
use Rattle.netlist_schema.specs.Types.{CellBody, CellId, Contents, Inst as InstType}
use Rattle.edit_rules_spec.specs.Edit.{edited, noted, with_changed_cell}
use Rattle.edit_rules_spec.specs.Seen.{contents_at}
use Rattle.edit_rules_spec.proofs.Edits.{cell_at-changed_same}
use Rattle.edit_cells.specs.Change.{CanAllBeMade, cell_edits, edits_of, inst_put}
use Rattle.edit_cells.specs.declared.change.Change.{Change}
use Rattle.edit_cells.specs.declared.change.CellChange.{CellChange}
use Rattle.edit_cells.specs.declared.change.CellChange.TheVariants.{Inst}
use Rattle.edit_cells.proofs.Patches.{inside_changed}
use Rattle.used_spec.specs.Uses.{Placed, all_placed, placed_at, placed_in, uses}
use Rattle.used_spec.specs.declared.used_at.UsedAt.{UsedAt}
use Rattle.used_spec.proofs.Numbered.{past_end}
use Rattle.used_spec.proofs.InOrder.{lt_true}
use Rattle.where_used.specs.Rows.{IsTurn, drop_in, drop_use, put_in, put_use, turned}
use Rattle.where_used.proofs.Parting.{all_before, all_behind, parted, placed_before, placed_behind, placed_none, placed_one}
use Rattle.where_used.proofs.After.{back_same, finished, front_same, over_uses, part_after, room_after, room_changed, room_uses}
use Rattle.where_used.proofs.Turning.{IsOver, drop_over, lt_false, not_itself, put_over, swap_over}

-- ---- a list with an item at a place

record Split (xs : List InstType) (place : ℕ) (x : InstType) : Type 0 where
  pub front : List InstType
  pub back : List InstType
  pub is : xs ≡ front ++ x ∷ back
  pub long : length front ≡ place
  pub set : (y : InstType) → slice_set xs place y ≡ front ++ y ∷ back

split : (xs : List InstType) (place : ℕ) (x : InstType) → slice_get xs place ≡ Some x → Split xs place x
split [] place x e = absurd (cc e)
split (z ∷ xs) zero x e = let same : z ≡ x = cc e in record { front = []; back = xs; is = ap (λ v. v ∷ xs) same; long = refl; set = λ y. refl }
split (z ∷ xs) (suc place) x e =
    let s = split xs place x e in
    record { front = z ∷ s.front; back = s.back; is = ap (λ v. z ∷ v) s.is; long = ap suc s.long; set = λ y. ap (λ v. z ∷ v) (s.set y) }

-- ---- the design afterwards

module _ (d : Design) (id : CellId) (place : ℕ) (inst : InstType) where
  abbrev change_body : CellBody → CellBody
  change_body = body_with (with_inst_put place inst)

  abbrev after : Design
  after = with_changed_cell d id change_body

  abbrev at : UsedAt
  at = record { cell = id; inst = place }

  -- the contents, and those afterwards
  record Inside : Type 0 where
    pub body : CellBody
    pub found : cell_at d id ≡ Some body
    pub insts : List InstType
    pub now : insts_at d id ≡ insts
    pub later : insts_at after id ≡ put_at insts place inst
    pub fits : place ≤ length insts

  inside : IsSomeAnd (contents_at d id) (λ contents. place ≤ length contents.insts) → Inside
  inside is = go (cell_at d id) refl is
    where
      go : (o : Option CellBody) → cell_at d id ≡ o → IsSomeAnd (option_and_then (λ body. body.contents) o) (λ contents. place ≤ length contents.insts) → Inside
      go None found never = absurd never
      go (Some body) found is = deep body.contents refl is
        where
          deep : (k : Option Contents) → body.contents ≡ k → IsSomeAnd k (λ contents. place ≤ length contents.insts) → Inside
          deep None same never = absurd never
          deep (Some contents) same fits = record {
            body = body;
            found = found;
            insts = contents.insts;
            now = ap (λ (o : Option CellBody). option_map_or insts_of o []) found ∙ ap insts_in same;
            later =
                ap (λ (o : Option CellBody). option_map_or insts_of o []) (cell_at-changed_same d id change_body ∙ ap (option_map change_body) found)
                ∙ ap (λ (k : Option Contents). insts_in (option_map (with_inst_put place inst) k)) same;
            fits = fits;
          }

  -- one more use of the new cell at the end
  appended : (i : Inside) → slice_get i.insts place ≡ None → (put_in inst.of at (uses d) ≡ uses after) × (drop_in inst.of at (put_in inst.of at (uses d)) ≡ uses d)
  appended i none =
      let part = parted d id i.body i.found in
      let last : length i.insts ≡ place = (let past = past_end i.insts place none in let fits = i.fits in omega (arith, past, fits)) in
      let before = placed_before d id part.front i.insts in
      let behind = placed_behind d id part.back place [] in
      let low = all_before d id part.front i.insts place part.low (omega (arith, last)) in
      let high = all_behind d id part.back place [] part.high in
      let p : Placed = record { at = at; of = inst.of } in
      let now = subst (λ (ps : List Placed). IsOver (uses d) ps) (placed_none d id part i.insts place i.now) (over_uses d) in
      let put = put_over (uses d) before behind p low high now in
      let past : nat_lt place (length i.insts) ≡ false = lt_false place (length i.insts) (omega (arith, last)) in
      let insts : insts_at after id ≡ i.insts ++ inst ∷ [] = i.later ∙ ap (λ (b : Bool). cond b (slice_set i.insts place inst) (i.insts ++ inst ∷ [])) past in
      let later : before ++ p ∷ behind ≡ all_placed after =
      (λ t. (sym (front_same d id change_body part) t ++ placed_in id i.insts) ++ p ∷ (sym (back_same d id change_body part) t)) ∙ sym (placed_one after id (part_after d id change_body part) i.insts [] inst place insts last) in
      let room = room_changed d (put_use at) (uses d) inst.of (room_uses d) in (
        finished after (put_in inst.of at (uses d)) (room_after d id change_body (put_in inst.of at (uses d)) room) (subst (λ (ps : List Placed). IsOver (put_in inst.of at (uses d)) ps) later put),
        finished d (drop_in inst.of at (put_in inst.of at (uses d))) (room_changed d (drop_use at) (put_in inst.of at (uses d)) inst.of room)
            (subst (λ (ps : List Placed). IsOver (drop_in inst.of at (put_in inst.of at (uses d))) ps) (sym (placed_none d id part i.insts place i.now)) (drop_over (put_in inst.of at (uses d)) before behind p low put)),
      )

  -- one more of the new cell, and one less of the old one
  replaced : (i : Inside) (x : InstType) → slice_get i.insts place ≡ Some x
      → (drop_in x.of at (put_in inst.of at (uses d)) ≡ uses after) × (drop_in inst.of at (put_in inst.of at (uses d)) ≡ uses d)
  replaced i x some =
      let part = parted d id i.body i.found in
      let s = split i.insts place x some in
      let before = placed_before d id part.front s.front in
      let behind = placed_behind d id part.back place s.back in
      let low = all_before d id part.front s.front place part.low (let long = s.long in omega (arith, long)) in
      let high = all_behind d id part.back place s.back part.high in
      let p : Placed = record { at = at; of = inst.of } in
      let q : Placed = record { at = at; of = x.of } in
      let here = placed_one d id part s.front s.back x place (i.now ∙ s.is) s.long in
      let now = subst (λ (ps : List Placed). IsOver (uses d) ps) here (over_uses d) in
      let put = put_over (uses d) before (q ∷ behind) p low (not_itself at, high) now in
      let gone = drop_over (put_in inst.of at (uses d)) before (p ∷ behind) q low (swap_over (put_in inst.of at (uses d)) before behind at inst.of x.of put) in
      let back = drop_over (put_in inst.of at (uses d)) before (q ∷ behind) p low put in
      let within : nat_lt place (length i.insts) ≡ true = lt_true place (length i.insts) (slice_get_within i.insts place x some) in
      let insts : insts_at after id ≡ s.front ++ inst ∷ s.back = i.later ∙ ap (λ (b : Bool). cond b (slice_set i.insts place inst) (i.insts ++ inst ∷ [])) within ∙ s.set inst in
      let later : before ++ p ∷ behind ≡ all_placed after =
      (λ t. (sym (front_same d id change_body part) t ++ placed_in id s.front) ++ p ∷ (map (placed_at id) (enumerate_from (place + 1) s.back) ++ sym (back_same d id change_body part) t))
      ∙ sym (placed_one after id (part_after d id change_body part) s.front s.back inst place insts s.long) in
      let room = room_changed d (put_use at) (uses d) inst.of (room_uses d) in (
        finished after (drop_in x.of at (put_in inst.of at (uses d))) (room_after d id change_body (drop_in x.of at (put_in inst.of at (uses d))) (room_changed d (drop_use at) (put_in inst.of at (uses d)) x.of room))
            (subst (λ (ps : List Placed). IsOver (drop_in x.of at (put_in inst.of at (uses d))) ps) later gone),
        finished d (drop_in inst.of at (put_in inst.of at (uses d))) (room_changed d (drop_use at) (put_in inst.of at (uses d)) inst.of room)
            (subst (λ (ps : List Placed). IsOver (drop_in inst.of at (put_in inst.of at (uses d))) ps) (sym here) back),
      )

  both : (i : Inside) → (turned (option_map (λ (x : InstType). x.of) (slice_get i.insts place)) inst.of at (uses d) ≡ uses after) × (drop_in inst.of at (put_in inst.of at (uses d)) ≡ uses d)
  both i = go (slice_get i.insts place) refl
    where
      go : (o : Option InstType) → slice_get i.insts place ≡ o → (turned (option_map (λ (x : InstType). x.of) o) inst.of at (uses d) ≡ uses after) × (drop_in inst.of at (put_in inst.of at (uses d)) ≡ uses d)
      go None e = appended i e
      go (Some x) e = replaced i x e

-- ---- the change

change_is : (d : Design) (change : Change) (id : CellId) (place : ℕ) (inst : InstType) → change.notes ≡ None → change.cells ≡ Inst id place inst ∷ [] → edited d (edits_of d change) ≡ after d id place inst
change_is d change id place inst notes only =
    (λ i. edited d (cell_edits d (only i) ++ option_to_list (option_map noted (notes i))))
    ∙ inside_changed d id (inst_put place inst) (with_inst_put place inst) (λ contents. refl)

pub turn_is : (d : Design) (change : Change) (at : UsedAt) (of : CellId) (old : Option CellId) → CanAllBeMade d change.cells → IsTurn d change at of old
    → (turned old of at (uses d) ≡ uses (edited d (edits_of d change))) × (drop_in of at (put_in of at (uses d)) ≡ uses d)
turn_is d change at of old can turn =
    let id = at.cell in
    let place = at.inst in
    let fits = subst (λ (cs : List CellChange). CanAllBeMade d cs) turn.only can in
    let i = inside d id place turn.inst fits.0 in
    let done = both d id place turn.inst i in
    let was : old ≡ option_map (λ (x : InstType). x.of) (slice_get i.insts place) = turn.before ∙ ap (λ is. option_map (λ (x : InstType). x.of) (slice_get is place)) i.now in
    let later : uses (after d id place turn.inst) ≡ uses (edited d (edits_of d change)) = ap uses (sym (change_is d change id place turn.inst turn.notes turn.only)) in
    let now = turn.now in (
      (λ t. turned (was t) (sym now t) at (uses d)) ∙ done.0 ∙ later,
      (λ t. drop_in (sym now t) at (put_in (sym now t) at (uses d))) ∙ done.1,
    )
