-- The changes can be made one after the other.
use Rattle.std.proofs.Common.{◌≡◌, ℕ, Bool, true, false, cond, List, [], ◌∷◌, ◌++◌, Option, Some, None, refl, sym, ap, subst, inl, inr}
use Rattle.std.specs.Prelude.{option_and_then, is_some}
use Rattle.std.specs.List.{AllByRecursion, flat_map}
use Rattle.std.specs.Option.{option_map, option_to_list}
use Rattle.netlist_schema.specs.Design.{Design, cell_at}
use Rattle.netlist_schema.specs.Types.{CellBody, CellId, Contents}
use Rattle.netlist_schema.proofs.Lists.{all_append}
use Rattle.edit_rules_spec.specs.Edit.{edited, edited_once, fresh, inner, with_contents, with_more_cell}
use Rattle.edit_rules_spec.specs.Seen.{contents_at}
use Rattle.netlist_schema.proofs.WithCell.{cases_cell}
use Rattle.edit_rules_spec.proofs.Edits.{cell_at-changed_same, cell_at-changed_other}
use Rattle.flat_spec.proofs.ListLemmas.{Member, Member-append_left, Member-append_right}
use Rattle.uniquify_spec.specs.Blocks.{is_block}
use Rattle.uniquify_spec.specs.Copies.{Copy}
use Rattle.uniquify_spec.specs.Split.{is_turned, renamed, turned}
use Rattle.uniquify_spec.proofs.CopyLists.{AreNew, new_apart}
use Rattle.uniquify_spec.proofs.NewCells.{IsOnTheWay, at_the_start, body_of, is_next, lib_of_new, new_cells, new_is_there, new_stays, one_more}
use Rattle.uniquify_spec.proofs.SplitEdits.{block_is_cell}
use Rattle.edit_cells.specs.Change.{CanAllBeMade, cell_edits, edit_of}
use Rattle.edit_cells.specs.declared.change.CellChange.{CellChange}
use Rattle.edit_cells.specs.declared.change.CellChange.TheVariants.{Face, Fresh, Inner, Inst, Net}
use Rattle.uniquify_copies.specs.declared.namer.Twin.{Twin}
use Rattle.uniquify_copies.specs.Changes.{changes_of, copied_inner, fresh_of, inner_to, inners, kept_inner, turned_at}
use Rattle.uniquify_copies.specs.Seats.{Seat, copies_at, copies_of}

can-append : (xs ys : List CellChange) (b : Design) → CanAllBeMade b xs → CanAllBeMade (edited b (cell_edits b xs)) ys → CanAllBeMade b (xs ++ ys)
can-append [] ys b first second = second
can-append (x ∷ xs) ys b first second = (first.0, can-append xs ys (edited_once b (edit_of b x)) first.1 second)

-- ---- copies

new_can : (d : Design) (ms before : List Copy) (b : Design) → IsOnTheWay d b before → AreNew d before ms → CanAllBeMade b (flat_map (fresh_of d) ms)
new_can d [] before b way new = tt
new_can d (m ∷ ms) before b way new =
    let body = body_of d m.of new.0.cell in
    let next = is_next d b before m way new.0 in
    let here : CanAllBeMade b (Fresh m.id (renamed m body.0) ∷ flat_map (fresh_of d) ms) = (
      (way.libs m.id.lib (lib_of_new d before m new.0), next),
      new_can d ms (before ++ m ∷ []) (with_more_cell b m.id.lib (renamed m body.0)) (one_more d b before m (renamed m body.0) way new.0) new.1,
    ) in
    subst (λ (c : Option CellBody). CanAllBeMade b (option_to_list (option_map (λ x. Fresh m.id (renamed m x)) c) ++ flat_map (fresh_of d) ms)) (sym body.1) here

-- the edits of the copies are those of the split
new_edits : (d : Design) (ms : List Copy) (b : Design) → cell_edits b (flat_map (fresh_of d) ms) ≡ new_cells d ms
new_edits d [] b = refl
new_edits d (m ∷ ms) b = by (cell_at d m.of) (λ e. new_edits d ms e)
  where
    by : (c : Option CellBody) → ((e : Design) → cell_edits e (flat_map (fresh_of d) ms) ≡ new_cells d ms) → cell_edits b (option_to_list (option_map (λ x. Fresh m.id (renamed m x)) c) ++ flat_map (fresh_of d) ms) ≡ option_to_list (option_map (λ x. fresh m.id (renamed m x)) c) ++ new_cells d ms
    by None rest = rest b
    by (Some body) rest = ap (λ es. fresh m.id (renamed m body) ∷ es) (rest (edited_once b (fresh m.id (renamed m body))))

-- ---- other contents

-- other contents of a cell that has some
abbrev FillsBlock : Design → CellChange → Type 0
FillsBlock b (Inner id contents) = is_block b id ≡ true
FillsBlock b (Fresh id body) = ⊥
FillsBlock b (Face id properties) = ⊥
FillsBlock b (Net id place net) = ⊥
FillsBlock b (Inst id place inst) = ⊥

still_block : (contents : Contents) (o : Option CellBody) → is_some (option_and_then (λ (body : CellBody). body.contents) o) ≡ true
    → is_some (option_and_then (λ (body : CellBody). body.contents) (option_map (with_contents contents) o)) ≡ true
still_block contents None is = cc
still_block contents (Some body) is = by body.contents is
  where
    by : (c : Option Contents) → is_some c ≡ true → is_some (option_map (λ (_ : Contents). contents) c) ≡ true
    by None is = cc
    by (Some inside) is = refl

block_stays : (b : Design) (id other : CellId) (contents : Contents) → is_block b other ≡ true → is_block (edited_once b (inner id contents)) other ≡ true
block_stays b id other contents is = elim (cases_cell other id) [
  | inl same ↦
      subst (λ x. is_block (edited_once b (inner id contents)) x ≡ true) (sym same)
      (subst (λ (o : Option CellBody). is_some (option_and_then (λ (body : CellBody). body.contents) o) ≡ true) (sym (cell_at-changed_same b id (with_contents contents)))
      (still_block contents (cell_at b id) (subst (λ x. is_block b x ≡ true) same is)))
  | inr apart ↦
      subst (λ (o : Option CellBody). is_some (option_and_then (λ (body : CellBody). body.contents) o) ≡ true) (sym (cell_at-changed_other b id (with_contents contents) other apart)) is
]

fills_still : (b : Design) (id : CellId) (contents : Contents) (xs : List CellChange) → AllByRecursion (FillsBlock b) xs → AllByRecursion (FillsBlock (edited_once b (inner id contents))) xs
fills_still b id contents [] all = tt
fills_still b id contents (Inner other inside ∷ xs) all = (block_stays b id other contents all.0, fills_still b id contents xs all.1)
fills_still b id contents (Fresh other body ∷ xs) all = absurd all.0
fills_still b id contents (Face other properties ∷ xs) all = absurd all.0
fills_still b id contents (Net other place net ∷ xs) all = absurd all.0
fills_still b id contents (Inst other place inst ∷ xs) all = absurd all.0

inner_can : (xs : List CellChange) (b : Design) → AllByRecursion (FillsBlock b) xs → CanAllBeMade b xs
inner_can [] b all = tt
inner_can (Inner id contents ∷ xs) b all = (all.0, inner_can xs (edited_once b (inner id contents)) (fills_still b id contents xs all.1))
inner_can (Fresh other body ∷ xs) b all = absurd all.0
inner_can (Face other properties ∷ xs) b all = absurd all.0
inner_can (Net other place net ∷ xs) b all = absurd all.0
inner_can (Inst other place inst ∷ xs) b all = absurd all.0

-- ---- own cells are blocks once the copies are made

module _ (d : Design) (all : List Copy) (new : AreNew d [] all) where
  abbrev half : Design
  half = edited d (new_cells d all)

  kept_block : (id : CellId) → is_block d id ≡ true → is_block half id ≡ true
  kept_block id is =
      let stays = new_stays d all d [] (at_the_start d) new id (λ m member. new_apart d all new m member id (block_is_cell d id is)) in
      subst (λ (o : Option CellBody). is_some (option_and_then (λ (body : CellBody). body.contents) o) ≡ true) (sym stays) is

  copy_block : (m : Copy) → Member all m → is_block d m.of ≡ true → is_block half m.id ≡ true
  copy_block m member is =
      let body = body_of d m.of (block_is_cell d m.of is) in
      let there = new_is_there d all d [] (at_the_start d) new m member body.0 body.1 in
      subst (λ (o : Option CellBody). is_some (option_and_then (λ (b : CellBody). b.contents) o) ≡ true) (sym there)
      (subst (λ (o : Option CellBody). is_some (option_and_then (λ (b : CellBody). b.contents) o) ≡ true) body.1 is)

  fills_one : (id : CellId) (g : Contents → Contents) (b : Bool) (o : Option Contents) → (is_some o ≡ true → is_block half id ≡ true) → AllByRecursion (FillsBlock half) (inner_to id (cond b (option_map g o) None))
  fills_one id g true None block = tt
  fills_one id g true (Some contents) block = (block refl, tt)
  fills_one id g false o block = tt

  copied_fills : (path : List ℕ) (cell : CellId) (twin : Option Twin) →
      (let seat : Seat = record { path = path; cell = cell; twin = twin } in ((m : Copy) → Member (copies_at seat) m → Member all m) → AllByRecursion (FillsBlock half) (copied_inner (turned_at d all) seat))
  copied_fills path cell None among = tt
  copied_fills path cell (Some twin) among =
      fills_one twin.id (turned all path) (is_turned all path) (contents_at d cell) (λ is. copy_block (record { path = path; of = cell; id = twin.id; name = twin.name }) (among _ (inl refl)) is)

  kept_fills : (path : List ℕ) (cell : CellId) (twin : Option Twin) → AllByRecursion (FillsBlock half) (kept_inner (turned_at d all) (record { path = path; cell = cell; twin = twin }))
  kept_fills path cell None = fills_one cell (turned all path) (is_turned all path) (contents_at d cell) (λ is. kept_block cell is)
  kept_fills path cell (Some twin) = tt

  all_copied : (ss : List Seat) → ((m : Copy) → Member (copies_of ss) m → Member all m) → AllByRecursion (FillsBlock half) (flat_map (copied_inner (turned_at d all)) ss)
  all_copied [] among = tt
  all_copied (seat ∷ ss) among =
      all_append (FillsBlock half) (copied_inner (turned_at d all) seat) (flat_map (copied_inner (turned_at d all)) ss)
      (copied_fills seat.path seat.cell seat.twin (λ m member. among m (Member-append_left (copies_at seat) (copies_of ss) m member)))
      (all_copied ss (λ m member. among m (Member-append_right (copies_at seat) (copies_of ss) m member)))

  all_kept : (ss : List Seat) → AllByRecursion (FillsBlock half) (flat_map (kept_inner (turned_at d all)) ss)
  all_kept [] = tt
  all_kept (seat ∷ ss) =
      all_append (FillsBlock half) (kept_inner (turned_at d all) seat) (flat_map (kept_inner (turned_at d all)) ss) (kept_fills seat.path seat.cell seat.twin) (all_kept ss)

pub changes_can : (d : Design) (ss : List Seat) → AreNew d [] (copies_of ss) → CanAllBeMade d (changes_of d ss)
changes_can d ss new =
    let all = copies_of ss in
    can-append (flat_map (fresh_of d) all) (inners (turned_at d all) ss) d
    (new_can d all [] d (at_the_start d) new)
    (subst (λ es. CanAllBeMade (edited d es) (inners (turned_at d all) ss)) (sym (new_edits d all d))
    (inner_can (inners (turned_at d all) ss) (edited d (new_cells d all))
    (all_append (FillsBlock (edited d (new_cells d all))) (flat_map (copied_inner (turned_at d all)) ss) (flat_map (kept_inner (turned_at d all)) ss)
    (all_copied d all new ss (λ m member. member)) (all_kept d all new ss))))
