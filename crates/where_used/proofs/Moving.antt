-- Instances change their cells at their places: what the lists come to is the index of the design afterwards.
use Rattle.std.proofs.Common.{◌≡◌, ◌+◌, ◌<◌, ◌≤◌, ℕ, zero, suc, arith, Bool, true, false, cond, List, [], ◌∷◌, ◌++◌, length, map, take, Option, Some, None, refl, sym, ap, subst, ◌∙◌, get_or, append_assoc, append-nil}
use Rattle.std.specs.Prelude.{IfOk, IfSome, IsSome, Result, Ok, Err, option_and_then, option_map, option_to_list}
use Rattle.std.specs.List.{enumerate_from, flat_map, range_with_len, insert, remove}
use Rattle.std.specs.Option.{option_map_or}
use Rattle.std.proofs.lemmas.Grind.{flat_map-append}
use Rattle.std.proofs.lemmas.List.{take_more}
use Rattle.netlist_schema.specs.Design.{Design, cell_at, insts_in, insts_of}
use Rattle.netlist_schema.specs.Hierarchy.{insts_at}
use Rattle.netlist_schema.specs.Types.{CellBody, CellId, Contents, Inst as InstType}
use Rattle.netlist_schema.proofs.Lists.{all_append}
use Rattle.edit_rules_spec.specs.Edit.{changed_at, edited, noted, with_changed_cell, with_contents}
use Rattle.edit_rules_spec.specs.Paths.{same_cell}
use Rattle.edit_rules_spec.specs.Seen.{contents_at}
use Rattle.edit_rules_spec.proofs.Edits.{cell_at-changed_same}
use Rattle.edit_rules_spec.proofs.Levels.{is_same_cell}
use Rattle.edit_cells.specs.Change.{CanAllBeMade, cell_edits, edits_of}
use Rattle.edit_cells.specs.declared.change.Change.{Change}
use Rattle.edit_cells.specs.declared.change.CellChange.{CellChange}
use Rattle.edit_cells.specs.declared.change.CellChange.TheVariants.{Inner}
use Rattle.used_spec.specs.Uses.{Placed, all_placed, comes_before, placed_at, placed_in, placed_in_all, uses}
use Rattle.used_spec.specs.declared.used_at.UsedAt.{UsedAt}
use Rattle.used_spec.proofs.InOrder.{in_one_cell, lt_true}
use Rattle.used_spec.proofs.Numbered.{range_next}
use Rattle.where_used.specs.Moves.{AreMoves, IsRefilled, cell_of, drop_new, drop_old, is_same, move_at, moves, put_new, use_at, with_news, without_olds}
use Rattle.where_used.specs.Rows.{drop_in, drop_use, place_of, put_in, put_use}
use Rattle.where_used.specs.declared.moves.Move.{Move}
use Rattle.where_used.proofs.After.{HasRoom, back_same, finished, front_same, over_uses, part_after, room_after, room_changed, room_uses}
use Rattle.where_used.proofs.Keeping.{notes_keep, uses_same}
use Rattle.where_used.proofs.Parting.{Parted, back_behind, front_before, parted}
use Rattle.where_used.proofs.Turning.{AllBefore, AllBehind, Index, IsOver, drop_over, lt_false, not_itself, put_over, swap_over}

abbrev at : CellId → ℕ → UsedAt
at id p = record { cell = id; inst = p }

-- what stands at a place, and what stands there while it has both
abbrev seg : CellId → ℕ → Option CellId → List Placed
seg id p None = []
seg id p (Some c) = record { at = at id p; of = c } ∷ []

abbrev stands : CellId → ℕ → Bool → Option CellId → Option CellId → List Placed
stands id p true o w = seg id p o
stands id p false o w = seg id p w ++ seg id p o

abbrev both : CellId → ℕ → Option CellId → Option CellId → List Placed
both id p o w = stands id p (is_same o w) o w

-- ---- one place

put_place : (id : CellId) (p : ℕ) (o w : Option CellId) (index : Index) (F R : List Placed) → AllBefore (at id p) F → AllBehind (at id p) R
    → IsOver index (F ++ (seg id p o ++ R)) → IsOver (with_news id (move_at p o w) index) (F ++ (both id p o w ++ R))
put_place id p None None index F R low high is = is
put_place id p (Some a) None index F R low high is = is
put_place id p None (Some b) index F R low high is = put_over index F R (record { at = at id p; of = b }) low high is
put_place id p (Some a) (Some b) index F R low high is = go (same_cell a b)
  where
    go : (s : Bool) → IsOver (with_news id (cond s [] (record { place = p; old = Some a; new = Some b } ∷ [])) index) (F ++ (stands id p s (Some a) (Some b) ++ R))
    go true = is
    go false = put_over index F (record { at = at id p; of = a } ∷ R) (record { at = at id p; of = b }) low (not_itself (at id p), high) is

drop_place : (id : CellId) (p : ℕ) (o w : Option CellId) (index : Index) (F R : List Placed) → AllBefore (at id p) F
    → IsOver index (F ++ (both id p o w ++ R)) → IsOver (without_olds id (move_at p o w) index) (F ++ (seg id p w ++ R))
drop_place id p None None index F R low is = is
drop_place id p (Some a) None index F R low is = drop_over index F R (record { at = at id p; of = a }) low is
drop_place id p None (Some b) index F R low is = is
drop_place id p (Some a) (Some b) index F R low is = go (same_cell a b) refl is
  where
    go : (s : Bool) → same_cell a b ≡ s → IsOver index (F ++ (stands id p s (Some a) (Some b) ++ R))
        → IsOver (without_olds id (cond s [] (record { place = p; old = Some a; new = Some b } ∷ [])) index) (F ++ (record { at = at id p; of = b } ∷ R))
    go true hit over = subst (λ (c : CellId). IsOver index (F ++ (record { at = at id p; of = c } ∷ R))) (is_same_cell a b hit) over
    go false miss over = drop_over index F (record { at = at id p; of = b } ∷ R) (record { at = at id p; of = a }) low (swap_over index F R (at id p) b a over)

-- ---- before and behind

seg_before : (id : CellId) (p q : ℕ) (o : Option CellId) → p < q → AllBefore (at id q) (seg id p o)
seg_before id p q None less = tt
seg_before id p q (Some c) less = (in_one_cell id p q ∙ lt_true p q less, tt)

both_before : (id : CellId) (p q : ℕ) (o w : Option CellId) → p < q → AllBefore (at id q) (both id p o w)
both_before id p q o w less = go (is_same o w)
  where
    go : (s : Bool) → AllBefore (at id q) (stands id p s o w)
    go true = seg_before id p q o less
    go false = all_append (λ (x : Placed). comes_before x.at (at id q) ≡ true) (seg id p w) (seg id p o) (seg_before id p q w less) (seg_before id p q o less)

seg_behind : (id : CellId) (p q : ℕ) (o : Option CellId) → q < p → AllBehind (at id q) (seg id p o)
seg_behind id p q None less = tt
seg_behind id p q (Some c) less = (in_one_cell id p q ∙ lt_false p q (omega (arith, less)), tt)

segs_behind : (id : CellId) (g : ℕ → Option CellId) (n a q : ℕ) → q < a → AllBehind (at id q) (flat_map (λ p. seg id p (g p)) (range_with_len a n))
segs_behind id g zero a q less = tt
segs_behind id g (suc n) a q less =
    all_append (λ (x : Placed). comes_before x.at (at id q) ≡ false) (seg id a (g a)) (flat_map (λ p. seg id p (g p)) (range_with_len (a + 1) n))
    (seg_behind id a q (g a) less) (segs_behind id g n (a + 1) q (omega (arith, less)))

-- ---- several places

news_joined : (id : CellId) (xs ys : List Move) (index : Index) → with_news id (xs ++ ys) index ≡ with_news id ys (with_news id xs index)
news_joined id [] ys index = refl
news_joined id (x ∷ xs) ys index = news_joined id xs ys (put_new id x index)

olds_joined : (id : CellId) (xs ys : List Move) (index : Index) → without_olds id (xs ++ ys) index ≡ without_olds id ys (without_olds id xs index)
olds_joined id [] ys index = refl
olds_joined id (x ∷ xs) ys index = olds_joined id xs ys (drop_old id x index)

regroup : (F a b B : List Placed) → (F ++ a) ++ (b ++ B) ≡ F ++ ((a ++ b) ++ B)
regroup F a b B = append_assoc F a (b ++ B) ∙ ap (λ v. F ++ v) (sym (append_assoc a b B))

put_places : (id : CellId) (o w : ℕ → Option CellId) (n a : ℕ) (index : Index) (F B : List Placed) → ((q : ℕ) → a ≤ q → AllBefore (at id q) F) → ((q : ℕ) → AllBehind (at id q) B)
    → IsOver index (F ++ (flat_map (λ p. seg id p (o p)) (range_with_len a n) ++ B))
    → IsOver (with_news id (flat_map (λ p. move_at p (o p) (w p)) (range_with_len a n)) index) (F ++ (flat_map (λ p. both id p (o p) (w p)) (range_with_len a n) ++ B))
put_places id o w zero a index F B low high is = is
put_places id o w (suc n) a index F B low high is =
    let rest : List Placed = flat_map (λ p. seg id p (o p)) (range_with_len (a + 1) n) in
    let mine : List Placed = both id a (o a) (w a) in
    let after : List Placed = flat_map (λ p. both id p (o p) (w p)) (range_with_len (a + 1) n) in
    let move : List Move = move_at a (o a) (w a) in
    let more : List Move = flat_map (λ p. move_at p (o p) (w p)) (range_with_len (a + 1) n) in
    let first : IsOver (with_news id move index) (F ++ (mine ++ (rest ++ B))) =
    put_place id a (o a) (w a) index F (rest ++ B) (low a (omega arith))
    (all_append (λ (x : Placed). comes_before x.at (at id a) ≡ false) rest B (segs_behind id o n (a + 1) a (omega arith)) (high a))
    (subst (λ (ps : List Placed). IsOver index (F ++ ps)) (append_assoc (seg id a (o a)) rest B) is) in
    let next : IsOver (with_news id more (with_news id move index)) ((F ++ mine) ++ (after ++ B)) =
    put_places id o w n (a + 1) (with_news id move index) (F ++ mine) B
    (λ q le. all_append (λ (x : Placed). comes_before x.at (at id q) ≡ true) F mine (low q (omega (arith, le))) (both_before id a q (o a) (w a) (omega (arith, le))))
    high
    (subst (λ (ps : List Placed). IsOver (with_news id move index) ps) (sym (append_assoc F mine (rest ++ B))) first) in
    subst (λ (v : Index). IsOver v (F ++ ((mine ++ after) ++ B))) (sym (news_joined id move more index))
    (subst (λ (ps : List Placed). IsOver (with_news id more (with_news id move index)) ps) (regroup F mine after B) next)

drop_places : (id : CellId) (o w : ℕ → Option CellId) (n a : ℕ) (index : Index) (F B : List Placed) → ((q : ℕ) → a ≤ q → AllBefore (at id q) F)
    → IsOver index (F ++ (flat_map (λ p. both id p (o p) (w p)) (range_with_len a n) ++ B))
    → IsOver (without_olds id (flat_map (λ p. move_at p (o p) (w p)) (range_with_len a n)) index) (F ++ (flat_map (λ p. seg id p (w p)) (range_with_len a n) ++ B))
drop_places id o w zero a index F B low is = is
drop_places id o w (suc n) a index F B low is =
    let rest : List Placed = flat_map (λ p. both id p (o p) (w p)) (range_with_len (a + 1) n) in
    let mine : List Placed = seg id a (w a) in
    let after : List Placed = flat_map (λ p. seg id p (w p)) (range_with_len (a + 1) n) in
    let move : List Move = move_at a (o a) (w a) in
    let more : List Move = flat_map (λ p. move_at p (o p) (w p)) (range_with_len (a + 1) n) in
    let first : IsOver (without_olds id move index) (F ++ (mine ++ (rest ++ B))) =
    drop_place id a (o a) (w a) index F (rest ++ B) (low a (omega arith))
    (subst (λ (ps : List Placed). IsOver index (F ++ ps)) (append_assoc (both id a (o a) (w a)) rest B) is) in
    let next : IsOver (without_olds id more (without_olds id move index)) ((F ++ mine) ++ (after ++ B)) =
    drop_places id o w n (a + 1) (without_olds id move index) (F ++ mine) B
    (λ q le. all_append (λ (x : Placed). comes_before x.at (at id q) ≡ true) F mine (low q (omega (arith, le))) (seg_before id a q (w a) (omega (arith, le))))
    (subst (λ (ps : List Placed). IsOver (without_olds id move index) ps) (sym (append_assoc F mine (rest ++ B))) first) in
    subst (λ (v : Index). IsOver v (F ++ ((mine ++ after) ++ B))) (sym (olds_joined id move more index))
    (subst (λ (ps : List Placed). IsOver (without_olds id more (without_olds id move index)) ps) (regroup F mine after B) next)

-- ---- the instances of a contents, by their places

by_place : (id : CellId) (g : ℕ → Option CellId) (insts : List InstType) (n a : ℕ) → length insts ≤ n → ((k : ℕ) → g (a + k) ≡ cell_of insts k)
    → map (placed_at id) (enumerate_from a insts) ≡ flat_map (λ p. seg id p (g p)) (range_with_len a n)
by_place id g [] zero a short same = refl
by_place id g (x ∷ xs) zero a short same = absurd (omega (arith, short))
by_place id g [] (suc n) a short same =
    let e : a ≡ a + 0 = omega arith in
    let here : g a ≡ None = ap g e ∙ same 0 in
    by_place id g [] n (a + 1) (omega arith) (λ k. (let f : a + 1 + k ≡ a + suc k = omega arith in ap g f ∙ same (suc k)))
    ∙ ap (λ (v : Option CellId). seg id a v ++ flat_map (λ p. seg id p (g p)) (range_with_len (a + 1) n)) (sym here)
by_place id g (x ∷ xs) (suc n) a short same =
    let e : a ≡ a + 0 = omega arith in
    let here : g a ≡ Some x.of = ap g e ∙ same 0 in
    ap (λ (ps : List Placed). record { at = at id a; of = x.of } ∷ ps)
    (by_place id g xs n (a + 1) (omega (arith, short)) (λ k. (let f : a + 1 + k ≡ a + suc k = omega arith in ap g f ∙ same (suc k))))
    ∙ ap (λ (v : Option CellId). seg id a v ++ flat_map (λ p. seg id p (g p)) (range_with_len (a + 1) n)) (sym here)

listed : (id : CellId) (insts : List InstType) (n : ℕ) → length insts ≤ n → placed_in id insts ≡ flat_map (λ p. seg id p (cell_of insts p)) (range_with_len 0 n)
listed id insts n short = by_place id (cell_of insts) insts n 0 short (λ k. (let e : 0 + k ≡ k = omega arith in ap (cell_of insts) e))

-- those of a design, with those of one cell in the middle
middle : (d : Design) (id : CellId) (part : Parted d id) (insts : List InstType) (n : ℕ) → insts_at d id ≡ insts → length insts ≤ n
    → all_placed d ≡ placed_in_all d part.front ++ (flat_map (λ p. seg id p (cell_of insts p)) (range_with_len 0 n) ++ placed_in_all d part.back)
middle d id part insts n is short =
    let f : CellId → List Placed = λ c. placed_in c (insts_at d c) in
    ap (flat_map f) part.cells
    ∙ flat_map-append f part.front (id ∷ part.back)
    ∙ ap (λ v. placed_in_all d part.front ++ (v ++ placed_in_all d part.back)) (ap (placed_in id) is ∙ listed id insts n short)

-- ---- an index keeps a list for each cell

room_put : (d : Design) (id : CellId) (m : Move) (index : Index) → HasRoom d index → HasRoom d (put_new id m index)
room_put d id m index room = go m.new
  where
    go : (o : Option CellId) → HasRoom d (option_map_or (λ of. put_in of (use_at id m) index) o index)
    go None = room
    go (Some of) = room_changed d (put_use (use_at id m)) index of room

room_drop : (d : Design) (id : CellId) (m : Move) (index : Index) → HasRoom d index → HasRoom d (drop_old id m index)
room_drop d id m index room = go m.old
  where
    go : (o : Option CellId) → HasRoom d (option_map_or (λ of. drop_in of (use_at id m) index) o index)
    go None = room
    go (Some of) = room_changed d (drop_use (use_at id m)) index of room

room_news : (d : Design) (id : CellId) (ms : List Move) (index : Index) → HasRoom d index → HasRoom d (with_news id ms index)
room_news d id [] index room = room
room_news d id (m ∷ ms) index room = room_news d id ms (put_new id m index) (room_put d id m index room)

room_olds : (d : Design) (id : CellId) (ms : List Move) (index : Index) → HasRoom d index → HasRoom d (without_olds id ms index)
room_olds d id [] index room = room
room_olds d id (m ∷ ms) index room = room_olds d id ms (drop_old id m index) (room_drop d id m index room)

-- ---- the design afterwards

abbrev refilled : Design → CellId → Contents → Design
refilled d id contents = with_changed_cell d id (with_contents contents)

-- the cell, and its instances afterwards
record Inside (d : Design) (id : CellId) (contents : Contents) : Type 0 where
  pub body : CellBody
  pub found : cell_at d id ≡ Some body
  pub later : insts_at (refilled d id contents) id ≡ contents.insts

inside : (d : Design) (id : CellId) (contents : Contents) → IsSome (contents_at d id) → Inside d id contents
inside d id contents is = go (cell_at d id) refl is
  where
    go : (o : Option CellBody) → cell_at d id ≡ o → IsSome (option_and_then (λ body. body.contents) o) → Inside d id contents
    go None found never = let no : false ≡ true = never in cc no
    go (Some body) found is = deep body.contents refl is
      where
        deep : (k : Option Contents) → body.contents ≡ k → IsSome k → Inside d id contents
        deep None same never = let no : false ≡ true = never in cc no
        deep (Some old) same is = record {
          body = body;
          found = found;
          later =
              ap (λ (o : Option CellBody). option_map_or insts_of o []) (cell_at-changed_same d id (with_contents contents) ∙ ap (option_map (with_contents contents)) found)
              ∙ ap (λ (k : Option Contents). insts_in (option_map (λ _. contents) k)) same;
        }

after_moves : (d : Design) (id : CellId) (contents : Contents) (i : Inside d id contents) (n : ℕ) → length (insts_at d id) ≤ n → length contents.insts ≤ n
    → (let ms : List Move = moves (insts_at d id) contents.insts n in without_olds id ms (with_news id ms (uses d)) ≡ uses (refilled d id contents))
after_moves d id contents i n olds_fit news_fit =
    let o : ℕ → Option CellId = cell_of (insts_at d id) in
    let w : ℕ → Option CellId = cell_of contents.insts in
    let e : Design = refilled d id contents in
    let ms : List Move = moves (insts_at d id) contents.insts n in
    let part = parted d id i.body i.found in
    let front : List Placed = placed_in_all d part.front in
    let back : List Placed = placed_in_all d part.back in
    let low : (q : ℕ) → 0 ≤ q → AllBefore (at id q) front = λ q le. front_before d id part.front q part.low in
    let high : (q : ℕ) → AllBehind (at id q) back = λ q. back_behind d id part.back q part.high in
    let now : IsOver (uses d) (front ++ (flat_map (λ p. seg id p (o p)) (range_with_len 0 n) ++ back)) =
    subst (λ (ps : List Placed). IsOver (uses d) ps) (middle d id part (insts_at d id) n refl olds_fit) (over_uses d) in
    let put = put_places id o w n 0 (uses d) front back low high now in
    let done = drop_places id o w n 0 (with_news id ms (uses d)) front back low put in
    let later : front ++ (flat_map (λ p. seg id p (w p)) (range_with_len 0 n) ++ back) ≡ all_placed e =
    (λ t. sym (front_same d id (with_contents contents) part) t ++ (flat_map (λ p. seg id p (w p)) (range_with_len 0 n) ++ sym (back_same d id (with_contents contents) part) t))
    ∙ sym (middle e id (part_after d id (with_contents contents) part) contents.insts n i.later news_fit) in
    finished e (without_olds id ms (with_news id ms (uses d)))
    (room_after d id (with_contents contents) (without_olds id ms (with_news id ms (uses d))) (room_olds d id ms (with_news id ms (uses d)) (room_news d id ms (uses d) (room_uses d))))
    (subst (λ (ps : List Placed). IsOver (without_olds id ms (with_news id ms (uses d))) ps) later done)

-- the change
pub refill_is : (d : Design) (change : Change) (id : CellId) (ms : List Move) → CanAllBeMade d change.cells → IsRefilled d change id ms
    → without_olds id ms (with_news id ms (uses d)) ≡ uses (edited d (edits_of d change))
refill_is d change id ms can is =
    let can_one = subst (λ (cs : List CellChange). CanAllBeMade d cs) is.only can in
    let contents = is.contents in
    let e : Design = refilled d id contents in
    let all = is.places.all in
    let notes = notes_keep e change.notes in
    (λ t. without_olds id (all t) (with_news id (all t) (uses d)))
    ∙ after_moves d id contents (inside d id contents can_one.0) is.places.count is.places.olds_fit is.places.news_fit
    ∙ sym (uses_same (edited e (option_to_list (option_map noted change.notes))) e notes)
    ∙ ap (λ (cs : List CellChange). uses (edited d (cell_edits d cs ++ option_to_list (option_map noted change.notes)))) (sym is.only)

-- other contents of one cell, and where it is, its instances there
pub refilled_only : (d : Design) (change : Change) (id cell : CellId) (contents : Contents) (ms : List Move) → change.cells ≡ Inner id contents ∷ []
    → cell ≡ id → AreMoves (insts_at d id) contents.insts ms → IsRefilled d change cell ms
refilled_only d change id cell contents ms only same is = record {
  contents = contents;
  only = only ∙ ap (λ (c : CellId). Inner c contents ∷ []) (sym same);
  places = subst (λ (c : CellId). AreMoves (insts_at d c) contents.insts ms) (sym same) is;
}

-- the same of what a search for it answered
pub refill_told : {R E : Type 0} (cell : R → CellId) (places : R → List Move) (d : Design) (change : Change) (id : CellId) (contents : Contents) (r : Result (Option R) E)
    → change.cells ≡ Inner id contents ∷ [] → IfOk r (λ found. IfSome found (λ x. (cell x ≡ id) × AreMoves (insts_at d id) contents.insts (places x)))
    → IfOk r (λ found. IfSome found (λ x. IsRefilled d change (cell x) (places x)))
refill_told cell places d change id contents (Err e) only is = tt
refill_told cell places d change id contents (Ok None) only is = tt
refill_told cell places d change id contents (Ok (Some x)) only is = refilled_only d change id (cell x) contents (places x) only is.0 is.1

-- ---- one use put in and taken out again

before_again : (u : UsedAt) (us : List UsedAt) → drop_use u (put_use u us) ≡ us
before_again u [] = ap (λ k. remove (u ∷ []) k) (ap (λ b. cond b 1 0) (not_itself u))
before_again u (v ∷ us) = go (comes_before v u) refl (before_again u us)
  where
    go : (b : Bool) → comes_before v u ≡ b → drop_use u (put_use u us) ≡ us → drop_use u (insert (v ∷ us) (cond b (suc (place_of u us)) 0) u) ≡ v ∷ us
    go true e rest = ap (λ b. remove (v ∷ put_use u us) (cond b (suc (place_of u (put_use u us))) 0)) e ∙ ap (λ xs. v ∷ xs) rest
    go false e rest = ap (λ b. remove (u ∷ v ∷ us) (cond b (suc (place_of u (v ∷ us))) 0)) (not_itself u)

pub changed_twice : {A : Type 0} (f g : A → A) (i : ℕ) (xs : List A) → ((x : A) → g (f x) ≡ x) → changed_at g i (changed_at f i xs) ≡ xs
changed_twice f g i [] back = refl
changed_twice f g zero (x ∷ xs) back = ap (λ y. y ∷ xs) (back x)
changed_twice f g (suc i) (x ∷ xs) back = ap (λ ys. x ∷ ys) (changed_twice f g i xs back)

pub put_back_in : (of : CellId) (u : UsedAt) (index : Index) → drop_in of u (put_in of u index) ≡ index
put_back_in of u index = changed_twice (λ cells. changed_at (put_use u) of.slot cells) (λ cells. changed_at (drop_use u) of.slot cells) of.lib.0 index
    (λ cells. changed_twice (put_use u) (drop_use u) of.slot cells (before_again u))

new_again : (id : CellId) (m : Move) (index : Index) → drop_new id m (put_new id m index) ≡ index
new_again id m index = go m.new
  where
    go : (o : Option CellId) → option_map_or (λ of. drop_in of (use_at id m) (option_map_or (λ of. put_in of (use_at id m) index) o index)) o (option_map_or (λ of. put_in of (use_at id m) index) o index) ≡ index
    go None = refl
    go (Some of) = put_back_in of (use_at id m) index

-- ---- steps of the loops

pub news_read : (id : CellId) (ms : List Move) (k : ℕ) (d : Move) (index mid new : Index) → k < length ms → mid ≡ with_news id (take k ms) index → new ≡ put_new id (get_or ms k d) mid
    → new ≡ with_news id (take (k + 1) ms) index
news_read id ms k d index mid new within is next =
    next
    ∙ ap (put_new id (get_or ms k d)) is
    ∙ sym (ap (λ (xs : List Move). with_news id xs index) (take_more ms k d within) ∙ news_joined id (take k ms) (get_or ms k d ∷ []) index)

pub olds_read : (id : CellId) (ms : List Move) (k : ℕ) (d : Move) (index mid new : Index) → k < length ms → mid ≡ without_olds id (take k ms) index → new ≡ drop_old id (get_or ms k d) mid
    → new ≡ without_olds id (take (k + 1) ms) index
olds_read id ms k d index mid new within is next =
    next
    ∙ ap (drop_old id (get_or ms k d)) is
    ∙ sym (ap (λ (xs : List Move). without_olds id xs index) (take_more ms k d within) ∙ olds_joined id (take k ms) (get_or ms k d ∷ []) index)

-- one place less
pub news_unread : (id : CellId) (ms : List Move) (k : ℕ) (d : Move) (index mid new : Index) → k < length ms → mid ≡ with_news id (take (k + 1) ms) index → new ≡ drop_new id (get_or ms k d) mid
    → new ≡ with_news id (take k ms) index
news_unread id ms k d index mid new within is next =
    next
    ∙ ap (drop_new id (get_or ms k d)) (is ∙ ap (λ (xs : List Move). with_news id xs index) (take_more ms k d within) ∙ news_joined id (take k ms) (get_or ms k d ∷ []) index)
    ∙ new_again id (get_or ms k d) (with_news id (take k ms) index)

-- one place more that was looked at
pub moves_next : (olds news : List InstType) (k : ℕ) → moves olds news (k + 1) ≡ moves olds news k ++ move_at k (cell_of olds k) (cell_of news k)
moves_next olds news k =
    let f : ℕ → List Move = λ place. move_at place (cell_of olds place) (cell_of news place) in
    let e : 0 + k ≡ k = omega arith in
    ap (flat_map f) (range_next 0 k ∙ ap (λ v. range_with_len 0 k ++ v ∷ []) e)
    ∙ flat_map-append f (range_with_len 0 k) (k ∷ [])
    ∙ ap (λ v. moves olds news k ++ v) (append-nil (f k))
