-- The changes of a split: what they write, and that new cells go last and instances are of cells that are there.
use Rattle.std.proofs.Common.{◌≡◌, ◌⊎◌, ◌+◌, ℕ, List, [], ◌∷◌, ◌++◌, map, refl, sym, ap, subst, ◌∙◌, inl, inr, Option, Some, None, Bool, true, false, cond, append-nil, append_assoc}
use Rattle.std.specs.Prelude.{IsSome, is_some, option_and_then}
use Rattle.std.specs.List.{AllByRecursion, Contains, enumerate_from, flat_map}
use Rattle.std.specs.Option.{option_map, option_map_or, option_to_list}
use Rattle.std.proofs.lemmas.Bool.{true≢false}
use Rattle.std.proofs.lemmas.List.Elements.{All-from_recursion}
use Rattle.netlist_schema.specs.Design.{Design, cell_at, insts_in, insts_of}
use Rattle.netlist_schema.specs.Hierarchy.{IsCell}
use Rattle.netlist_schema.specs.Types.{CellBody, CellId, Contents, Inst, Object}
use Rattle.netlist_schema.specs.declared.ids.Object.TheVariants.{Directory}
use Rattle.edit_rules_spec.specs.Edit.{Edit, fresh, inner, edited_once, with_more_cell}
use Rattle.edit_rules_spec.specs.Edit.{IsChanged}
use Rattle.edit_rules_spec.specs.Objects.{IsClosed}
use Rattle.edit_rules_spec.specs.Seen.{contents_at}
use Rattle.edit_rules_spec.proofs.Closed.{is_cell_after}
use Rattle.flat_spec.specs.Occurrences.{Occurrence}
use Rattle.flat_spec.proofs.ListLemmas.{Member, Member-contains, Member-from_map, Member-append_cases}
use Rattle.edit_rules_spec.proofs.Edits.{changed-cases}
use Rattle.uniquify_spec.specs.Blocks.{is_block}
use Rattle.uniquify_spec.specs.Copies.{Copy}
use Rattle.edit_rules_spec.specs.Edit.{IsMade, AllGoLast, AllFindOld, AllPlaceOld}
use Rattle.edit_rules_spec.specs.Objects.{contents_object}
use Rattle.uniquify_spec.specs.Parts.{IsPartOf}
use Rattle.uniquify_spec.specs.Split.{Split, Owner, copy_owner, kept_owner, owners, turned_inst, turned, renamed, is_turned, new_cell, turned_cell, split_edits}
use Rattle.uniquify_spec.proofs.CopyLists.{AreNew, copy-cases}
use Rattle.uniquify_spec.proofs.KeptCells.{turned_cells}
use Rattle.uniquify_spec.proofs.NewCells.{IsOnTheWay, at_the_start, is_next, one_more, body_of, lib_of_new, new_cells, new_is_cell}

-- a block is a cell
pub block_is_cell : (d : Design) (id : CellId) → is_block d id ≡ true → IsCell d id
block_is_cell d id block = some (cell_at d id) block
  where
    some : (o : Option CellBody) → is_some (option_and_then (λ (b : CellBody). b.contents) o) ≡ true → IsSome o
    some None is = is
    some (Some body) is = refl

-- ---- what is written

pub made-left : (xs ys : List Edit) (o : Object) → IsMade xs o → IsMade (xs ++ ys) o
made-left [] ys o is = absurd is
made-left (x ∷ xs) ys o is = elim is [ inl here ↦ inl here | inr rest ↦ inr (made-left xs ys o rest) ]

made-right : (xs ys : List Edit) (o : Object) → IsMade ys o → IsMade (xs ++ ys) o
made-right [] ys o is = is
made-right (x ∷ xs) ys o is = inr (made-right xs ys o is)

-- the object that a change writes comes from one of the elements
changed_each : {X : Type 0} (f : X → List Edit) (xs : List X) (o : Object) → IsChanged (flat_map f xs) o → (x : X) × Member xs x × IsChanged (f x) o
changed_each f [] o is = absurd is
changed_each f (x ∷ xs) o is = elim (changed-cases (f x) (flat_map f xs) o is) [
  | inl here ↦ (x, inl refl, here)
  | inr rest ↦ let more = changed_each f xs o rest in (more.0, inr more.1, more.2)
]

made_each : {X : Type 0} (f : X → List Edit) (xs : List X) (x : X) (o : Object) → Member xs x → IsMade (f x) o → IsMade (flat_map f xs) o
made_each f [] x o member is = absurd member
made_each f (v ∷ xs) x o member is = elim member [
  | inl e ↦ made-left (f v) (flat_map f xs) o (subst (λ y. IsMade (f y) o) (sym e) is)
  | inr rest ↦ made-right (f v) (flat_map f xs) o (made_each f xs x o rest is)
]

new_changed : (m : Copy) (c : Option CellBody) (o : Object) → IsChanged (option_to_list (option_map (λ body. fresh m.id (renamed m body)) c)) o
    → IsSome c × ((o ≡ Directory m.id.lib) ⊎ IsPartOf m.id o)
new_changed m None o is = absurd is
new_changed m (Some body) o is = elim is [
  | inl here ↦ (refl, elim here [ inl directory ↦ inl directory | inr part ↦ inr part ])
  | inr never ↦ absurd never
]

new_made : (m : Copy) (c : Option CellBody) (o : Object) → IsSome c → IsPartOf m.id o → IsMade (option_to_list (option_map (λ body. fresh m.id (renamed m body)) c)) o
new_made m None o is part = let never : false ≡ true = is in absurd (true≢false (sym never))
new_made m (Some body) o is part = inl part

turned_changed : (all : List Copy) (w : Owner) (turns : Bool) (c : Option CellBody) (o : Object)
    → IsChanged (cond turns (option_to_list (option_map (λ inside. inner w.own (turned all w.path inside)) (option_and_then (λ (b : CellBody). b.contents) c))) []) o
    → IsSome c × (o ≡ contents_object w.own)
turned_changed all w false c o is = absurd is
turned_changed all w true None o is = absurd is
turned_changed all w true (Some body) o is = (refl, at body.contents is)
  where
    at : (inside : Option Contents) → IsChanged (option_to_list (option_map (λ i. inner w.own (turned all w.path i)) inside)) o → o ≡ contents_object w.own
    at None is = absurd is
    at (Some inside) is = elim is [ inl here ↦ here | inr never ↦ absurd never ]

-- what a split writes is a directory of a copy, or the contents of a kept cell, or a new cell has it
pub split_writes : (d : Design) (s : Split) (o : Object) → IsChanged (split_edits d s) o
    → ((m : Copy) × Member s.copies m × (o ≡ Directory m.id.lib)) ⊎ (((k : Occurrence) × Member s.kept k × (o ≡ contents_object k.cell)) ⊎ IsMade (split_edits d s) o)
split_writes d s o is = elim (changed-cases (new_cells d s.copies) (turned_cells d s.copies (owners s)) o is) [
  | inl new ↦
      let from = changed_each (new_cell d) s.copies o new in
      let m = from.0 in
      let what = new_changed m (cell_at d m.of) o from.2 in
      elim what.1 [ inl directory ↦ inl (m, from.1, directory) | inr part ↦ inr (inr (made m from.1 what.0 part)) ]
  | inr turns ↦
      let from = changed_each (turned_cell d s.copies) (owners s) o turns in
      let w = from.0 in
      let what = turned_changed s.copies w (is_turned s.copies w.path) (cell_at d w.cell) o from.2 in
      elim (Member-append_cases (map copy_owner s.copies) (map kept_owner s.kept) w from.1) [
        | inl copy ↦
            let m = Member-from_map copy_owner s.copies w copy in
            inr (inr (made m.0 m.1 (subst (λ (v : Owner). IsCell d v.cell) (sym m.2) what.0) (inr (what.1 ∙ ap (λ (v : Owner). contents_object v.own) (sym m.2)))))
        | inr kept ↦
            let k = Member-from_map kept_owner s.kept w kept in
            inr (inl (k.0, k.1, what.1 ∙ ap (λ (v : Owner). contents_object v.own) (sym k.2)))
      ]
]
  where
    made : (m : Copy) → Member s.copies m → IsCell d m.of → IsPartOf m.id o → IsMade (split_edits d s) o
    made m member is part =
        made-left (new_cells d s.copies) (turned_cells d s.copies (owners s)) o (made_each (new_cell d) s.copies m o member (new_made m (cell_at d m.of) o is part))

-- ---- new cells go last

new_last : (d b : Design) (before ms : List Copy) (rest : List Edit) → IsOnTheWay d b before → AreNew d before ms → ((e : Design) → AllGoLast e rest) → AllGoLast b (new_cells d ms ++ rest)
new_last d b before [] rest way new after = after b
new_last d b before (m ∷ ms) rest way new after =
    let body = body_of d m.of new.0.cell in
    let here : AllGoLast b (fresh m.id (renamed m body.0) ∷ new_cells d ms ++ rest) =
    (is_next d b before m way new.0, new_last d (with_more_cell b m.id.lib (renamed m body.0)) (before ++ m ∷ []) ms rest (one_more d b before m (renamed m body.0) way new.0) new.1 after) in
    subst (λ (c : Option CellBody). AllGoLast b ((option_to_list (option_map (λ x. fresh m.id (renamed m x)) c) ++ new_cells d ms) ++ rest)) (sym body.1) here

turned_last_one : (all : List Copy) (w : Owner) (turns : Bool) (c : Option Contents) (rest : List Edit) → ((e : Design) → AllGoLast e rest)
    → (b : Design) → AllGoLast b (cond turns (option_to_list (option_map (λ inside. inner w.own (turned all w.path inside)) c)) [] ++ rest)
turned_last_one all w false c rest after b = after b
turned_last_one all w true None rest after b = after b
turned_last_one all w true (Some inside) rest after b = (tt, after _)

turned_last : (d : Design) (all : List Copy) (ws : List Owner) (b : Design) → AllGoLast b (turned_cells d all ws)
turned_last d all [] b = tt
turned_last d all (w ∷ ws) b = turned_last_one all w (is_turned all w.path) (contents_at d w.cell) (turned_cells d all ws) (turned_last d all ws) b

pub split_last : (d : Design) (s : Split) → AreNew d [] s.copies → AllGoLast d (split_edits d s)
split_last d s new = new_last d d [] s.copies (turned_cells d s.copies (owners s)) (at_the_start d) new (turned_last d s.copies (owners s))

-- ---- instances are of cells that are there

pub each_of : {X : Type 0} (P : X → Type 0) (xs : List X) → ((x : X) → Member xs x → P x) → AllByRecursion P xs
each_of P [] h = tt
each_of P (x ∷ xs) h = (h x (inl refl), each_of P xs (λ y m. h y (inr m)))

-- the cells that are there on the way: those of the design, and the copies made before
abbrev HasBoth : Design → List Copy → Design → Type 0
HasBoth d before b = ((id : CellId) → IsCell d id → IsCell b id) × ((m : Copy) → Member before m → IsCell b m.id)

member-cases_last : (before : List Copy) (v m : Copy) → Member (before ++ v ∷ []) m → Member before m ⊎ (m ≡ v)
member-cases_last before v m member = elim (Member-append_cases before (v ∷ []) m member) [
  | inl left ↦ inl left
  | inr right ↦ elim right [ inl e ↦ inr (sym e) | inr never ↦ absurd never ]
]

-- and still, after the change that makes one more copy
both_onward : (d : Design) (edit : Edit) (before : List Copy) (v : Copy) (b : Design) → HasBoth d before b → IsCell (edited_once b edit) v.id → HasBoth d (before ++ v ∷ []) (edited_once b edit)
both_onward d edit before v b there made = (
  λ id is. is_cell_after edit b id (there.0 id is),
  λ m member. elim (member-cases_last before v m member) [
    | inl old ↦ is_cell_after edit b m.id (there.1 m old)
    | inr same ↦ subst (λ (x : Copy). IsCell (edited_once b edit) x.id) (sym same) made
  ],
)

there_of : (d b : Design) (body : CellBody) (c : CellId) → IsClosed d → cell_at d c ≡ Some body → ((id : CellId) → IsCell d id → IsCell b id) → (x : Inst) → Member (insts_of body) x → IsCell b x.of
there_of d b body c closed is there x member =
    there x.of (closed c x (subst (λ (o : Option CellBody). Contains (option_map_or insts_of o []) x) (sym is) (Member-contains (insts_of body) x member)))

new_places : (d : Design) → IsClosed d → (ms before : List Copy) (b : Design) (rest : List Edit) → IsOnTheWay d b before → AreNew d before ms → HasBoth d before b
    → ((e : Design) → HasBoth d (before ++ ms) e → AllPlaceOld e rest) → AllPlaceOld b (new_cells d ms ++ rest)
new_places d closed [] before b rest way new there after = after b (there.0, λ m member. there.1 m (subst (λ ms. Member ms m) (append-nil before) member))
new_places d closed (v ∷ ms) before b rest way new there after =
    let body = body_of d v.of new.0.cell in
    let next = is_next d b before v way new.0 in
    let edit = fresh v.id (renamed v body.0) in
    let onward = both_onward d edit before v b there (new_is_cell d b before v (renamed v body.0) way new.0) in
    let here : AllPlaceOld b (edit ∷ new_cells d ms ++ rest) = (
      All-from_recursion (λ (x : Inst). IsCell b x.of) (insts_of body.0) (each_of (λ (x : Inst). IsCell b x.of) (insts_of body.0) (there_of d b body.0 v.of closed body.1 there.0)),
      new_places d closed ms (before ++ v ∷ []) (edited_once b edit) rest (one_more d b before v (renamed v body.0) way new.0) new.1 onward
          (λ e has. after e (has.0, λ m member. has.1 m (subst (λ l. Member l m) (sym (append_assoc before (v ∷ []) ms)) member))),
    ) in
    subst (λ (c : Option CellBody). AllPlaceOld b ((option_to_list (option_map (λ x. fresh v.id (renamed v x)) c) ++ new_cells d ms) ++ rest)) (sym body.1) here

turned_there : (all : List Copy) (path : List ℕ) (b : Design) (k : ℕ) (insts : List Inst) → ((x : Inst) → Member insts x → IsCell b x.of) → ((m : Copy) → Member all m → IsCell b m.id)
    → AllByRecursion (λ (x : Inst). IsCell b x.of) (map (turned_inst all path) (enumerate_from k insts))
turned_there all path b k [] old new = tt
turned_there all path b k (x ∷ insts) old new = (
  elim (copy-cases all (path ++ k ∷ [])) [
    | inl absent ↦ subst (λ (o : Option Copy). IsCell b (option_map_or (λ copy. copy.id) o x.of)) (sym absent.0) (old x (inl refl))
    | inr found ↦ subst (λ (o : Option Copy). IsCell b (option_map_or (λ copy. copy.id) o x.of)) (sym found.1) (new found.0 found.2)
  ],
  turned_there all path b (k + 1) insts (λ y m. old y (inr m)) new,
)

turned_places_one : (d : Design) (all : List Copy) (w : Owner) (turns : Bool) (c : Option Contents) → ((x : Inst) → Member (insts_in c) x → IsCell d x.of) → (rest : List Edit)
    → ((e : Design) → HasBoth d all e → AllPlaceOld e rest) → (b : Design) → HasBoth d all b
    → AllPlaceOld b (cond turns (option_to_list (option_map (λ inside. inner w.own (turned all w.path inside)) c)) [] ++ rest)
turned_places_one d all w false c old rest after b there = after b there
turned_places_one d all w true None old rest after b there = after b there
turned_places_one d all w true (Some inside) old rest after b there =
    let edit = inner w.own (turned all w.path inside) in (
      All-from_recursion (λ (x : Inst). IsCell b x.of) (map (turned_inst all w.path) (enumerate_from 0 inside.insts))
          (turned_there all w.path b 0 inside.insts (λ x m. there.0 x.of (old x m)) there.1),
      after (edited_once b edit) (λ id is. is_cell_after edit b id (there.0 id is), λ m member. is_cell_after edit b m.id (there.1 m member)),
    )

insts_there : (d : Design) → IsClosed d → (c : CellId) (x : Inst) → Member (insts_in (contents_at d c)) x → IsCell d x.of
insts_there d closed c x member = at (cell_at d c) refl member
  where
    at : (o : Option CellBody) → cell_at d c ≡ o → Member (insts_in (option_and_then (λ (b : CellBody). b.contents) o)) x → IsCell d x.of
    at None is member = absurd member
    at (Some body) is member = there_of d d body c closed is (λ id h. h) x member

turned_places : (d : Design) → IsClosed d → (all : List Copy) (ws : List Owner) (b : Design) → HasBoth d all b → AllPlaceOld b (turned_cells d all ws)
turned_places d closed all [] b there = tt
turned_places d closed all (w ∷ ws) b there =
    turned_places_one d all w (is_turned all w.path) (contents_at d w.cell) (insts_there d closed w.cell) (turned_cells d all ws) (turned_places d closed all ws) b there

pub split_places : (d : Design) (s : Split) → IsClosed d → AreNew d [] s.copies → AllPlaceOld d (split_edits d s)
split_places d s closed new =
    new_places d closed s.copies [] d (turned_cells d s.copies (owners s)) (at_the_start d) new (λ id is. is, λ m never. absurd never) (turned_places d closed s.copies (owners s))

-- ---- what is changed is there

new_finds : (d : Design) (ms before : List Copy) (b : Design) (rest : List Edit) → IsOnTheWay d b before → AreNew d before ms → HasBoth d before b
    → ((e : Design) → HasBoth d (before ++ ms) e → AllFindOld e rest) → AllFindOld b (new_cells d ms ++ rest)
new_finds d [] before b rest way new there after = after b (there.0, λ m member. there.1 m (subst (λ ms. Member ms m) (append-nil before) member))
new_finds d (v ∷ ms) before b rest way new there after =
    let body = body_of d v.of new.0.cell in
    let edit = fresh v.id (renamed v body.0) in
    let onward = both_onward d edit before v b there (new_is_cell d b before v (renamed v body.0) way new.0) in
    let here : AllFindOld b (edit ∷ new_cells d ms ++ rest) = (
      way.libs v.id.lib (lib_of_new d before v new.0),
      new_finds d ms (before ++ v ∷ []) (edited_once b edit) rest (one_more d b before v (renamed v body.0) way new.0) new.1 onward
          (λ e has. after e (has.0, λ m member. has.1 m (subst (λ l. Member l m) (sym (append_assoc before (v ∷ []) ms)) member))),
    ) in
    subst (λ (c : Option CellBody). AllFindOld b ((option_to_list (option_map (λ x. fresh v.id (renamed v x)) c) ++ new_cells d ms) ++ rest)) (sym body.1) here

turned_finds_one : (d : Design) (all : List Copy) (w : Owner) (turns : Bool) (c : Option Contents) (rest : List Edit) → ((e : Design) → HasBoth d all e → AllFindOld e rest)
    → (b : Design) → HasBoth d all b → (IsSome c → IsCell b w.own) → AllFindOld b (cond turns (option_to_list (option_map (λ inside. inner w.own (turned all w.path inside)) c)) [] ++ rest)
turned_finds_one d all w false c rest after b there own = after b there
turned_finds_one d all w true None rest after b there own = after b there
turned_finds_one d all w true (Some inside) rest after b there own =
    let edit = inner w.own (turned all w.path inside) in (
      own refl,
      after (edited_once b edit) (λ id is. is_cell_after edit b id (there.0 id is), λ m member. is_cell_after edit b m.id (there.1 m member)),
    )

-- the own cell of an occurrence is a copy, or the cell that it had
owner_there : (d : Design) (s : Split) (w : Owner) → Member (owners s) w → IsSome (contents_at d w.cell) → (b : Design) → HasBoth d s.copies b → IsCell b w.own
owner_there d s w member is b there = elim (Member-append_cases (map copy_owner s.copies) (map kept_owner s.kept) w member) [
  | inl copy ↦
      let m = Member-from_map copy_owner s.copies w copy in
      subst (λ (v : Owner). IsCell b v.own) m.2 (there.1 m.0 m.1)
  | inr kept ↦
      let k = Member-from_map kept_owner s.kept w kept in
      let cell : IsCell d k.0.cell = block_is_cell d k.0.cell (subst (λ (v : Owner). IsSome (contents_at d v.cell)) (sym k.2) is) in
      subst (λ (v : Owner). IsCell b v.own) k.2 (there.0 k.0.cell cell)
]

turned_finds : (d : Design) (s : Split) (ws : List Owner) → ((w : Owner) → Member ws w → Member (owners s) w) → (b : Design) → HasBoth d s.copies b → AllFindOld b (turned_cells d s.copies ws)
turned_finds d s [] among b there = tt
turned_finds d s (w ∷ ws) among b there =
    turned_finds_one d s.copies w (is_turned s.copies w.path) (contents_at d w.cell) (turned_cells d s.copies ws) (turned_finds d s ws (λ v m. among v (inr m))) b there
    (λ is. owner_there d s w (among w (inl refl)) is b there)

pub split_finds : (d : Design) (s : Split) → AreNew d [] s.copies → AllFindOld d (split_edits d s)
split_finds d s new =
    new_finds d s.copies [] d (turned_cells d s.copies (owners s)) (at_the_start d) new (λ id is. is, λ m never. absurd never) (turned_finds d s (owners s) (λ w m. m))
