-- After a split each path leads to the own cell of its occurrence, so the two designs are alike.
use Rattle.std.proofs.Common.{◌≡◌, ◌+◌, ℕ, zero, suc, List, [], ◌∷◌, ◌++◌, map, refl, sym, ap, subst, ◌∙◌, inl, inr, arith, Option, Some, None, Bool, true, false, append-nil, append_assoc}
use Rattle.std.specs.Prelude.{slice_get, IfSome, cond, is_some, option_and_then}
use Rattle.std.specs.List.{enumerate_from, flat_map}
use Rattle.std.specs.Option.{option_map, option_map_or, option_to_list}
use Rattle.std.proofs.lemmas.Bool.{true≢false}
use Rattle.netlist_schema.specs.Design.{Design, cell_at, insts_in, insts_of}
use Rattle.netlist_schema.specs.Hierarchy.{insts_at}
use Rattle.netlist_schema.specs.Types.{CellBody, CellId, Contents, Inst, LibHead, TopHead}
use Rattle.edit_rules_spec.specs.Edit.{Edit, fresh, inner, edited}
use Rattle.edit_rules_spec.specs.Objects.{Grown, outside_of, outside_at, head_at, name_of, cell_name_at}
use Rattle.edit_rules_spec.specs.Seen.{contents_at}
use Rattle.edit_rules_spec.proofs.Growing.{edited_is_grown}
use Rattle.flat_spec.specs.Paths.{cell_along, Reaches}
use Rattle.flat_spec.proofs.PathLemmas.{Reaches-append, Reaches-cons}
use Rattle.uniquify_spec.specs.Alike.{unplaced, all_unplaced, inside_of, AreAlikeBelow, AreAlike}
use Rattle.uniquify_spec.specs.Blocks.{is_block}
use Rattle.uniquify_spec.specs.Copies.{Copy}
use Rattle.uniquify_spec.specs.Erased.{leaf_name}
use Rattle.uniquify_spec.specs.Split.{Split, Owner, owners, turned_inst, turned, renamed, new_cell, is_turned, turned_cell, split_edits}
use Rattle.uniquify_spec.proofs.CopyLists.{copy-cases}
use Rattle.uniquify_spec.proofs.KeptCells.{turned_cells, edited-append}
use Rattle.uniquify_spec.proofs.NewCells.{new_cells, body_of}
use Rattle.uniquify_spec.proofs.SplitCells.{IsSplit, split_design, own, of_is, own_body, IsTurned}

-- ---- instances of an own cell

slice_get-enumerated : {A B : Type 0} (f : ℕ × A → B) (k : ℕ) (xs : List A) (i : ℕ) → slice_get (map f (enumerate_from k xs)) i ≡ option_map (λ x. f (k + i, x)) (slice_get xs i)
slice_get-enumerated f k [] i = refl
slice_get-enumerated f k (x ∷ xs) zero = let n : k ≡ k + 0 = omega arith in ap (λ j. Some (f (j, x))) n
slice_get-enumerated f k (x ∷ xs) (suc i) =
    let n : (k + 1) + i ≡ k + suc i = omega arith in
    slice_get-enumerated f (k + 1) xs i ∙ ap (λ j. option_map (λ y. f (j, y)) (slice_get xs i)) n

pub insts_turned : (all : List Copy) (path : List ℕ) (o : Option Contents) → insts_in (option_map (turned all path) o) ≡ map (turned_inst all path) (enumerate_from 0 (insts_in o))
insts_turned all path None = refl
insts_turned all path (Some contents) = refl

-- the instances of the own cell are those of the cell, turned
pub own_insts : (d : Design) (r : CellId) (s : Split) → IsSplit d r s → (path : List ℕ) (c : CellId) → Reaches d r path c
    → insts_at (split_design d s) (own s path c) ≡ map (turned_inst s.copies path) (enumerate_from 0 (insts_at d c))
own_insts d r s is path c reached =
    let body = body_of d c (is.cells path c reached) in
    let new = own_body d r s is path c reached body.0 body.1 in
    let e = split_design d s in
    let now : insts_at e (own s path c) ≡ insts_of new.0 = ap (λ o. option_map_or insts_of o []) new.1 in
    let was : insts_at d c ≡ insts_of body.0 = ap (λ o. option_map_or insts_of o []) body.1 in
    now ∙ ap insts_in new.2.contents ∙ insts_turned s.copies path body.0.contents
    ∙ ap (λ xs. map (turned_inst s.copies path) (enumerate_from 0 xs)) (sym was)

pub own_inst : (d : Design) (r : CellId) (s : Split) → IsSplit d r s → (path : List ℕ) (c : CellId) → Reaches d r path c → (i : ℕ)
    → slice_get (insts_at (split_design d s) (own s path c)) i ≡ option_map (λ x. turned_inst s.copies path (i, x)) (slice_get (insts_at d c) i)
own_inst d r s is path c reached i =
    let n : 0 + i ≡ i = omega arith in
    ap (λ xs. slice_get xs i) (own_insts d r s is path c reached)
    ∙ slice_get-enumerated (turned_inst s.copies path) 0 (insts_at d c) i
    ∙ ap (λ j. option_map (λ x. turned_inst s.copies path (j, x)) (slice_get (insts_at d c) i)) n

-- ---- paths

-- on from an own cell, each path leads to the own cell of where it led
pub along : (d : Design) (r : CellId) (s : Split) → IsSplit d r s → (more path : List ℕ) (c : CellId) → Reaches d r path c
    → cell_along (split_design d s) (own s path c) more ≡ option_map (own s (path ++ more)) (cell_along d c more)
along d r s is [] path c reached = ap (λ p. Some (own s p c)) (sym (append-nil path))
along d r s is (i ∷ more) path c reached =
    ap (option_and_then (λ inst. cell_along (split_design d s) inst.of more)) (own_inst d r s is path c reached i)
    ∙ step (slice_get (insts_at d c) i) refl (λ x below. along d r s is more (path ++ i ∷ []) x.of below)
  where
    step : (o : Option Inst) → slice_get (insts_at d c) i ≡ o
        → ((x : Inst) → Reaches d r (path ++ i ∷ []) x.of
        → cell_along (split_design d s) (own s (path ++ i ∷ []) x.of) more ≡ option_map (own s ((path ++ i ∷ []) ++ more)) (cell_along d x.of more))
        → option_and_then (λ inst. cell_along (split_design d s) inst.of more) (option_map (λ x. turned_inst s.copies path (i, x)) o)
        ≡ option_map (own s (path ++ i ∷ more)) (option_and_then (λ inst. cell_along d inst.of more) o)
    step None at further = refl
    step (Some x) at further =
        let below : Reaches d r (path ++ i ∷ []) x.of = Reaches-append d r c x.of path (i ∷ []) reached (Reaches-cons d c i x [] x.of at refl) in
        further x below
        ∙ ap (λ p. option_map (own s p) (cell_along d x.of more)) (append_assoc path (i ∷ []) more)

-- the top keeps its cell
pub own_root : (d : Design) (r : CellId) (s : Split) → IsSplit d r s → own s [] r ≡ r
own_root d r s is = elim (copy-cases s.copies []) [
  | inl absent ↦ ap (λ (o : Option Copy). option_map_or (λ copy. copy.id) o r) absent.0
  | inr found ↦ absurd (is.copies_below found.0 found.2 found.3)
]

pub along_root : (d : Design) (r : CellId) (s : Split) → IsSplit d r s → (path : List ℕ)
    → cell_along (split_design d s) r path ≡ option_map (own s path) (cell_along d r path)
along_root d r s is path =
    ap (λ c. cell_along (split_design d s) c path) (sym (own_root d r s is)) ∙ along d r s is path [] r refl

-- ---- alike

all_unplaced_turned : (all : List Copy) (path : List ℕ) (k : ℕ) (insts : List Inst) → map unplaced (map (turned_inst all path) (enumerate_from k insts)) ≡ map unplaced insts
all_unplaced_turned all path k [] = refl
all_unplaced_turned all path k (inst ∷ insts) = ap (λ xs. unplaced inst ∷ xs) (all_unplaced_turned all path (k + 1) insts)

contents_unplaced : (all : List Copy) (path : List ℕ) (o : Option Contents) → option_map all_unplaced (option_map (turned all path) o) ≡ option_map all_unplaced o
contents_unplaced all path None = refl
contents_unplaced all path (Some contents) = ap (λ xs. Some (record { insts = xs; nets = contents.nets })) (all_unplaced_turned all path 0 contents.insts)

inside_turned : (all : List Copy) (path : List ℕ) (old new : CellBody) → IsTurned all path old new → inside_of new ≡ inside_of old
inside_turned all path old new is =
    let contents = ap (option_map all_unplaced) is.contents ∙ contents_unplaced all path old.contents in
    λ t. record { ports = is.ports t; contents = contents t }

block_turned : (all : List Copy) (path : List ℕ) (o : Option Contents) → is_some (option_map (turned all path) o) ≡ is_some o
block_turned all path None = refl
block_turned all path (Some contents) = refl

block_of : (d : Design) (c : CellId) (body : CellBody) → cell_at d c ≡ Some body → is_block d c ≡ is_some body.contents
block_of d c body is = ap (λ o. is_some (option_and_then (λ (b : CellBody). b.contents) o)) is

-- the own cell of a block is a block, and that of a leaf is none
pub own_block : (d : Design) (r : CellId) (s : Split) → IsSplit d r s → (path : List ℕ) (c : CellId) → Reaches d r path c
    → is_block (split_design d s) (own s path c) ≡ is_block d c
own_block d r s is path c reached =
    let body = body_of d c (is.cells path c reached) in
    let new = own_body d r s is path c reached body.0 body.1 in
    block_of (split_design d s) (own s path c) new.0 new.1
    ∙ ap is_some new.2.contents ∙ block_turned s.copies path body.0.contents
    ∙ sym (block_of d c body.0 body.1)

-- a cell keeps its name
name_kept : (d e : Design) → Grown d e → (c : CellId) (body : CellBody) → cell_at d c ≡ Some body → cell_name_at e c ≡ cell_name_at d c
name_kept d e grown c body is =
    let was : outside_at d c ≡ Some (outside_of body) = ap (option_map outside_of) is in
    let now : outside_at e c ≡ outside_at d c = grown.cells c (outside_of body) was ∙ sym was in
    let head : head_at e c.lib ≡ head_at d c.lib = ap (λ heads. slice_get heads c.lib.0) (sym grown.libs) in
    λ t. option_and_then (λ (h : LibHead). option_map (name_of h) (now t)) (head t)

pub leaf_kept : (d : Design) (r : CellId) (s : Split) → IsSplit d r s → (path : List ℕ) (c : CellId) → Reaches d r path c
    → leaf_name d c ≡ leaf_name (split_design d s) (own s path c)
leaf_kept d r s is path c reached = by_block (is_block d c) refl
  where
    by_block : (b : Bool) → is_block d c ≡ b → leaf_name d c ≡ leaf_name (split_design d s) (own s path c)
    by_block true block =
        let there = own_block d r s is path c reached ∙ block in
        ap (λ b. cond b None (cell_name_at d c)) block ∙ sym (ap (λ b. cond b None (cell_name_at (split_design d s) (own s path c))) there)
    by_block false leaf =
        let there = own_block d r s is path c reached ∙ leaf in
        let body = body_of d c (is.cells path c reached) in
        let same : own s path c ≡ c = elim (copy-cases s.copies path) [
          | inl absent ↦ ap (λ (o : Option Copy). option_map_or (λ copy. copy.id) o c) absent.0
          | inr found ↦
              let of = of_is d r s is found.0 found.2 path c found.3 reached in
              absurd (true≢false (sym (is.copies_of_blocks found.0 found.2) ∙ ap (is_block d) of ∙ leaf))
        ] in
        let kept = name_kept d (split_design d s) (edited_is_grown (split_edits d s) d) c body.0 body.1 in
        ap (λ b. cond b None (cell_name_at d c)) leaf
        ∙ sym kept
        ∙ ap (cell_name_at (split_design d s)) (sym same)
        ∙ sym (ap (λ b. cond b None (cell_name_at (split_design d s) (own s path c))) there)

-- below the top the two designs are alike
pub split_alike_below : (d : Design) (r : CellId) (s : Split) → IsSplit d r s → AreAlikeBelow d (split_design d s) r r
split_alike_below d r s is = record {
  inside = λ path.
      inside_at path (cell_along d r path) refl
      ∙ sym (ap (λ k. option_map inside_of (option_and_then (cell_at (split_design d s)) k)) (along_root d r s is path));
  leaves = λ path.
      leaf_at path (cell_along d r path) refl
      ∙ sym (ap (option_map (leaf_name (split_design d s))) (along_root d r s is path));
}
  where
    inside_at : (path : List ℕ) (k : Option CellId) → cell_along d r path ≡ k
        → option_map inside_of (option_and_then (cell_at d) (cell_along d r path))
        ≡ option_map inside_of (option_and_then (cell_at (split_design d s)) (option_map (own s path) (cell_along d r path)))
    inside_at path None at = rw at refl
    inside_at path (Some c) at =
        let body = body_of d c (is.cells path c at) in
        let new = own_body d r s is path c at body.0 body.1 in
        ap (λ k. option_map inside_of (option_and_then (cell_at d) k)) at
        ∙ ap (option_map inside_of) body.1
        ∙ ap Some (sym (inside_turned s.copies path body.0 new.0 new.2))
        ∙ sym (ap (option_map inside_of) new.1)
        ∙ sym (ap (λ k. option_map inside_of (option_and_then (cell_at (split_design d s)) (option_map (own s path) k))) at)

    leaf_at : (path : List ℕ) (k : Option CellId) → cell_along d r path ≡ k
        → option_map (leaf_name d) (cell_along d r path) ≡ option_map (leaf_name (split_design d s)) (option_map (own s path) (cell_along d r path))
    leaf_at path None at = rw at refl
    leaf_at path (Some c) at =
        ap (option_map (leaf_name d)) at
        ∙ ap Some (leaf_kept d r s is path c at)
        ∙ sym (ap (λ k. option_map (leaf_name (split_design d s)) (option_map (own s path) k)) at)

-- ---- the notes

notes_of_new : (m : Copy) (o : Option CellBody) (b : Design)
    → (edited b (option_to_list (option_map (λ body. fresh m.id (renamed m body)) o))).notes ≡ b.notes
notes_of_new m None b = refl
notes_of_new m (Some body) b = refl

notes_of_turned : (all : List Copy) (o : Owner) (turns : Bool) (contents : Option Contents) (b : Design)
    → (edited b (cond turns (option_to_list (option_map (λ c. inner o.own (turned all o.path c)) contents)) [])).notes ≡ b.notes
notes_of_turned all o false contents b = refl
notes_of_turned all o true None b = refl
notes_of_turned all o true (Some c) b = refl

each_notes : {X : Type 0} (f : X → List Edit) → ((x : X) (b : Design) → (edited b (f x)).notes ≡ b.notes) → (xs : List X) (b : Design) → (edited b (flat_map f xs)).notes ≡ b.notes
each_notes f keeps [] b = refl
each_notes f keeps (x ∷ xs) b = ap (λ (e : Design). e.notes) (edited-append (f x) (flat_map f xs) b) ∙ each_notes f keeps xs (edited b (f x)) ∙ keeps x b

pub split_notes : (d : Design) (s : Split) → (split_design d s).notes ≡ d.notes
split_notes d s =
    ap (λ (e : Design). e.notes) (edited-append (new_cells d s.copies) (turned_cells d s.copies (owners s)) d)
    ∙ each_notes (turned_cell d s.copies) (λ o b. notes_of_turned s.copies o (is_turned s.copies o.path) (contents_at d o.cell) b) (owners s) (edited d (new_cells d s.copies))
    ∙ each_notes (new_cell d) (λ m b. notes_of_new m (cell_at d m.of) b) s.copies d

-- the two designs are alike
pub split_alike : (d : Design) (top : TopHead) (s : Split) → d.top ≡ Some top → IsSplit d top.cell s → AreAlike d (split_design d s)
split_alike d top s at is = record {
  top = (edited_is_grown (split_edits d s) d).top;
  notes = sym (split_notes d s);
  below = subst (λ (o : Option TopHead). IfSome o (λ t. AreAlikeBelow d (split_design d s) t.cell t.cell)) (sym at) (split_alike_below d top.cell s is);
}
