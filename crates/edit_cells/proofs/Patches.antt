-- Lists with an item set, as lists with an item changed; edits one after the other.
use Rattle.std.proofs.Common.{◌≡◌, ◌+◌, ◌<◌, ◌≤◌, take, length, arith, get_or, ℕ, zero, suc, List, [], ◌∷◌, ◌++◌, Option, Some, None, refl, sym, ap, ◌∙◌, slice_get}
use Rattle.std.specs.Prelude.{slice_set, option_and_then, option_map}
use Rattle.std.specs.Option.{option_map_or}
use Rattle.std.proofs.lemmas.List.{take_more}
use Rattle.netlist_schema.specs.Change.{body_with, with_inst_put, with_net_put}
use Rattle.netlist_schema.specs.Design.{Design, cell_at}
use Rattle.netlist_schema.specs.Types.{CellBody, CellId, Contents, Lib}
use Rattle.edit_rules_spec.specs.Edit.{Edit, changed_at, edited, edited_once, with_changed_cell, with_contents}
use Rattle.edit_rules_spec.specs.Seen.{contents_at}
use Rattle.edit_cells.specs.Change.{cell_edits, edit_of, inst_put, net_put}
use Rattle.edit_cells.specs.Patch.{lib_after, place_of}
use Rattle.edit_cells.specs.declared.change.CellChange.{CellChange}
use Rattle.edit_cells.specs.declared.change.CellChange.TheVariants.{Fresh, Face, Inner, Net, Inst}

pub set_changed : {X : Type 0} (f : X → X) (xs : List X) (i : ℕ) (x y : X) → slice_get xs i ≡ Some x → y ≡ f x → slice_set xs i y ≡ changed_at f i xs
set_changed f [] i x y found is = cc
set_changed f (z ∷ zs) zero x y found is = let at : z ≡ x = cc in ap (λ w. w ∷ zs) (is ∙ ap f (sym at))
set_changed f (z ∷ zs) (suc i) x y found is = ap (λ ws. z ∷ ws) (set_changed f zs i x y found is)

pub none_changed : {X : Type 0} (f : X → X) (xs : List X) (i : ℕ) → slice_get xs i ≡ None → changed_at f i xs ≡ xs
none_changed f [] i none = refl
none_changed f (z ∷ zs) zero none = cc
none_changed f (z ∷ zs) (suc i) none = ap (λ ws. z ∷ ws) (none_changed f zs i none)

-- two changes that do the same to the item that is there
pub changed_same : {X : Type 0} (f g : X → X) (i : ℕ) (xs : List X) → ((x : X) → slice_get xs i ≡ Some x → f x ≡ g x) → changed_at f i xs ≡ changed_at g i xs
changed_same f g i [] same = refl
changed_same f g zero (x ∷ xs) same = ap (λ y. y ∷ xs) (same x refl)
changed_same f g (suc i) (x ∷ xs) same = ap (λ ys. x ∷ ys) (changed_same f g i xs same)

pub cell_changed_same : (d : Design) (id : CellId) (f g : CellBody → CellBody) → ((body : CellBody) → cell_at d id ≡ Some body → f body ≡ g body) → with_changed_cell d id f ≡ with_changed_cell d id g
cell_changed_same d id f g same =
    ap (λ (libs : List Lib). record d { libs = libs })
    (changed_same (λ lib. record lib { cells = changed_at f id.slot lib.cells }) (λ lib. record lib { cells = changed_at g id.slot lib.cells }) id.lib.0 d.libs (λ lib there.
    ap (λ (cells : List CellBody). record lib { cells = cells })
    (changed_same f g id.slot lib.cells (λ body found. same body (ap (λ (o : Option Lib). slice_get (option_map_or (λ (l : Lib). l.cells) o []) id.slot) there ∙ found)))))

-- other contents that come of those that are there
pub inside_changed : (d : Design) (id : CellId) (made : Option Contents → Contents) (change : Contents → Contents) → ((contents : Contents) → made (Some contents) ≡ change contents) → with_changed_cell d id (with_contents (made (contents_at d id))) ≡ with_changed_cell d id (body_with change)
inside_changed d id made change is =
    cell_changed_same d id (with_contents (made (contents_at d id))) (body_with change) (λ body found.
    ap (λ (o : Option Contents). with_contents (made o) body) (ap (λ (o : Option CellBody). option_and_then (λ (b : CellBody). b.contents) o) found)
    ∙ here body)
  where
    each : (o : Option Contents) → option_map (λ _. made o) o ≡ option_map change o
    each None = refl
    each (Some contents) = ap Some (is contents)

    here : (body : CellBody) → with_contents (made body.contents) body ≡ body_with change body
    here body = ap (λ (o : Option Contents). record body { contents = o }) (each body.contents)

pub edited_joined : (d : Design) (edits more : List Edit) → edited d (edits ++ more) ≡ edited (edited d edits) more
edited_joined d [] more = refl
edited_joined d (edit ∷ edits) more = edited_joined (edited_once d edit) edits more

-- a change of a cell changes its library alone
pub edited_by_change : (d : Design) (change : CellChange) → edited_once d (edit_of d change) ≡ record d { libs = changed_at (lib_after change) (place_of change) d.libs }
edited_by_change d (Fresh id body) = refl
edited_by_change d (Face id properties) = refl
edited_by_change d (Inner id contents) = refl
edited_by_change d (Net id place net) = inside_changed d id (net_put place net) (with_net_put place net) (λ contents. refl)
edited_by_change d (Inst id place inst) = inside_changed d id (inst_put place inst) (with_inst_put place inst) (λ contents. refl)

-- one more change, after those so far
pub cell_edits_more : (d : Design) (changes : List CellChange) (change : CellChange) → cell_edits d (changes ++ change ∷ []) ≡ cell_edits d changes ++ edit_of (edited d (cell_edits d changes)) change ∷ []
cell_edits_more d [] change = refl
cell_edits_more d (first ∷ changes) change = ap (λ (edits : List Edit). edit_of d first ∷ edits) (cell_edits_more (edited_once d (edit_of d first)) changes change)

pub one_more_made : (d : Design) (changes : List CellChange) (change : CellChange) (before after : List Lib) → edited d (cell_edits d changes) ≡ record d { libs = before } → after ≡ changed_at (lib_after change) (place_of change) before → edited d (cell_edits d (changes ++ change ∷ [])) ≡ record d { libs = after }
one_more_made d changes change before after made is =
    ap (edited d) (cell_edits_more d changes change)
    ∙ edited_joined d (cell_edits d changes) (edit_of (edited d (cell_edits d changes)) change ∷ [])
    ∙ ap (λ (e : Design). edited_once e (edit_of e change)) made
    ∙ edited_by_change (record d { libs = before }) change
    ∙ ap (λ (ls : List Lib). let e : Design = record d { libs = ls } in e) (sym is)

pub changed_at_end : {X : Type 0} (f : X → X) (xs : List X) (i : ℕ) → length xs ≤ i → changed_at f i xs ≡ xs
changed_at_end f [] i past = refl
changed_at_end f (z ∷ zs) zero past = absurd (omega arith)
changed_at_end f (z ∷ zs) (suc i) past = ap (λ ws. z ∷ ws) (changed_at_end f zs i (omega arith))

pub changed_at_place : {X : Type 0} (f : X → X) (xs : List X) (i : ℕ) (d y : X) → i < length xs → y ≡ f (get_or xs i d) → slice_set xs i y ≡ changed_at f i xs
changed_at_place f [] i d y within is = absurd (omega arith)
changed_at_place f (z ∷ zs) zero d y within is = ap (λ w. w ∷ zs) is
changed_at_place f (z ∷ zs) (suc i) d y within is = ap (λ ws. z ∷ ws) (changed_at_place f zs i d y (omega arith) is)

-- one more item of a list that is gone through
pub taken_one_more : {X : Type 0} (xs : List X) (i : ℕ) (x : X) → i < length xs → x ≡ get_or xs i x → take (i + 1) xs ≡ take i xs ++ x ∷ []
taken_one_more xs i x within is = take_more xs i x within ∙ ap (λ y. take i xs ++ y ∷ []) (sym is)
