-- The change as edits: those of the split, whatever the design in which each is made.
use Rattle.std.proofs.Common.{◌≡◌, ℕ, Bool, true, false, cond, List, [], ◌∷◌, ◌++◌, map, Option, Some, None, refl, sym, ap, ◌∙◌, append-nil}
use Rattle.std.specs.List.{AllByRecursion, flat_map}
use Rattle.std.specs.Option.{option_map, option_to_list}
use Rattle.std.proofs.lemmas.List.{map-append}
use Rattle.std.proofs.lemmas.List.Concat.{flat_map-append}
use Rattle.netlist_schema.specs.Design.{Design, cell_at}
use Rattle.netlist_schema.specs.Types.{CellBody, CellId, Contents}
use Rattle.netlist_schema.proofs.Lists.{all_append}
use Rattle.edit_rules_spec.specs.Edit.{edited_once, fresh, inner}
use Rattle.edit_rules_spec.specs.Seen.{contents_at}
use Rattle.uniquify_spec.specs.Copies.{Copy}
use Rattle.uniquify_spec.specs.Split.{Owner, copy_owner, is_turned, kept_owner, new_cell, owners, renamed, split_edits, turned, turned_cell}
use Rattle.edit_cells.specs.Change.{cell_edits, edit_of}
use Rattle.edit_cells.specs.declared.change.CellChange.{CellChange}
use Rattle.edit_cells.specs.declared.change.CellChange.TheVariants.{Fresh}
use Rattle.uniquify_copies.specs.Known.{copy_at}
use Rattle.uniquify_copies.specs.declared.namer.Twin.{Twin}
use Rattle.uniquify_copies.proofs.SeatLists.{all_fresh}
use Rattle.uniquify_copies.specs.declared.spot.Spot.{Spot}
use Rattle.uniquify_copies.specs.Changes.{changes_of, copied_inner, copied_to, fresh_for, fresh_of, inner_to, inners, kept_inner, kept_to, turned_at}
use Rattle.uniquify_copies.specs.Seats.{Seat, copies_at, copies_of, kept_at, seats, split_of, twin_of}

-- a change that is the same edit of each design
abbrev pub IsFixed : CellChange → Type 0
IsFixed change = (b e : Design) → edit_of b change ≡ edit_of e change

pub fixed_edits : (d : Design) (changes : List CellChange) (b : Design) → AllByRecursion IsFixed changes → cell_edits b changes ≡ map (edit_of d) changes
fixed_edits d [] b all = refl
fixed_edits d (change ∷ changes) b all = λ i. all.0 b d i ∷ fixed_edits d changes (edited_once b (edit_of b change)) all.1 i

each_flat : {A B : Type 0} (P : B → Type 0) (f : A → List B) → ((x : A) → AllByRecursion P (f x)) → (xs : List A) → AllByRecursion P (flat_map f xs)
each_flat P f all [] = tt
each_flat P f all (x ∷ xs) = all_append P (f x) (flat_map f xs) (all x) (each_flat P f all xs)

fresh_fixed : (copy : Copy) (o : Option CellBody) → AllByRecursion IsFixed (option_to_list (option_map (λ body. Fresh copy.id (renamed copy body)) o))
fresh_fixed copy None = tt
fresh_fixed copy (Some body) = ((λ b e. refl), tt)

inner_fixed : (id : CellId) (o : Option Contents) → AllByRecursion IsFixed (inner_to id o)
inner_fixed id None = tt
inner_fixed id (Some contents) = ((λ b e. refl), tt)

copied_fixed : (o : Option CellId) (contents : Option Contents) → AllByRecursion IsFixed (copied_to o contents)
copied_fixed None contents = tt
copied_fixed (Some id) contents = inner_fixed id contents

kept_fixed : (o : Option CellId) (cell : CellId) (contents : Option Contents) → AllByRecursion IsFixed (kept_to o cell contents)
kept_fixed None cell contents = inner_fixed cell contents
kept_fixed (Some id) cell contents = tt

pub changes_fixed : (d : Design) (ss : List Seat) → AllByRecursion IsFixed (changes_of d ss)
changes_fixed d ss =
    let f = turned_at d (copies_of ss) in
    all_append IsFixed (flat_map (fresh_of d) (copies_of ss)) (inners f ss)
    (each_flat IsFixed (fresh_of d) (λ copy. fresh_fixed copy (cell_at d copy.of)) (copies_of ss))
    (all_append IsFixed (flat_map (copied_inner f) ss) (flat_map (kept_inner f) ss)
    (each_flat IsFixed (copied_inner f) (λ seat. copied_fixed (twin_of seat) (f seat)) ss)
    (each_flat IsFixed (kept_inner f) (λ seat. kept_fixed (twin_of seat) seat.cell (f seat)) ss))

-- ---- part by part

map_flat : {A B C : Type 0} (g : B → C) (f : A → List B) (h : A → List C) → ((x : A) → map g (f x) ≡ h x) → (xs : List A) → map g (flat_map f xs) ≡ flat_map h xs
map_flat g f h same [] = refl
map_flat g f h same (x ∷ xs) = map-append g (f x) (flat_map f xs) ∙ (λ i. same x i ++ map_flat g f h same xs i)

fresh_edit : (d : Design) (copy : Copy) (o : Option CellBody) → map (edit_of d) (option_to_list (option_map (λ body. Fresh copy.id (renamed copy body)) o)) ≡ option_to_list (option_map (λ body. fresh copy.id (renamed copy body)) o)
fresh_edit d copy None = refl
fresh_edit d copy (Some body) = refl

inner_edit : (d : Design) (id : CellId) (g : Contents → Contents) (b : Bool) (o : Option Contents)
    → map (edit_of d) (inner_to id (cond b (option_map g o) None)) ≡ cond b (option_to_list (option_map (λ contents. inner id (g contents)) o)) []
inner_edit d id g true None = refl
inner_edit d id g true (Some contents) = refl
inner_edit d id g false o = refl

module _ (d : Design) (all : List Copy) where
  abbrev f : Seat → Option Contents
  f = turned_at d all

  copied_one : (path : List ℕ) (cell : CellId) (twin : Option Twin) →
      (let seat : Seat = record { path = path; cell = cell; twin = twin } in map (edit_of d) (copied_inner f seat) ≡ flat_map (turned_cell d all) (map copy_owner (copies_at seat)))
  copied_one path cell None = refl
  copied_one path cell (Some twin) =
      inner_edit d twin.id (turned all path) (is_turned all path) (contents_at d cell)
      ∙ sym (append-nil (turned_cell d all (copy_owner (copy_at path cell twin))))

  kept_one : (path : List ℕ) (cell : CellId) (twin : Option Twin) →
      (let seat : Seat = record { path = path; cell = cell; twin = twin } in map (edit_of d) (kept_inner f seat) ≡ flat_map (turned_cell d all) (map kept_owner (kept_at seat)))
  kept_one path cell (Some twin) = refl
  kept_one path cell None =
      inner_edit d cell (turned all path) (is_turned all path) (contents_at d cell)
      ∙ sym (append-nil (turned_cell d all (kept_owner (record { path = path; cell = cell }))))

  flat_twice : {A B : Type 0} (g : A → List B) (w : B → Owner) (xs : List A) → flat_map (λ x. flat_map (turned_cell d all) (map w (g x))) xs ≡ flat_map (turned_cell d all) (map w (flat_map g xs))
  flat_twice g w [] = refl
  flat_twice g w (x ∷ xs) =
      ap (λ ys. flat_map (turned_cell d all) (map w (g x)) ++ ys) (flat_twice g w xs)
      ∙ sym (flat_map-append (turned_cell d all) (map w (g x)) (map w (flat_map g xs)))
      ∙ ap (flat_map (turned_cell d all)) (sym (map-append w (g x) (flat_map g xs)))

  pub inner_edits : (ss : List Seat) → map (edit_of d) (inners f ss) ≡ flat_map (turned_cell d all) (owners (split_of ss))
  inner_edits ss =
      map-append (edit_of d) (flat_map (copied_inner f) ss) (flat_map (kept_inner f) ss)
      ∙ (λ i. (map_flat (edit_of d) (copied_inner f) (λ seat. flat_map (turned_cell d all) (map copy_owner (copies_at seat))) (λ seat. copied_one seat.path seat.cell seat.twin) ss ∙ flat_twice copies_at copy_owner ss) i
      ++ (map_flat (edit_of d) (kept_inner f) (λ seat. flat_map (turned_cell d all) (map kept_owner (kept_at seat))) (λ seat. kept_one seat.path seat.cell seat.twin) ss ∙ flat_twice kept_at kept_owner ss) i)
      ∙ sym (flat_map-append (turned_cell d all) (map copy_owner (copies_of ss)) (map kept_owner (flat_map kept_at ss)))

pub change_edits : (d : Design) (ss : List Seat) → cell_edits d (changes_of d ss) ≡ split_edits d (split_of ss)
change_edits d ss =
    fixed_edits d (changes_of d ss) d (changes_fixed d ss)
    ∙ map-append (edit_of d) (flat_map (fresh_of d) (copies_of ss)) (inners (turned_at d (copies_of ss)) ss)
    ∙ (λ i. map_flat (edit_of d) (fresh_of d) (new_cell d) (λ copy. fresh_edit d copy (cell_at d copy.of)) (copies_of ss) i ++ inner_edits d (copies_of ss) ss i)

-- the change that is made, part by part
pub change_cells : (d e : Design) (top : CellId) (spots : List Spot) (made cells : List CellChange) (contents : List (Option Contents)) → made ≡ flat_map (fresh_for d) spots → e ≡ d
    → contents ≡ map (turned_at e (copies_of (seats top spots))) (seats top spots) → ((f : Seat → Option Contents) → contents ≡ map f (seats top spots) → cells ≡ made ++ inners f (seats top spots))
    → cells ≡ changes_of d (seats top spots)
change_cells d e top spots made cells contents made_is same contents_are all =
    all (turned_at e (copies_of (seats top spots))) contents_are
    ∙ (λ i. (made_is ∙ all_fresh d ([] ∷ []) spots) i ++ inners (turned_at (same i) (copies_of (seats top spots))) (seats top spots))

pub change_is : (d : Design) (ss : List Seat) (cells : List CellChange) → cells ≡ changes_of d ss → cell_edits d cells ++ [] ≡ split_edits d (split_of ss)
change_is d ss cells is = append-nil (cell_edits d cells) ∙ ap (cell_edits d) is ∙ change_edits d ss
