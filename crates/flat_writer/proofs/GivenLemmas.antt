-- Lines of items, one after another.
use Rattle.std.proofs.Common.{◌≡◌, ℕ, suc, zero, ◌-◌, ◌<◌, List, [], ◌∷◌, ◌++◌, length, Option, Some, None, Bool, true, false, drop, refl, sym, ap, subst, ◌∙◌, arith, append_assoc}
use Rattle.std.specs.Prelude.{codes, nat_lt, option_map, if◌then◌else◌, take}
use Rattle.std.proofs.lemmas.Bool.Decides.{nat_tests}
use Rattle.netlist_schema.specs.Design.{Design}
use Rattle.flat_spec.specs.Types.{Item}
use Rattle.netdb_outside.specs.Buffered.{Buffered, Writes}
use Rattle.netdb_outside.proofs.BufferedLemmas.{writes_nothing, writes_then, writes_same}
use Rattle.flat_lines_spec.specs.Lines.{item_line, item_lines, last_line}
use Rattle.flat_writer.specs.Given.{GivesItem, GivesLine, text_of_items}

lt-suc : (n m : ℕ) → nat_lt (suc n) (suc m) ≡ nat_lt n m
lt-suc n m = grind (arith, nat_tests)

-- room for the first item: its line, and the text of the others
pub one_line : (d : Design) (room : Option ℕ) (item : Item) (items : List Item) → (room ≡ Some 0 → ⊥)
    → text_of_items d room (item ∷ items) ≡ item_line d item ++ text_of_items d (option_map (λ n. n - 1) room) items
one_line d None item items h = append_assoc (item_line d item) (item_lines d items) (codes "end" ++ 10 ∷ [])
one_line d (Some zero) item items h = absurd (h refl)
one_line d (Some (suc n)) item items h =
    let less : suc n - 1 ≡ n = omega arith in
    append_assoc (item_line d item) (item_lines d (take n items)) (last_line (Some (suc n)) (item ∷ items))
    ∙ ap (λ b. item_line d item ++ (item_lines d (take n items) ++ ((if b then codes "more" else codes "end") ++ 10 ∷ []))) (lt-suc n (length items))
    ∙ ap (λ k. item_line d item ++ text_of_items d (Some k) items) (sym less)

-- what was given of the first item, which is passed over then
pub given_ahead : (Gives : List ℕ → Type 0) (d : Design) (room : Option ℕ) (old new : List Item) (item : Item) (has_room : Bool)
    → old ≡ item ∷ drop 1 old → new ≡ drop 1 old → GivesItem Gives d room item has_room → GivesLine Gives d room old new has_room
given_ahead Gives d room old new item true is passed given = (item, is ∙ ap (λ v. item ∷ v) (sym passed), given.0, given.1)
given_ahead Gives d room old new item false is passed given = subst (λ v. Gives (text_of_items d room v)) (sym is) (given (drop 1 old))

-- the lines so far, of all that are wanted
pub record AreGiven (Gives : List ℕ → Type 0) (d : Design) (limit room : Option ℕ) (all left : List Item) : Type 0 where
  pub lines : List ℕ
  pub same : text_of_items d limit all ≡ lines ++ text_of_items d room left
  pub gives : Gives lines

-- none so far
pub none_given : {K : Type 0} {written : K → Option (List ℕ)} {faults : K → ℕ} (k : K) (page : Buffered) (d : Design) (limit : Option ℕ) (all : List Item)
    → AreGiven (Writes written faults k page k page) d limit limit all all
none_given k page d limit all = record { lines = []; same = refl; gives = writes_nothing k page }

-- one line more
pub one_given : {K : Type 0} {written : K → Option (List ℕ)} {faults : K → ℕ} {i j k : K} {before page after : Buffered}
    (d : Design) (limit room : Option ℕ) (all old new : List Item)
    → AreGiven (Writes written faults i before j page) d limit room all old → GivesLine (Writes written faults j page k after) d room old new true
    → AreGiven (Writes written faults i before k after) d limit (option_map (λ n. n - 1) room) all new
one_given d limit room all old new given line = record {
  lines = given.lines ++ item_line d line.0;
  same =
      given.same
      ∙ (ap (λ v. given.lines ++ v) (ap (text_of_items d room) line.1 ∙ one_line d room line.0 new line.2)
      ∙ sym (append_assoc given.lines (item_line d line.0) (text_of_items d (option_map (λ n. n - 1) room) new)));
  gives = writes_then given.gives line.3;
}

-- all lines
pub all_given : {K : Type 0} {written : K → Option (List ℕ)} {faults : K → ℕ} {i j k : K} {before page after : Buffered}
    (d : Design) (limit room : Option ℕ) (all old new : List Item)
    → AreGiven (Writes written faults i before j page) d limit room all old → GivesLine (Writes written faults j page k after) d room old new false
    → Writes written faults i before k after (text_of_items d limit all)
all_given d limit room all old new given rest = writes_same (sym given.same) (writes_then given.gives rest)

-- an item less is left
pub fewer_left : {K : Type 0} {written : K → Option (List ℕ)} {faults : K → ℕ} {j k : K} {page after : Buffered}
    (d : Design) (room : Option ℕ) (old new : List Item) → GivesLine (Writes written faults j page k after) d room old new true → length new < length old
fewer_left d room old new line = let e = ap length line.1 in omega arith
