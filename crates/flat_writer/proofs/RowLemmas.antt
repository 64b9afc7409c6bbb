-- Rows of items, one after another.
use Rattle.std.proofs.Common.{◌≡◌, ℕ, ◌<◌, List, [], ◌∷◌, ◌++◌, drop, length, Option, true, false, refl, sym, ap, ◌∙◌, arith, append_assoc}
use Rattle.netlist_schema.specs.Design.{Design}
use Rattle.flat_spec.specs.Types.{Item}
use Rattle.netdb_outside.specs.Buffered.{Buffered, Writes}
use Rattle.netdb_outside.proofs.BufferedLemmas.{writes_nothing, writes_then, writes_same}
use Rattle.flat_csv_spec.specs.PinTable.{pin_row, pin_rows}
use Rattle.flat_writer.specs.Given.{GivesRow}

-- what was given of the first item, which is passed over then
pub given_ahead : (Gives : List ℕ → Type 0) (d : Design) (old new : List Item) (item : Item)
    → old ≡ item ∷ drop 1 old → new ≡ drop 1 old → Gives (pin_row d item) → GivesRow Gives d old new true
given_ahead Gives d old new item is passed given = (item, is ∙ ap (λ v. item ∷ v) (sym passed), given)

-- the rows so far, of all that are wanted
pub record AreRowsGiven (Gives : List ℕ → Type 0) (d : Design) (all left : List Item) : Type 0 where
  pub rows : List ℕ
  pub same : pin_rows d all ≡ rows ++ pin_rows d left
  pub gives : Gives rows

-- none so far
pub none_given : {K : Type 0} {written : K → Option (List ℕ)} {faults : K → ℕ} (k : K) (page : Buffered) (d : Design) (all : List Item)
    → AreRowsGiven (Writes written faults k page k page) d all all
none_given k page d all = record { rows = []; same = refl; gives = writes_nothing k page }

-- one row more
pub one_given : {K : Type 0} {written : K → Option (List ℕ)} {faults : K → ℕ} {i j k : K} {before page after : Buffered}
    (d : Design) (all old new : List Item)
    → AreRowsGiven (Writes written faults i before j page) d all old → GivesRow (Writes written faults j page k after) d old new true
    → AreRowsGiven (Writes written faults i before k after) d all new
one_given d all old new given row = record {
  rows = given.rows ++ pin_row d row.0;
  same = given.same ∙ (ap (λ v. given.rows ++ v) (ap (pin_rows d) row.1) ∙ sym (append_assoc given.rows (pin_row d row.0) (pin_rows d new)));
  gives = writes_then given.gives row.2;
}

-- all rows
pub all_given : {K : Type 0} {written : K → Option (List ℕ)} {faults : K → ℕ} {i j k : K} {before page after : Buffered}
    (d : Design) (all old new : List Item)
    → AreRowsGiven (Writes written faults i before j page) d all old → GivesRow (Writes written faults j page k after) d old new false
    → Writes written faults i before k after (pin_rows d all)
all_given d all old new given rest = writes_same (sym given.same) (writes_then given.gives rest)

-- an item less is left
pub fewer_left : {K : Type 0} {written : K → Option (List ℕ)} {faults : K → ℕ} {j k : K} {page after : Buffered}
    (d : Design) (old new : List Item) → GivesRow (Writes written faults j page k after) d old new true → length new < length old
fewer_left d old new row = let e = ap length row.1 in omega arith
