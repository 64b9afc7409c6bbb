-- Marks of no cell, a cell behind others, and what is known of all cells at and below a top.
use Rattle.std.proofs.Common.{◌≡◌, ◌<◌, ◌⊎◌, ℕ, zero, suc, List, [], ◌∷◌, ◌++◌, length, get_or, take, refl, sym, ap, subst, ◌∙◌, inl, inr, append-nil, append_assoc, Some, None, Option, Bool, true, false, slice_get}
use Rattle.std.specs.Prelude.{IfSome, option_and_then, unwrap_or}
use Rattle.std.specs.List.{All}
use Rattle.std.proofs.lemmas.Bool.{false≢true}
use Rattle.std.proofs.lemmas.Option.{same_Some, slice_get_within, slice_get-get_or}
use Rattle.netlist_schema.specs.Design.{Design, cells_in}
use Rattle.netlist_schema.specs.Types.{CellId}
use Rattle.netlist_schema.proofs.WithCell.{cases_cell}
use Rattle.netlist_order_spec.specs.After.{AllAfter}
use Rattle.flat_spec.proofs.ListLemmas.{Member, Contains-member, Member-contains}
use Rattle.flat_cells.specs.Below.{AreCellsBelow, ComesBehind, IsAtOrBelow}
use Rattle.flat_cells.specs.Marks.{AreBlank, is_marked}
use Rattle.flat_cells.specs.declared.marks.CellMarks.{CellMarks}
use Rattle.net_classes.specs.Facts.{CellFacts, Facts, class_at, entry}
use Rattle.net_classes.specs.Known.{AreKnown, IsClassIn}
use Rattle.net_classes.specs.PortClasses.{AreClasses, IsClassAnswer}

-- where no mark of a row is set, that at a place is not
mark_of : (row : List Bool) (slot : ℕ) (mark : Option Bool) → slice_get row slot ≡ mark → All (λ m. m ≡ false) row → unwrap_or mark false ≡ true → ⊥
mark_of row slot None is none set_ = false≢true set_
mark_of row slot (Some b) is none set_ =
    let within = slice_get_within row slot b is in
    let same : b ≡ false = same_Some b (get_or row slot b) (sym is ∙ slice_get-get_or row slot b within) ∙ none slot b within in
    false≢true (sym same ∙ set_)

mark_in : {R : Type 0} (found : Option R) (marks : R → List Bool) (count slot : ℕ) → IfSome found (λ row. (length (marks row) ≡ count) × All (λ m. m ≡ false) (marks row))
    → unwrap_or (option_and_then (λ row. slice_get (marks row) slot) found) false ≡ true → ⊥
mark_in None marks count slot none set_ = false≢true set_
mark_in (Some row) marks count slot none set_ = mark_of (marks row) slot (slice_get (marks row) slot) refl none.1 set_

pub blank_marks : (d : Design) (marks : CellMarks) → AreBlank d marks → (c : CellId) → is_marked marks c ≡ true → ⊥
blank_marks d marks blank c set_ =
    mark_in (slice_get marks.rows.items c.lib.0) (λ row. row.items) (length (cells_in d c.lib)) c.slot (blank.each c.lib.0) set_

-- what holds of an element by those before it
after_at : {A : Type 0} (P : List A → A → Type 0) (before xs : List A) (i : ℕ) (x : A) → AllAfter P before xs → slice_get xs i ≡ Some x → P (before ++ take i xs) x
after_at P before [] i x h at = absurd (cc at)
after_at P before (y ∷ xs) zero x h at =
    subst (λ v. P v x) (sym (append-nil before)) (subst (λ v. P before v) (same_Some y x at) h.0)
after_at P before (y ∷ xs) (suc i) x h at =
    subst (λ v. P v x) (append_assoc before (y ∷ []) (take i xs)) (after_at P (before ++ y ∷ []) xs i x h.1 at)

pub comes_behind : (d : Design) (below : List CellId) (i : ℕ) (cell : CellId) → AllAfter (ComesBehind d) [] below → i < length below → cell ≡ get_or below i cell
    → ComesBehind d (take i below) cell
comes_behind d below i cell behind within is =
    after_at (ComesBehind d) [] below i cell behind (slice_get-get_or below i cell within ∙ ap Some (sym is))

is_among : (cells : List CellId) (c : CellId) → Member cells c ⊎ (Member cells c → ⊥)
is_among [] c = inr (λ m. m)
is_among (x ∷ cells) c = go (cases_cell x c) (is_among cells c)
  where
    go : (x ≡ c) ⊎ (x ≡ c → ⊥) → Member cells c ⊎ (Member cells c → ⊥) → Member (x ∷ cells) c ⊎ (Member (x ∷ cells) c → ⊥)
    go (inl same) more = inl (inl same)
    go (inr other) (inl there) = inl (inr there)
    go (inr other) (inr none) = inr (λ m. elim m [ inl same ↦ other same | inr there ↦ none there ])

-- where all cells at and below the top are told, what is kept of them are its classes
pub are_classes : (d : Design) (top : CellId) (below : List CellId) (facts : Facts) → AreCellsBelow d top below → AreKnown d below facts → AreClasses d top facts
are_classes d top below facts are known = record {
  classes = λ c bit. answer c bit (is_among below c);
  cells = λ c at. let t = known.told c ((are.each c).1 at) in (t.0, t.1, t.2.facts);
}
  where
    answer : (c : CellId) (bit : ℕ) → Member below c ⊎ (Member below c → ⊥) → IsClassAnswer d top c bit (class_at facts c bit)
    answer c bit (inl m) =
        let has = Member-contains below c m in
        let t = known.told c has in
        subst (λ v. IsClassAnswer d top c bit v) (sym (ap (option_and_then (λ (f : CellFacts). entry f.least bit)) t.1)) (go (entry t.0.least bit) (t.2.classes bit) ((are.each c).0 has))
      where
        go : (o : Option ℕ) → IsClassIn d c bit o → IsAtOrBelow d top c → IsClassAnswer d top c bit o
        go None unjoined at = λ v. unjoined
        go (Some first) class at = (at, class)
    answer c bit (inr none) =
        subst (λ v. IsClassAnswer d top c bit v) (sym (known.others c bit (λ has. none (Contains-member below c has))))
        (λ at. absurd (none (Contains-member below c ((are.each c).1 at))))
