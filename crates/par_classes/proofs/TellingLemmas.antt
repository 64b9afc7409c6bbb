-- Cells of which is told one after another.
use Rattle.std.proofs.Common.{◌≡◌, ◌<◌, ◌≤◌, ◌+◌, ℕ, List, [], ◌∷◌, ◌++◌, length, get_or, take, sym, ap, subst, ◌∙◌, inl, inr, arith, Some, true}
use Rattle.std.specs.Prelude.{option_and_then}
use Rattle.std.specs.List.{All, Contains}
use Rattle.std.proofs.lemmas.List.{take_more, take_all}
use Rattle.std.proofs.lemmas.List.Elements.{All-contains, Contains-push, Contains-push_cases, Contains-append_left}
use Rattle.netlist_schema.specs.Design.{Design}
use Rattle.netlist_schema.specs.Hierarchy.{IsCell, insts_at}
use Rattle.netlist_schema.specs.Types.{CellId, Inst}
use Rattle.netlist_schema.proofs.WithCell.{cases_cell}
use Rattle.netlist_order_spec.specs.After.{AllAfter}
use Rattle.flat_cells.specs.Below.{ComesBehind}
use Rattle.flat_cells.specs.Marks.{AreBlank, IsSet, is_marked}
use Rattle.flat_cells.specs.declared.marks.CellMarks.{CellMarks}
use Rattle.net_classes.specs.Facts.{CellFacts, Facts, entry, facts_at, facts_of}
use Rattle.net_classes.specs.Known.{AreKnown, AreSetAt, AreTold, HasChildrenIn}
use Rattle.par_classes.specs.Telling.{IsTelling, IsTold}
use Rattle.par_classes.specs.declared.told.ToldCell.{ToldCell}
use Rattle.par_classes.proofs.CellLemmas.{blank_marks, comes_behind}

-- one cell more
known_push : (d : Design) (done : List CellId) (cell : CellId) (f : CellFacts) (facts new : Facts) → IsCell d cell → AreKnown d done facts → AreTold d cell f
    → AreSetAt facts cell f new → AreKnown d (done ++ cell ∷ []) new
known_push d done cell f facts new is_cell known told set_ = record {
  room = λ c there. set_.room c (known.room c there);
  told = λ c has. elim (cases_cell c cell) [
    | inl same ↦ subst (λ v. (g : CellFacts) × (facts_at new v ≡ Some g) × AreTold d v g) (sym same) (f, set_.here (known.room cell is_cell), told)
    | inr other ↦ elim (Contains-push_cases done cell c has) [
      | inl early ↦ let t = known.told c early in (t.0, set_.others c other ∙ t.1, t.2)
      | inr here ↦ absurd (other (sym here))
    ]
  ];
  others = λ c bit none.
      let same = set_.others c (λ e. none (subst (λ v. Contains (done ++ cell ∷ []) v) (sym e) (Contains-push done cell))) in
      ap (option_and_then (λ (g : CellFacts). entry g.least bit)) same ∙ known.others c bit (λ has. none (Contains-append_left done (cell ∷ []) c has));
}

within_push : (below done : List CellId) (cell : CellId) → ((c : CellId) → Contains done c → Contains below c) → Contains below cell
    → (c : CellId) → Contains (done ++ cell ∷ []) c → Contains below c
within_push below done cell within among c has = elim (Contains-push_cases done cell c has) [
  | inl early ↦ within c early
  | inr here ↦ subst (λ v. Contains below v) here among
]

-- at first of none
pub telling_none : (d : Design) (below : List CellId) (marks : CellMarks) (facts : Facts) → AreKnown d [] facts → AreBlank d marks → IsTelling d below marks facts
telling_none d below marks facts known blank = record {
  done = [];
  known = known;
  marked = λ c is. absurd (blank_marks d marks blank c is);
  within = λ c has. absurd (omega (arith, has.1));
}

pub telling_more : (d : Design) (below : List CellId) (marks new_marks : CellMarks) (facts new : Facts) (t : ToldCell) → IsTelling d below marks facts → IsTold d below t
    → AreSetAt facts t.cell (facts_of t.nets) new → IsSet marks t.cell new_marks → IsTelling d below new_marks new
telling_more d below marks new_marks facts new t telling told set_ mark = record {
  done = telling.done ++ t.cell ∷ [];
  known = known_push d telling.done t.cell (facts_of t.nets) facts new told.there telling.known told.told set_;
  marked = λ c is. elim (mark.only c is) [
    | inl old ↦ Contains-append_left telling.done (t.cell ∷ []) c (telling.marked c old)
    | inr here ↦ subst (λ v. Contains (telling.done ++ t.cell ∷ []) v) (sym here) (Contains-push telling.done t.cell)
  ];
  within = within_push below telling.done t.cell telling.within told.among;
}

-- where the cells of its instances are marked, they are told
pub children_told : (d : Design) (below : List CellId) (marks : CellMarks) (facts : Facts) (cell : CellId) (telling : IsTelling d below marks facts)
    → All (λ inst. is_marked marks inst.of ≡ true) (insts_at d cell) → HasChildrenIn d cell telling.done
children_told d below marks facts cell telling ready = λ inst has. telling.marked inst.of (All-contains (λ (i : Inst). is_marked marks i.of ≡ true) (insts_at d cell) inst ready has)

-- the first so many cells are told, marked or not
pub record IsTellingUpto (d : Design) (below : List CellId) (i : ℕ) (marks : CellMarks) (facts : Facts) : Type 0 where
  pub telling : IsTelling d below marks facts
  pub upto : (c : CellId) → Contains (take i below) c → Contains telling.done c

pub upto_none : (d : Design) (below : List CellId) (marks : CellMarks) (facts : Facts) → IsTelling d below marks facts → IsTellingUpto d below 0 marks facts
upto_none d below marks facts telling = record { telling = telling; upto = λ c has. absurd (omega (arith, has.1)) }

module _ (d : Design) (below : List CellId) (i : ℕ) (cell : CellId) (marks : CellMarks) (facts : Facts) (within : i < length below) (is : cell ≡ get_or below i cell)
    (old : IsTellingUpto d below i marks facts) where
  more : take (i + 1) below ≡ take i below ++ cell ∷ []
  more = take_more below i cell within ∙ ap (λ v. take i below ++ v ∷ []) (sym is)

  upto_push : (done : List CellId) → ((c : CellId) → Contains (take i below) c → Contains done c) → Contains done cell
      → (c : CellId) → Contains (take (i + 1) below) c → Contains done c
  upto_push done upto here c has = elim (Contains-push_cases (take i below) cell c (subst (λ v. Contains v c) more has)) [
    | inl early ↦ upto c early
    | inr same ↦ subst (λ v. Contains done v) same here
  ]

  -- the cell is marked
  pub upto_marked : is_marked marks cell ≡ true → IsTellingUpto d below (i + 1) marks facts
  upto_marked marked = record { telling = old.telling; upto = upto_push old.telling.done old.upto (old.telling.marked cell marked) }

  -- the cells of its instances are told
  pub upto_children : AllAfter (ComesBehind d) [] below → HasChildrenIn d cell old.telling.done
  upto_children behind = λ inst has. old.upto inst.of ((comes_behind d below i cell behind within is).children inst has)

  -- the cell is told
  pub upto_told : (f : CellFacts) (new : Facts) → IsCell d cell → AreTold d cell f → AreSetAt facts cell f new → IsTellingUpto d below (i + 1) marks new
  upto_told f new is_cell told set_ =
      let done = old.telling.done ++ cell ∷ [] in
      record {
        telling = record {
          done = done;
          known = known_push d old.telling.done cell f facts new is_cell old.telling.known told set_;
          marked = λ c marked. Contains-append_left old.telling.done (cell ∷ []) c (old.telling.marked c marked);
          within = within_push below old.telling.done cell old.telling.within (i, within, sym is);
        };
        upto = upto_push done (λ c early. Contains-append_left old.telling.done (cell ∷ []) c (old.upto c early)) (Contains-push old.telling.done cell);
      }

pub upto_all : (d : Design) (below : List CellId) (i : ℕ) (marks : CellMarks) (facts : Facts) → length below ≤ i → IsTellingUpto d below i marks facts → AreKnown d below facts
upto_all d below i marks facts past old = record {
  room = old.telling.known.room;
  told = λ c has. old.telling.known.told c (old.upto c (subst (λ v. Contains v c) (sym (take_all i below past)) has));
  others = λ c bit none. old.telling.known.others c bit (λ has. none (old.telling.within c has));
}
