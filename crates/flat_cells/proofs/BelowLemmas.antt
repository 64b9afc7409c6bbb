-- The marked cells are those at and below the top.
use Rattle.std.proofs.Common.{◌≡◌, List, [], ◌∷◌, ◌++◌, refl, sym, ap, subst, ◌∙◌, inl, inr, append-nil, Bool, true, false}
use Rattle.std.specs.Prelude.{filter, cond}
use Rattle.std.proofs.lemmas.List.Elements.{filter-append}
use Rattle.netlist_schema.specs.Design.{Design}
use Rattle.netlist_schema.specs.Hierarchy.{HasInst, IsBelow, IsCell, placed, deeper}
use Rattle.netlist_schema.specs.Types.{CellId, Inst}
use Rattle.netlist_schema.specs.Valid.{IsValid}
use Rattle.netlist_order_spec.specs.After.{AllAfter}
use Rattle.flat_spec.proofs.ListLemmas.{Member, Contains-member, Member-contains, Member-filter, Member-from_filter}
use Rattle.flat_cells.specs.Below.{AreCells, AreCellsBelow, ComesBehind, IsAtOrBelow}
use Rattle.flat_cells.specs.Marks.{AreBlank, AreMarkedBelow, IsSet, is_marked}
use Rattle.flat_cells.specs.declared.marks.CellMarks.{CellMarks}
use Rattle.flat_cells.proofs.ListedLemmas.{inst_there}
use Rattle.flat_cells.proofs.MarkLemmas.{blank_marks, blank_room}

-- those of the cells that pass are behind the cells of their instances, where these pass too
after_filter : (d : Design) (p : CellId → Bool) (before xs : List CellId) → ((c : CellId) (inst : Inst) → Member xs c → p c ≡ true → HasInst d c inst → p inst.of ≡ true)
    → AllAfter (ComesBehind d) before xs → AllAfter (ComesBehind d) (filter p before) (filter p xs)
after_filter d p before [] closed h = tt
after_filter d p before (x ∷ xs) closed h = go (p x) refl (after_filter d p (before ++ x ∷ []) xs (λ c inst m. closed c inst (inr m)) h.1)
  where
    go : (b : Bool) → p x ≡ b → AllAfter (ComesBehind d) (filter p (before ++ x ∷ [])) (filter p xs)
        → AllAfter (ComesBehind d) (filter p before) (cond b (x ∷ filter p xs) (filter p xs))
    go true e rest = (
      record {
        new = λ has. h.0.new (Member-contains before x (Member-from_filter p before x (Contains-member (filter p before) x has)).0);
        children = λ inst has. Member-contains (filter p before) inst.of
            (Member-filter p before inst.of (Contains-member before inst.of (h.0.children inst has)) (closed x inst (inl refl) e has));
      },
      subst (λ v. AllAfter (ComesBehind d) v (filter p xs))
          (filter-append p before (x ∷ []) ∙ ap (λ b. filter p before ++ cond b (x ∷ []) []) e) rest,
    )
    go false e rest =
        subst (λ v. AllAfter (ComesBehind d) v (filter p xs))
        (filter-append p before (x ∷ []) ∙ ap (λ b. filter p before ++ cond b (x ∷ []) []) e ∙ append-nil (filter p before)) rest

module _ (d : Design) (valid : IsValid d) (top : CellId) (is_cell : IsCell d top) (cells : List CellId) (all : AreCells d cells) (blank begun marks : CellMarks)
    (unmarked : AreBlank d blank) (set_top : IsSet blank top begun) (below : AreMarkedBelow d cells begun marks) where
  begun_top : (c : CellId) → is_marked begun c ≡ true → c ≡ top
  begun_top c h = elim (set_top.only c h) [ inl before ↦ absurd (blank_marks d blank unmarked c before) | inr same ↦ same ]

  top_marked : is_marked marks top ≡ true
  top_marked = below.kept.marks top (set_top.here (blank_room d blank unmarked top is_cell))

  below_marked : {inner outer : CellId} → IsBelow d inner outer → IsCell d outer → is_marked marks outer ≡ true → (is_marked marks inner ≡ true) × IsCell d inner
  below_marked (placed {id} inst has) is marked = (below.down id inst (all.whole id is) marked has, (inst_there d id inst valid has).0)
  below_marked (deeper {inner} {id} inst has more) is marked =
      below_marked more (inst_there d id inst valid has).0 (below.down id inst (all.whole id is) marked has)

  marked_at : (c : CellId) → IsAtOrBelow d top c → (is_marked marks c ≡ true) × IsCell d c
  marked_at c (inl same) = (ap (is_marked marks) same ∙ top_marked, subst (λ v. IsCell d v) (sym same) is_cell)
  marked_at c (inr inside) = below_marked inside is_cell top_marked

  pub are_below : AreCellsBelow d top (filter (is_marked marks) cells)
  are_below = record {
    each = λ c. (
      λ has. elim (below.only c (Member-from_filter (is_marked marks) cells c (Contains-member (filter (is_marked marks) cells) c has)).1) [
        | inl early ↦ inl (begun_top c early)
        | inr inside ↦ inr (subst (λ v. IsBelow d c v) (begun_top inside.0 inside.1) inside.2)
      ],
      λ at.
          let is = marked_at c at in
          Member-contains (filter (is_marked marks) cells) c (Member-filter (is_marked marks) cells c (Contains-member cells c (all.whole c is.1)) is.0),
    );
    behind = after_filter d (is_marked marks) [] cells (λ c inst m marked has. below.down c inst (Member-contains cells c m) marked has) all.behind;
  }
