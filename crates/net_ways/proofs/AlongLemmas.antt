-- The cells on a path, step by step.
use Rattle.std.proofs.Common.{◌≡◌, ◌<◌, ◌≤◌, ◌+◌, ℕ, List, [], ◌∷◌, ◌++◌, length, take, drop, get_or, refl, sym, ap, ◌∙◌, inl, inr, Some, None, Option, slice_get, arith}
use Rattle.std.proofs.lemmas.Bool.{cases_eq}
use Rattle.std.proofs.lemmas.List.{drop_more, length_push, take-append-drop, take-append-le, take_all}
use Rattle.std.proofs.lemmas.Option.{none-some}
use Rattle.std.specs.Prelude.{option_and_then}
use Rattle.netlist_schema.specs.Design.{Design}
use Rattle.netlist_schema.specs.Hierarchy.{insts_at}
use Rattle.netlist_schema.specs.Types.{CellId, Inst}
use Rattle.flat_spec.specs.Paths.{Reaches, cell_along}
use Rattle.flat_spec.proofs.PathLemmas.{Reaches-append, Reaches-cons, Reaches-front, cell_along-below}
use Rattle.net_ways.specs.Climb.{AreCellsOn}
use Rattle.net_ways.proofs.PlaceLemmas.{get_behind, get_still}

-- of the empty path it is the root's
pub cell_at_root : (d : Design) (root : CellId) → AreCellsOn d root [] (root ∷ [])
cell_at_root d root = record {
  long = refl;
  each = λ k within.
      let none : k ≡ 0 = omega (arith, within) in
      (root, ap (slice_get (root ∷ [])) none, ap (λ n. cell_along d root (take n [])) none);
}

-- what is known of the cells on a front of the path: those, and the one to which it leads
pub record IsAlong (d : Design) (root : CellId) (path : List ℕ) (cells : List CellId) (cell : CellId) : Type 0 where
  pub on_it : AreCellsOn d root path cells
  pub at : Reaches d root path cell

pub one_step_more : (d : Design) (root : CellId) (path : List ℕ) (step : ℕ) (cells : List CellId) (cell : CellId) (inst : Inst) → slice_get (insts_at d cell) step ≡ Some inst
    → IsAlong d root path cells cell → IsAlong d root (path ++ step ∷ []) (cells ++ inst.of ∷ []) inst.of
one_step_more d root path step cells cell inst is h = record {
  on_it = record {
    long = length_push cells inst.of ∙ ap (λ n. n + 1) h.on_it.long ∙ ap (λ n. n + 1) (sym (length_push path step));
    each = λ k within. elim (cases_eq k (length path + 1)) [
      | inl last ↦
          let here : k ≡ length cells = last ∙ sym h.on_it.long in
          let whole : take k (path ++ step ∷ []) ≡ path ++ step ∷ [] = take_all k (path ++ step ∷ []) (omega (arith, last, length_push path step)) in
          (inst.of, ap (slice_get (cells ++ inst.of ∷ [])) here ∙ get_behind cells inst.of, ap (cell_along d root) whole ∙ there)
      | inr early ↦
          let less : k ≤ length path = omega (arith, early, within, length_push path step) in
          let known = h.on_it.each k less in
          (known.0, get_still cells inst.of known.0 k known.1, ap (cell_along d root) (take-append-le k path (step ∷ []) less) ∙ known.2)
    ];
  };
  at = there;
}
  where
    there : Reaches d root (path ++ step ∷ []) inst.of
    there = Reaches-append d root cell inst.of path (step ∷ []) h.at (Reaches-cons d cell step inst [] inst.of is refl)

-- where a step leads nowhere the path does
pub no_step_more : (d : Design) (root : CellId) (path rest : List ℕ) (step : ℕ) (cell : CellId) → Reaches d root path cell → slice_get (insts_at d cell) step ≡ None
    → cell_along d root (path ++ step ∷ rest) ≡ None
no_step_more d root path rest step cell at none =
    cell_along-below d root cell path (step ∷ rest) at ∙ ap (option_and_then (λ (inst : Inst). cell_along d inst.of rest)) none

-- so where the step at a place of the path does
pub leads_nowhere : (d : Design) (root : CellId) (path : List ℕ) (i : ℕ) (cell : CellId) → i < length path → Reaches d root (take i path) cell
    → slice_get (insts_at d cell) (get_or path i 0) ≡ None → cell_along d root path ≡ None
leads_nowhere d root path i cell less at none =
    let whole : take i path ++ (get_or path i 0 ∷ drop (i + 1) path) ≡ path = ap (λ v. take i path ++ v) (sym (drop_more path i 0 less)) ∙ take-append-drop i path in
    sym (ap (cell_along d root) whole) ∙ no_step_more d root (take i path) (drop (i + 1) path) (get_or path i 0) cell at none

-- and where its front does
pub nowhere_above : (d : Design) (root : CellId) (above : List ℕ) (step : ℕ) → cell_along d root above ≡ None → cell_along d root (above ++ step ∷ []) ≡ None
nowhere_above d root above step none = go (cell_along d root (above ++ step ∷ [])) refl
  where
    go : (o : Option CellId) → cell_along d root (above ++ step ∷ []) ≡ o → o ≡ None
    go None is = refl
    go (Some c) is = let front = Reaches-front d root c above (step ∷ []) is in absurd (none-some front.0 (sym none ∙ front.1))
