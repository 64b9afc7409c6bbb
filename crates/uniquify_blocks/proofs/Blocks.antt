-- A block and a leaf, and items of a list.
use Rattle.std.proofs.Common.{◌≡◌, ◌<◌, ℕ, zero, suc, Bool, true, false, List, [], ◌∷◌, length, get_or, Some, refl, sym, ◌∙◌, inl, inr, arith}
use Rattle.std.specs.Prelude.{slice_get}
use Rattle.std.proofs.lemmas.Bool.{true≢false}
use Rattle.netlist_schema.specs.Types.{CellId}
use Rattle.netlist_schema.specs.declared.ids.Object.TheVariants.{Directory}
use Rattle.uniquify_spec.specs.Blocks.{is_block}
use Rattle.uniquify_spec.specs.Parts.{IsPartOf}
use Rattle.edit_cells.specs.State.{State, HasRead}
use Rattle.edit_cells.proofs.Growing.{grows_by_same}
use Rattle.eco_reads.proofs.Reading.{read_then}
use Rattle.uniquify_blocks.specs.ForBlocks.{IsForBlock}

pub for_block : (s t u : State) (id : CellId) (block : Bool) → HasRead s t (IsPartOf id) → block ≡ is_block s.design id → block ≡ true → HasRead t u (λ o. o ≡ Directory id.lib) → HasRead s u (IsForBlock s.design id)
for_block s t u id block first is yes_it_is second =
    read_then s t u (IsPartOf id) (λ o. o ≡ Directory id.lib) (IsForBlock s.design id) first second (λ o. (
      (λ any. elim any [ inl part ↦ inl part | inr dir ↦ inr (sym is ∙ yes_it_is, dir) ]),
      (λ any. elim any [ inl part ↦ inl part | inr there ↦ inr there.1 ]),
    ))

pub for_leaf : (s t : State) (id : CellId) (block : Bool) → HasRead s t (IsPartOf id) → block ≡ is_block s.design id → block ≡ false → HasRead s t (IsForBlock s.design id)
for_leaf s t id block first is no_it_is_not = record {
  base = first.base;
  design = first.design;
  written = first.written;
  reads = grows_by_same s.reads t.reads (IsPartOf id) (IsForBlock s.design id) first.reads (λ o. (
    (λ part. inl part),
    (λ any. elim any [ inl part ↦ part | inr there ↦ absurd (true≢false (sym there.0 ∙ (sym is ∙ no_it_is_not))) ]),
  ));
}

pub got : {X : Type 0} (xs : List X) (i : ℕ) (d : X) → i < length xs → slice_get xs i ≡ Some (get_or xs i d)
got [] i d less = absurd (omega arith)
got (x ∷ xs) zero d less = refl
got (x ∷ xs) (suc i) d less = got xs i d (omega (arith, less))

pub is_got : {X : Type 0} (xs : List X) (i : ℕ) (x : X) → slice_get xs i ≡ Some x → x ≡ get_or xs i x
is_got [] i x at = cc
is_got (y ∷ xs) zero x at = let same : y ≡ x = cc in sym same
is_got (y ∷ xs) (suc i) x at = is_got xs i x at
