-- Cells that are counted one after another.
use Rattle.std.proofs.Common.{◌≡◌, ◌<◌, ◌≤◌, ◌+◌, ◌-◌, ◌^◌, ℕ, zero, suc, List, [], ◌∷◌, ◌++◌, length, get_or, take, min, sym, ap, subst, ◌∙◌, inl, inr, append-nil, append_assoc, arith, Some, slice_get}
use Rattle.std.specs.Prelude.{unwrap_or}
use Rattle.std.specs.List.{All, Contains, sum_by}
use Rattle.std.proofs.lemmas.List.{get_or_default, take_more, take_all}
use Rattle.std.proofs.lemmas.List.Elements.{Contains-push_cases}
use Rattle.std.proofs.lemmas.Option.{same_Some, slice_get-get_or}
use Rattle.netlist_schema.specs.Design.{Design}
use Rattle.netlist_schema.specs.Hierarchy.{IsBelow, IsCell, insts_at, placed, deeper}
use Rattle.netlist_schema.specs.Types.{CellId, Inst, TopHead}
use Rattle.netlist_schema.specs.Valid.{IsValid}
use Rattle.netlist_order_spec.specs.After.{AllAfter}
use Rattle.flat_cells.specs.Below.{AreCellsBelow, ComesBehind}
use Rattle.flat_cells.proofs.ListedLemmas.{inst_there}
use Rattle.flat_spec.specs.Below.{items_under}
use Rattle.flat_spec.proofs.ListLemmas.{Member-contains}
use Rattle.par_parts.specs.Counts.{HasRoom, IsSet, count_at, kept_of}
use Rattle.par_parts.specs.Items.{AreCounted, AreCounts, IsCountOf}
use Rattle.par_parts.specs.Own.{own_count, top_bits}
use Rattle.par_parts.specs.declared.tables.ItemCounts.{ItemCounts}
use Rattle.par_parts.proofs.SizeLemmas.{counted_at_top, counted_below}

-- what holds of an element by those before it
after_at : {A : Type 0} (P : List A → A → Type 0) (before xs : List A) (i : ℕ) (x : A) → AllAfter P before xs → slice_get xs i ≡ Some x → P (before ++ take i xs) x
after_at P before [] i x h at = absurd (cc at)
after_at P before (y ∷ xs) zero x h at =
    subst (λ v. P v x) (sym (append-nil before)) (subst (λ v. P before v) (same_Some y x at) h.0)
after_at P before (y ∷ xs) (suc i) x h at =
    subst (λ v. P v x) (append_assoc before (y ∷ []) (take i xs)) (after_at P (before ++ y ∷ []) xs i x h.1 at)

-- what is kept of the cell of an instance, where it is counted
kept_is : (d : Design) (counts : ItemCounts) (inst : Inst) → (n : ℕ) × (count_at counts inst.of ≡ Some n) × IsCountOf d inst.of n → IsCountOf d inst.of (kept_of counts inst)
kept_is d counts inst told = subst (λ v. IsCountOf d inst.of v) (sym (ap (λ o. unwrap_or o 0) told.1)) told.2

-- one cell more
pub counted_more : (d : Design) (below : List CellId) (i : ℕ) (cell : CellId) (n : ℕ) (counts new : ItemCounts) → IsValid d → i < length below → cell ≡ get_or below i cell
    → AllAfter (ComesBehind d) [] below → IsCell d cell → AreCounted d (take i below) counts
    → n ≡ min (own_count d cell + sum_by (kept_of counts) (insts_at d cell)) (2 ^ 64 - 1) → IsSet counts cell n new
    → AreCounted d (take (i + 1) below) new
counted_more d below i cell n counts new valid within is behind is_cell counted n_is set_ =
    let more : take (i + 1) below ≡ take i below ++ cell ∷ [] = take_more below i cell within ∙ ap (λ v. take i below ++ v ∷ []) (sym is) in
    let place : ComesBehind d (take i below) cell = after_at (ComesBehind d) [] below i cell behind (slice_get-get_or below i cell within ∙ ap Some (sym is)) in
    let told : IsCountOf d cell n = λ top step path.
    n_is ∙ counted_below d top (kept_of counts) valid.no_cycle cell step path
    (λ inst at m. kept_is d counts inst (counted.told inst.of (place.children inst (Member-contains (insts_at d cell) inst m))) top step (path ++ at ∷ [])) in
    subst (λ v. AreCounted d v new) (sym more) record {
      room = λ c there. set_.room c (counted.room c there);
      told = λ c has. elim (Contains-push_cases (take i below) cell c has) [
        | inl early ↦
            let t = counted.told c early in
            let same = set_.others c (λ e. place.new (subst (λ v. Contains (take i below) v) e early)) in
            (t.0, same ∙ t.1, t.2)
        | inr here ↦ subst (λ v. (m : ℕ) × (count_at new v ≡ Some m) × IsCountOf d v m) here (n, set_.here (counted.room cell is_cell), told)
      ];
    }

pub counted_all : (d : Design) (below : List CellId) (i : ℕ) (counts : ItemCounts) → length below ≤ i → AreCounted d (take i below) counts → AreCounted d below counts
counted_all d below i counts past counted = subst (λ v. AreCounted d v counts) (take_all i below past) counted

pub counted_none : (d : Design) (counts : ItemCounts) → HasRoom d counts → AreCounted d [] counts
counted_none d counts room = record { room = room; told = λ c has. absurd (omega (arith, has.1)) }

below_is_cell : (d : Design) → IsValid d → {inner outer : CellId} → IsBelow d inner outer → IsCell d inner
below_is_cell d valid (placed {id} inst has) = (inst_there d id inst valid has).0
below_is_cell d valid (deeper {inner} {id} inst has below) = below_is_cell d valid below

pub below_there : (d : Design) (top : CellId) (below : List CellId) → IsValid d → IsCell d top → AreCellsBelow d top below → All (IsCell d) below
below_there d top below valid is are = λ k default within.
    let c : CellId = get_or below k default in
    elim ((are.each c).0 (k, within, get_or_default below k c default within)) [
      | inl same ↦ subst (λ v. IsCell d v) (sym same) is
      | inr inside ↦ below_is_cell d valid inside
    ]

pub are_counts : (d : Design) (top : CellId) (below : List CellId) (counts : ItemCounts) → AreCellsBelow d top below → AreCounted d below counts → AreCounts d top counts
are_counts d top below counts are counted = λ c at. counted.told c ((are.each c).1 at)

-- all items of the design
pub counted_top : (d : Design) (top : CellId) (counts : ItemCounts) → IsValid d → AreCounts d top counts → (head : TopHead) (n : ℕ)
    → n ≡ min (top_bits d top + min (own_count d top + sum_by (kept_of counts) (insts_at d top)) (2 ^ 64 - 1)) (2 ^ 64 - 1)
    → n ≡ min (length (items_under d head [] top)) (2 ^ 64 - 1)
counted_top d top counts valid are head n n_is =
    n_is ∙ once (2 ^ 64 - 1) (top_bits d top) (own_count d top) (sum_by (kept_of counts) (insts_at d top))
    ∙ counted_at_top d head (kept_of counts) valid.no_cycle top
    (λ inst at m. kept_is d counts inst (are inst.of (inr (placed inst (Member-contains (insts_at d top) inst m)))) head at [])
  where
    once : (most bits own rest : ℕ) → min (bits + min (own + rest) most) most ≡ min (bits + own + rest) most
    once most bits own rest = omega arith
