-- Marks, and what is marked by going over cells from the last to the first.
use Rattle.std.proofs.Common.{◌≡◌, ◌<◌, ◌≤◌, ◌+◌, ◌⊎◌, ℕ, zero, suc, List, [], ◌∷◌, ◌++◌, length, get_or, take, refl, sym, ap, subst, ◌∙◌, inl, inr, arith, Some, None, Option, Bool, true, false, slice_get}
use Rattle.std.specs.Prelude.{IsSome, IfSome, option_and_then, unwrap_or}
use Rattle.std.specs.List.{All, Contains}
use Rattle.std.proofs.lemmas.Bool.{cases_eq, false≢true}
use Rattle.std.proofs.lemmas.List.{take_more, take_all}
use Rattle.std.proofs.lemmas.List.Elements.{Contains-push, Contains-push_cases, Contains-append_left}
use Rattle.std.proofs.lemmas.Option.{slice_get_within, slice_get-get_or}
use Rattle.netlist_schema.specs.Design.{Design, cell_at, cells_in}
use Rattle.netlist_schema.specs.Hierarchy.{HasInst, IsBelow, IsCell, insts_at, placed, deeper}
use Rattle.netlist_schema.specs.Types.{CellId, Inst}
use Rattle.netlist_schema.specs.Valid.{IsValid}
use Rattle.netlist_schema.proofs.Lists.{some_of}
use Rattle.netlist_order_spec.specs.After.{AllAfter}
use Rattle.netlist_order_spec.proofs.Places.{lib_of_cell}
use Rattle.flat_spec.proofs.PathLemmas.{slice_get-is}
use Rattle.flat_cells.specs.Below.{ComesBehind}
use Rattle.flat_cells.specs.Marks.{AreBlank, AreInstsMarked, AreKept, AreMarkedBelow, IsSet, is_marked, mark_at}
use Rattle.flat_cells.specs.declared.marks.CellMarks.{CellMarks}
use Rattle.flat_cells.proofs.ListedLemmas.{inst_there}

pub kept_same : (m : CellMarks) → AreKept m m
kept_same m = record { room = λ c h. h; marks = λ c h. h }

pub kept_more : (a b c : CellMarks) → AreKept a b → AreKept b c → AreKept a c
kept_more a b c h k = record { room = λ v r. k.room v (h.room v r); marks = λ v r. k.marks v (h.marks v r) }

-- the instances so far
pub insts_none : (m : CellMarks) → AreInstsMarked [] m m
insts_none m = record { kept = kept_same m; each = λ inst has r. absurd (omega (arith, has.1)); only = λ c h. inl h }

pub insts_more : (insts : List Inst) (i : ℕ) (inst : Inst) (old m new : CellMarks) → i < length insts → inst ≡ get_or insts i inst
    → AreInstsMarked (take i insts) old m → IsSet m inst.of new → AreInstsMarked (take (i + 1) insts) old new
insts_more insts i inst old m new within is h s =
    let more : take (i + 1) insts ≡ take i insts ++ inst ∷ [] = take_more insts i inst within ∙ ap (λ v. take i insts ++ v ∷ []) (sym is) in
    subst (λ v. AreInstsMarked v old new) (sym more) record {
      kept = kept_more old m new h.kept s.kept;
      each = λ v has room. elim (Contains-push_cases (take i insts) inst v has) [
        | inl early ↦ s.kept.marks v.of (h.each v early room)
        | inr here ↦ subst (λ (w : Inst). IsSome (mark_at old w.of) → is_marked new w.of ≡ true) here (λ r. s.here (h.kept.room inst.of r)) room
      ];
      only = λ c marked. elim (s.only c marked) [
        | inl before ↦ elim (h.only c before) [
          | inl old_ ↦ inl old_
          | inr of ↦ inr (of.0, Contains-append_left (take i insts) (inst ∷ []) of.0 of.1, of.2)
        ]
        | inr here ↦ inr (inst, Contains-push (take i insts) inst, sym here)
      ];
    }

pub insts_all : (insts : List Inst) (i : ℕ) (old new : CellMarks) → length insts ≤ i → AreInstsMarked (take i insts) old new → AreInstsMarked insts old new
insts_all insts i old new past h = subst (λ v. AreInstsMarked v old new) (take_all i insts past) h

-- a row of marks for so many cells, none of which is set
abbrev pub IsBlankRow : ℕ → List Bool → Type 0
IsBlankRow count row = (length row ≡ count) × All (λ mark. mark ≡ false) row

mark_of : (xs : List Bool) (slot : ℕ) (o : Option Bool) → slice_get xs slot ≡ o → All (λ mark. mark ≡ false) xs → unwrap_or o false ≡ true → ⊥
mark_of xs slot None is h t = false≢true t
mark_of xs slot (Some b) is h t =
    let within = slice_get_within xs slot b is in
    let same : b ≡ false = Some-bool (sym is ∙ slice_get-get_or xs slot b within) ∙ h slot b within in
    false≢true (sym same ∙ t)
  where
    Some-bool : {a b : Bool} → Some a ≡ Some b → a ≡ b
    Some-bool e = cc e

module _ {R : Type 0} where
  row_room : (o : Option R) (items : R → List Bool) (count slot : ℕ) → IfSome o (λ row. IsBlankRow count (items row)) → IsSome o → slot < count
      → IsSome (option_and_then (λ row. slice_get (items row) slot) o)
  row_room None items count slot h is l = absurd (false≢true is)
  row_room (Some r) items count slot h is l = slice_get-is (items r) slot (omega (arith, l, h.0))

  row_marks : (o : Option R) (items : R → List Bool) (count slot : ℕ) → IfSome o (λ row. IsBlankRow count (items row))
      → unwrap_or (option_and_then (λ row. slice_get (items row) slot) o) false ≡ true → ⊥
  row_marks None items count slot h t = false≢true t
  row_marks (Some r) items count slot h t = mark_of (items r) slot (slice_get (items r) slot) refl h.1 t

  -- one row more
  pub rows_more : (xs : List R) (x : R) (items : R → List Bool) (counts : ℕ → ℕ) → ((k : ℕ) → IfSome (slice_get xs k) (λ row. IsBlankRow (counts k) (items row)))
      → IsBlankRow (counts (length xs)) (items x) → (k : ℕ) → IfSome (slice_get (xs ++ x ∷ []) k) (λ row. IsBlankRow (counts k) (items row))
  rows_more [] x items counts f h zero = h
  rows_more [] x items counts f h (suc k) = tt
  rows_more (y ∷ xs) x items counts f h zero = f 0
  rows_more (y ∷ xs) x items counts f h (suc k) = rows_more xs x items (λ n. counts (suc n)) (λ n. f (suc n)) h k

-- each cell of a design has a mark, which is not set
module _ (d : Design) (m : CellMarks) (blank : AreBlank d m) where
  pub blank_room : (c : CellId) → IsCell d c → IsSome (mark_at m c)
  blank_room c is =
      let body = some_of (cell_at d c) is in
      let lib = lib_of_cell d c body.0 body.1 in
      let low : c.lib.0 < length d.libs = slice_get_within d.libs c.lib.0 lib.0 lib.1 in
      let slot : c.slot < length (cells_in d c.lib) = slice_get_within (cells_in d c.lib) c.slot body.0 body.1 in
      row_room (slice_get m.rows.items c.lib.0) (λ row. row.items) (length (cells_in d c.lib)) c.slot (blank.each c.lib.0)
      (slice_get-is m.rows.items c.lib.0 (omega (arith, low, blank.long))) slot

  pub blank_marks : (c : CellId) → is_marked m c ≡ true → ⊥
  blank_marks c marked = row_marks (slice_get m.rows.items c.lib.0) (λ row. row.items) (length (cells_in d c.lib)) c.slot (blank.each c.lib.0) marked

-- no cell comes behind one that places it
not_before : (d : Design) (before cells : List CellId) (j : ℕ) (b : CellId) → AllAfter (ComesBehind d) before cells → slice_get cells j ≡ Some b → Contains before b → ⊥
not_before d before [] j b h at has = absurd (cc at)
not_before d before (x ∷ cells) zero b h at has = let same : x ≡ b = cc at in h.0.new (subst (λ v. Contains before v) (sym same) has)
not_before d before (x ∷ cells) (suc j) b h at has = not_before d (before ++ x ∷ []) cells j b h.1 at (Contains-append_left before (x ∷ []) b has)

pub none_later : (d : Design) (before cells : List CellId) (i j : ℕ) (a b : CellId) (inst : Inst) → AllAfter (ComesBehind d) before cells
    → slice_get cells i ≡ Some a → slice_get cells j ≡ Some b → HasInst d a inst → inst.of ≡ b → j < i
none_later d before [] i j a b inst h at bt has is = absurd (cc at)
none_later d before (x ∷ cells) zero j a b inst h at bt has is =
    let same : x ≡ a = cc at in
    let early : Contains before b = subst (λ v. Contains before v) is (h.0.children inst (subst (λ v. HasInst d v inst) (sym same) has)) in
    absurd (not_before d before (x ∷ cells) j b h bt early)
none_later d before (x ∷ cells) (suc i) zero a b inst h at bt has is = omega arith
none_later d before (x ∷ cells) (suc i) (suc j) a b inst h at bt has is =
    let less = none_later d (before ++ x ∷ []) cells i j a b inst h.1 at bt has is in omega (arith, less)

below_more : {d : Design} {inner outer : CellId} → IsBelow d inner outer → (inst : Inst) → HasInst d inner inst → IsBelow d inst.of outer
below_more (placed first has) inst more = deeper first has (placed inst more)
below_more (deeper first has below) inst more = deeper first has (below_more below inst more)

-- of the last so many cells, those that are marked have their instances' cells marked
pub record AreMarkedFrom (d : Design) (cells : List CellId) (passed : ℕ) (old new : CellMarks) : Type 0 where
  pub kept : AreKept old new
  pub down : (k : ℕ) (c : CellId) (inst : Inst) → length cells ≤ k + passed → slice_get cells k ≡ Some c → is_marked new c ≡ true → HasInst d c inst
      → is_marked new inst.of ≡ true
  pub only : (c : CellId) → is_marked new c ≡ true → (is_marked old c ≡ true) ⊎ ((outer : CellId) × (is_marked old outer ≡ true) × IsBelow d c outer)

pub marked_none : (d : Design) (cells : List CellId) (m : CellMarks) → AreMarkedFrom d cells 0 m m
marked_none d cells m = record {
  kept = kept_same m;
  down = λ k c inst past at. let within = slice_get_within cells k c at in absurd (omega (arith, past, within));
  only = λ c h. inl h;
}

module _ (d : Design) (valid : IsValid d) (cells : List CellId) (behind : AllAfter (ComesBehind d) [] cells) (old m : CellMarks) (room : (c : CellId) → IsCell d c → IsSome (mark_at old c))
    (passed k : ℕ) (cell : CellId) (here : k + passed + 1 ≡ length cells) (at : slice_get cells k ≡ Some cell) (so_far : AreMarkedFrom d cells passed old m) where
  same_cell : (c : CellId) → slice_get cells k ≡ Some c → c ≡ cell
  same_cell c is = Some-cell c cell (sym is ∙ at)
    where
      Some-cell : (a b : CellId) → Some a ≡ Some b → a ≡ b
      Some-cell a b e = cc e

  pub marked_more : (new : CellMarks) → is_marked m cell ≡ true → AreInstsMarked (insts_at d cell) m new → AreMarkedFrom d cells (passed + 1) old new
  marked_more new marked h = record {
    kept = kept_more old m new so_far.kept h.kept;
    down = λ j c inst past is c_marked has. elim (h.only c c_marked) [
      | inl before ↦ elim (cases_eq j k) [
        | inl same ↦
            let c_is : c ≡ cell = same_cell c (sym (ap (slice_get cells) same) ∙ is) in
            h.each inst (subst (λ v. HasInst d v inst) c_is has) (so_far.kept.room inst.of (room inst.of (inst_there d c inst valid has).0))
        | inr other ↦
            h.kept.marks inst.of (so_far.down j c inst (omega (arith, past, here, other)) is before has)
      ]
      | inr of ↦
          let less = none_later d [] cells k j cell c of.0 behind at is of.1 of.2 in
          absurd (omega (arith, less, past, here))
    ];
    only = λ c c_marked. elim (h.only c c_marked) [
      | inl before ↦ so_far.only c before
      | inr of ↦ elim (so_far.only cell marked) [
        | inl was ↦ inr (cell, was, subst (λ v. IsBelow d v cell) of.2 (placed of.0 of.1))
        | inr outer ↦ inr (outer.0, outer.1, subst (λ v. IsBelow d v outer.0) of.2 (below_more outer.2 of.0 of.1))
      ]
    ];
  }

  pub marked_same : is_marked m cell ≡ false → AreMarkedFrom d cells (passed + 1) old m
  marked_same unmarked = record {
    kept = so_far.kept;
    down = λ j c inst past is c_marked has. elim (cases_eq j k) [
      | inl same ↦
          let c_is : c ≡ cell = same_cell c (sym (ap (slice_get cells) same) ∙ is) in
          absurd (false≢true (sym unmarked ∙ subst (λ v. is_marked m v ≡ true) c_is c_marked))
      | inr other ↦ so_far.down j c inst (omega (arith, past, here, other)) is c_marked has
    ];
    only = so_far.only;
  }

pub marked_all : (d : Design) (cells : List CellId) (passed : ℕ) (old new : CellMarks) → length cells ≤ passed → AreMarkedFrom d cells passed old new → AreMarkedBelow d cells old new
marked_all d cells passed old new past h = record {
  kept = h.kept;
  down = λ c inst has marked inst_has. h.down has.0 c inst (omega (arith, past)) (at c has) marked inst_has;
  only = h.only;
}
  where
    at : (c : CellId) (has : Contains cells c) → slice_get cells has.0 ≡ Some c
    at c has = slice_get-get_or cells has.0 c has.1 ∙ ap Some has.2
