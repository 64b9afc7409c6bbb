-- The object of a conflict is there in the pinned version.
use Rattle.std.proofs.Common.{◌≡◌, ℕ, zero, suc, ◌+◌, ◌-◌, ◌<◌, ◌≤◌, List, true, false, inl, inr, ⊎_elim, refl, sym, subst, arith, ◌⊎◌}
use Rattle.netlist_schema.specs.Design.{Design}
use Rattle.netlist_schema.specs.Hierarchy.{IsCell}
use Rattle.netlist_schema.specs.Types.{CellId, Object}
use Rattle.netlist_schema.specs.declared.ids.Object.TheVariants.{Directory, Interface, Contents, Notes}
use Rattle.edit_rules_spec.specs.Objects.{IsThere}
use Rattle.edit_rules_spec.proofs.Closed.{valid_is_closed}
use Rattle.edit_spec.specs.Needs.{Reads, Written}
use Rattle.edit_spec.specs.Step.{run}
use Rattle.edit_spec.specs.declared.ops.Op.{Op}
use Rattle.edit_spec.proofs.Overlaid.{run_stays, written_told}
use Rattle.db_spec.specs.Answers.{Clashes, IsConflict}
use Rattle.db_spec.specs.History.{state_after, version_at}
use Rattle.db_spec.specs.declared.event.Event.{Event}
use Rattle.db_spec.specs.State.{State, design, head, version, IsWritten}
use Rattle.db_spec.proofs.Made.{written_is_there}
use Rattle.db_spec.proofs.Versions.{AllFollow, follows_after}
use Rattle.uniquify_spec.proofs.Reached.{top_is_cell}
use Rattle.db_spec.specs.ReadLaws.{ConflictsArePinned}
use Rattle.db_spec.proofs.Needed.{face_there, inside_there}
use Rattle.db_spec.proofs.Read.{IsReadPart, cell_of_face, cell_of_inside, read_part, was_there}

-- a cell of a later version was there, or a commit after the one wrote the directory
traced : (s : State) → AllFollow s → (v k : ℕ) (id : CellId) → v + k ≤ head s → IsCell (design s (v + k)) id
    → IsCell (design s v) id ⊎ ((u : ℕ) × (v < u) × (u ≤ v + k) × IsWritten s u (Directory id.lib))
traced s follows v zero id le is = inl (subst (λ (n : ℕ). IsCell (design s n) id) (let same : v + zero ≡ v = omega arith in same) is)
traced s follows v (suc k) id le is =
    let last : v + suc k ≡ v + k + 1 = omega arith in
    let ops : List Op = (version s (v + k + 1)).made_by in
    let made : design s (v + k + 1) ≡ (run (design s (v + k)) ops).design = follows (v + k) (omega arith) in
    let here : IsCell (run (design s (v + k)) ops).design id = subst (λ (e : Design). IsCell e id) made (subst (λ (n : ℕ). IsCell (design s n) id) last is) in
    ⊎_elim
    (λ (written : Written (design s (v + k)) ops (Directory id.lib)).
    inr (
      v + k + 1,
      omega arith,
      omega arith,
      (let before : v + k ≡ v + k + 1 - 1 = omega arith in subst (λ (n : ℕ). Written (design s n) ops (Directory id.lib)) before written),
    ))
    (λ (free : ¬ Written (design s (v + k)) ops (Directory id.lib)).
    earlier (traced s follows v k id (omega arith) (was_there (design s (v + k)) (run (design s (v + k)) ops).design id (run_stays ops (design s (v + k)) (Directory id.lib) free) here)))
    (written_told ops (design s (v + k)) (Directory id.lib))
  where
    earlier : IsCell (design s v) id ⊎ ((u : ℕ) × (v < u) × (u ≤ v + k) × IsWritten s u (Directory id.lib))
        → IsCell (design s v) id ⊎ ((u : ℕ) × (v < u) × (u ≤ v + suc k) × IsWritten s u (Directory id.lib))
    earlier (inl here) = inl here
    earlier (inr (u, low, high, written)) = inr (u, low, omega (arith, high), written)

-- the cell is there, since else the directory would be an object that clashes and is less
module _ (d : Design) (history : List Event) (v : ℕ) (ops : List Op) (o : Object) (w : ℕ) (c : IsConflict (state_after d history) v ops o w) where
  cell_pinned : (id : CellId) → IsCell (version_at d history w) id
      → ((u : ℕ) → Clashes (state_after d history) v ops (Directory id.lib) u → ⊥)
      → IsCell (version_at d history v) id ⊎ Reads (version_at d history v) ops (Directory id.lib) → IsCell (version_at d history v) id
  cell_pinned id there least (inl here) = here
  cell_pinned id there least (inr reads) =
      let later = c.clashes.later in
      let high = c.clashes.there in
      let at : v + (w - v) ≡ w = omega (arith, later) in
      ⊎_elim
      (λ (here : IsCell (version_at d history v) id). here)
      (λ (found : (u : ℕ) × (v < u) × (u ≤ v + (w - v)) × IsWritten (state_after d history) u (Directory id.lib)).
      let top = found.2 in
      absurd (least found.0 (record { read = reads; later = found.1; there = omega (arith, top, at, high); written = found.3 })))
      (traced (state_after d history) (follows_after d history) v (w - v) id (omega (arith, at, high)) (subst (λ (n : ℕ). IsCell (version_at d history n) id) (sym at) there))

pub conflicts_are_pinned : ConflictsArePinned
conflicts_are_pinned d history v ops o w valid c =
    let e : Design = version_at d history v in
    let part = read_part ops e o (valid_is_closed e valid) (λ t is. top_is_cell e t is valid) c.clashes.read in
    let there = written_is_there d history w w o (let same : w ≤ w = omega arith in same) c.clashes.there c.clashes.written in
    by_kind o c part there
  where
    by_kind : (x : Object) → IsConflict (state_after d history) v ops x w → IsReadPart (version_at d history v) ops x → IsThere (version_at d history w) x → IsThere (version_at d history v) x
    by_kind (Directory lib) k part there = part
    by_kind Notes k part there = refl
    by_kind (Interface id) k part there =
        face_there (version_at d history v) id (cell_pinned d history v ops (Interface id) w k id (cell_of_face (version_at d history w) id there)
        (λ u clash. let never : false ≡ true = k.least (Directory id.lib) u clash in absurd (cc (never))) part)
    by_kind (Contents id) k part there =
        inside_there (version_at d history v) id (cell_pinned d history v ops (Contents id) w k id (cell_of_inside (version_at d history w) id there)
        (λ u clash. let never : false ≡ true = k.least (Directory id.lib) u clash in absurd (cc (never))) part)
