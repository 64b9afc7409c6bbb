-- After a split no cell is below itself: each instance is one of the cell that was copied.
use Rattle.std.proofs.Common.{◌≡◌, ◌≢◌, ◌+◌, ℕ, suc, List, [], ◌∷◌, ◌++◌, map, refl, sym, ap, subst, ◌∙◌, inl, inr, arith, Option, Some, Bool}
use Rattle.std.specs.Prelude.{find, slice_get}
use Rattle.std.specs.List.{Contains, enumerate_from}
use Rattle.std.specs.Option.{option_map, option_map_or}
use Rattle.std.proofs.lemmas.Bool.{true≢false}
use Rattle.netlist_schema.specs.Design.{Design, cell_at, insts_in, insts_of}
use Rattle.netlist_schema.specs.Hierarchy.{IsCell, HasInst, IsBelow, placed, deeper, NoCellIsBelowItself, insts_at}
use Rattle.netlist_schema.specs.Types.{CellBody, CellId, Inst}
use Rattle.edit_rules_spec.specs.Objects.{IsClosed}
use Rattle.edit_rules_spec.specs.Paths.{same_cell}
use Rattle.edit_rules_spec.proofs.Levels.{same_cell-refl, is_same_cell}
use Rattle.flat_spec.specs.Occurrences.{Occurrence}
use Rattle.flat_spec.specs.Paths.{Reaches}
use Rattle.flat_spec.proofs.ListLemmas.{Member, Contains-member, slice_get-contains}
use Rattle.flat_spec.proofs.PathLemmas.{Reaches-append, Reaches-cons}
use Rattle.uniquify_spec.proofs.SplitAlike.{insts_turned}
use Rattle.uniquify_spec.specs.Copies.{Copy}
use Rattle.uniquify_spec.specs.Split.{Split, turned_inst, turned}
use Rattle.uniquify_spec.proofs.CopyLists.{AreNew, copy-cases, find-cases, same_copy, new_apart}
use Rattle.uniquify_spec.proofs.KeptCells.{turned_body}
use Rattle.uniquify_spec.proofs.NewCells.{body_of}
use Rattle.uniquify_spec.proofs.SplitCells.{IsSplit, split_design, copied, own, of_is, copy_is_there, kept_is_there, other_stays}

-- the cell of which a cell is a copy, or the cell itself
abbrev is_copy : CellId → Copy → Bool
is_copy id m = same_cell m.id id

abbrev pub origin : Split → CellId → CellId
origin s id = option_map_or (λ (m : Copy). m.of) (find (is_copy id) s.copies) id

pub origin_of_copy : (d : Design) (s : Split) → AreNew d [] s.copies → (m : Copy) → Member s.copies m → origin s m.id ≡ m.of
origin_of_copy d s new m member = elim (find-cases (is_copy m.id) s.copies) [
  | inl none ↦ absurd (true≢false (sym (same_cell-refl m.id) ∙ none.1 m member))
  | inr some ↦
      let same = same_copy d s.copies [] new some.0 m some.2 member (is_same_cell some.0.id m.id some.3) in
      ap (λ (o : Option Copy). option_map_or (λ (n : Copy). n.of) o m.id) some.1 ∙ ap (λ (n : Copy). n.of) same
]

pub origin_of_old : (d : Design) (s : Split) → AreNew d [] s.copies → (id : CellId) → IsCell d id → origin s id ≡ id
origin_of_old d s new id is = elim (find-cases (is_copy id) s.copies) [
  | inl none ↦ ap (λ (o : Option Copy). option_map_or (λ (n : Copy). n.of) o id) none.0
  | inr some ↦ absurd (new_apart d s.copies new some.0 some.2 id is (sym (is_same_cell some.0.id id some.3)))
]

-- an own cell comes from the cell of the occurrence
pub origin_of_own : (d : Design) (r : CellId) (s : Split) → IsSplit d r s → (path : List ℕ) (c : CellId) → Reaches d r path c → origin s (own s path c) ≡ c
origin_of_own d r s is path c reached = elim (copy-cases s.copies path) [
  | inl absent ↦
      ap (λ (o : Option Copy). origin s (option_map_or (λ copy. copy.id) o c)) absent.0 ∙ origin_of_old d s is.new c (is.cells path c reached)
  | inr found ↦
      ap (λ (o : Option Copy). origin s (option_map_or (λ copy. copy.id) o c)) found.1
      ∙ origin_of_copy d s is.new found.0 found.2
      ∙ of_is d r s is found.0 found.2 path c found.3 reached
]

-- ---- instances

turned_member : (all : List Copy) (path : List ℕ) (k : ℕ) (insts : List Inst) (y : Inst) → Member (map (turned_inst all path) (enumerate_from k insts)) y
    → (i : ℕ) × (x : Inst) × (slice_get insts i ≡ Some x) × (turned_inst all path (k + i, x) ≡ y)
turned_member all path k [] y member = absurd member
turned_member all path k (x ∷ insts) y member = elim member [
  | inl e ↦ let n : k + 0 ≡ k = omega arith in (0, x, refl, ap (λ j. turned_inst all path (j, x)) n ∙ e)
  | inr rest ↦
      let more = turned_member all path (k + 1) insts y rest in
      let n : k + suc more.0 ≡ (k + 1) + more.0 = omega arith in
      (suc more.0, more.1, more.2, ap (λ j. turned_inst all path (j, more.1)) n ∙ more.3)
]

-- an instance that comes from one of this cell
abbrev ComesFrom : Design → Split → CellId → Inst → Type 0
ComesFrom d s id y = (x : Inst) × HasInst d id x × (origin s y.of ≡ x.of)

-- an instance in the own cell of an occurrence
from_turned : (d : Design) (r : CellId) (s : Split) → IsSplit d r s → (path : List ℕ) (c : CellId) → Reaches d r path c → (body : CellBody) → cell_at d c ≡ Some body
    → (y : Inst) → Member (insts_in (option_map (turned s.copies path) body.contents)) y → ComesFrom d s c y
from_turned d r s is path c reached body was y member =
    let found = turned_member s.copies path 0 (insts_in body.contents) y (subst (λ xs. Member xs y) (insts_turned s.copies path body.contents) member) in
    let x = found.1 in
    let here : insts_at d c ≡ insts_of body = ap (λ o. option_map_or insts_of o []) was in
    let at : slice_get (insts_at d c) found.0 ≡ Some x = ap (λ xs. slice_get xs found.0) here ∙ found.2 in
    let below : Reaches d r (path ++ found.0 ∷ []) x.of = Reaches-append d r c x.of path (found.0 ∷ []) reached (Reaches-cons d c found.0 x [] x.of at refl) in
    let n : 0 + found.0 ≡ found.0 = omega arith in
    let of : own s (path ++ found.0 ∷ []) x.of ≡ y.of = ap (λ j. (turned_inst s.copies path (j, x)).of) (sym n) ∙ ap (λ (v : Inst). v.of) found.3 in
    (x, slice_get-contains (insts_at d c) found.0 x at, ap (origin s) (sym of) ∙ origin_of_own d r s is (path ++ found.0 ∷ []) x.of below)

has_member : (e : Design) (id : CellId) (body : CellBody) → cell_at e id ≡ Some body → (y : Inst) → HasInst e id y → Member (insts_of body) y
has_member e id body is y has = Contains-member (insts_of body) y (subst (λ (o : Option CellBody). Contains (option_map_or insts_of o []) y) is has)

inst_comes : (d : Design) (r : CellId) (s : Split) → IsSplit d r s → IsClosed d → (id : CellId) (y : Inst) → HasInst (split_design d s) id y → ComesFrom d s (origin s id) y
inst_comes d r s is closed id y has = elim (find-cases (is_copy id) s.copies) [
  | inr some ↦
      let m = some.0 in
      let at = is_same_cell m.id id some.3 in
      let reached = is.copies_reached m some.2 in
      let body = body_of d m.of (is.cells m.path m.of reached) in
      let there = copy_is_there d r s is m some.2 body.0 body.1 in
      let has' : HasInst (split_design d s) m.id y = subst (λ k. HasInst (split_design d s) k y) (sym at) has in
      let comes = from_turned d r s is m.path m.of reached body.0 body.1 y (has_member (split_design d s) m.id (copied s m body.0) there y has') in
      let from : m.of ≡ origin s id = sym (origin_of_copy d s is.new m some.2) ∙ ap (origin s) at in
      subst (λ k. ComesFrom d s k y) from comes
  | inl none ↦
      let from : id ≡ origin s id = sym (ap (λ (o : Option Copy). option_map_or (λ (n : Copy). n.of) o id) none.0) in
      let uncopied : (m : Copy) → Member s.copies m → id ≢ m.id = λ m member same. true≢false (sym (same_cell-refl m.id) ∙ ap (same_cell m.id) (sym same) ∙ none.1 m member) in
      subst (λ k. ComesFrom d s k y) from (elim (find-cases (λ (o : Occurrence). same_cell o.cell id) s.kept) [
        | inr kept ↦
            let o = kept.0 in
            let at = is_same_cell o.cell id kept.3 in
            let reached = is.kept_reached o kept.2 in
            let body = body_of d o.cell (is.cells o.path o.cell reached) in
            let there = kept_is_there d r s is o kept.2 body.0 body.1 in
            let has' : HasInst (split_design d s) o.cell y = subst (λ k. HasInst (split_design d s) k y) (sym at) has in
            subst (λ k. ComesFrom d s k y) at
            (from_turned d r s is o.path o.cell reached body.0 body.1 y (has_member (split_design d s) o.cell (turned_body s.copies o.path body.0) there y has'))
        | inl unkept ↦
            let apart : (o : Occurrence) → Member s.kept o → id ≢ o.cell = λ o member same. true≢false (sym (same_cell-refl o.cell) ∙ ap (same_cell o.cell) (sym same) ∙ unkept.1 o member) in
            let stays = other_stays d s is.new id uncopied apart in
            let has' : HasInst d id y = subst (λ (o : Option CellBody). Contains (option_map_or insts_of o []) y) stays has in
            (y, has', origin_of_old d s is.new y.of (closed id y has'))
      ])
]

-- what is below after the split was below before
below_origin : (d : Design) (r : CellId) (s : Split) → IsSplit d r s → IsClosed d → {a b : CellId} → IsBelow (split_design d s) a b → IsBelow d (origin s a) (origin s b)
below_origin d r s is closed (placed {id} inst has) =
    let comes = inst_comes d r s is closed id inst has in
    subst (λ k. IsBelow d k (origin s id)) (sym comes.2) (placed comes.0 comes.1)
below_origin d r s is closed (deeper {inner} {id} inst has below) =
    let comes = inst_comes d r s is closed id inst has in
    let further = below_origin d r s is closed below in
    deeper comes.0 comes.1 (subst (λ k. IsBelow d (origin s inner) k) comes.2 further)

pub split_acyclic : (d : Design) (r : CellId) (s : Split) → IsSplit d r s → IsClosed d → NoCellIsBelowItself d → NoCellIsBelowItself (split_design d s)
split_acyclic d r s is closed acyclic id below = acyclic (origin s id) (below_origin d r s is closed below)
