-- Cells that are told one after another.
use Rattle.std.proofs.Common.{◌≡◌, ◌<◌, ◌≤◌, ◌+◌, ◌⊎◌, ℕ, zero, suc, List, [], ◌∷◌, ◌++◌, length, get_or, take, sym, ap, subst, ◌∙◌, inl, inr, append-nil, append_assoc, Some, None, Option, slice_get}
use Rattle.std.specs.Prelude.{option_and_then}
use Rattle.std.specs.List.{All, Contains}
use Rattle.std.proofs.lemmas.Bool.{cases_eq}
use Rattle.std.proofs.lemmas.List.{get_or_default, take_more, take_all}
use Rattle.std.proofs.lemmas.List.Elements.{Contains-push, Contains-push_cases, Contains-append_left}
use Rattle.std.proofs.lemmas.Option.{same_Some, slice_get-get_or}
use Rattle.netlist_schema.specs.Design.{Design}
use Rattle.netlist_schema.specs.Hierarchy.{IsBelow, IsCell, insts_at, placed, deeper}
use Rattle.netlist_schema.specs.Types.{CellId, Inst}
use Rattle.netlist_schema.specs.Valid.{IsValid}
use Rattle.netlist_order_spec.specs.After.{AllAfter}
use Rattle.flat_cells.specs.Below.{AreCellsBelow, ComesBehind, IsAtOrBelow}
use Rattle.flat_cells.proofs.ListedLemmas.{inst_there}
use Rattle.flat_spec.specs.Pins.{own_bits}
use Rattle.flat_spec.proofs.BitLemmas.{on_there}
use Rattle.flat_spec.proofs.ListLemmas.{Member, Contains-member, Member-contains, slice_get-contains}
use Rattle.flat_spec.proofs.PathLemmas.{Some-same, and_then-parts}
use Rattle.net_classes.specs.Facts.{CellFacts, Facts, class_at, facts_at, first_at, first_in, entry}
use Rattle.net_classes.specs.Inside.{IsFirstAt, TellsFirsts}
use Rattle.net_classes.specs.Known.{AreKnown, AreSetAt, AreTold, HasChildrenIn, IsClassIn}
use Rattle.net_classes.specs.Links.{inside_in}
use Rattle.net_classes.specs.PortClasses.{AreClasses, IsClassAnswer}

-- an instance at a place is an instance of the cell
inst_of : (insts : List Inst) (step : ℕ) (inst : Inst) → slice_get insts step ≡ Some inst → Contains insts inst
inst_of insts step inst at = slice_get-contains insts step inst at

-- what is known of the cells of its instances tells the first nets inside
pub tells_firsts : (d : Design) (valid : IsValid d) (c : CellId) (done : List CellId) (facts : Facts) → AreKnown d done facts → HasChildrenIn d c done
    → TellsFirsts d c (inside_in facts (insts_at d c))
tells_firsts d valid c done facts known children = record {
  there = λ step b first is.
      let inst = and_then-parts (λ (i : Inst). first_at facts i.of b) (slice_get (insts_at d c) step) first is in
      (inst.0.of, ap (option_and_then (λ (i : Inst). Some i.of)) inst.1);
  tells = λ step child b m reached joins.
      let inst = and_then-parts (λ (i : Inst). Some i.of) (slice_get (insts_at d c) step) child reached in
      let below = on_there d c m step b valid joins in
      let same : below.0 ≡ child = Some-same _ below.1 reached in
      let of : inst.0.of ≡ child = same_Some inst.0.of child inst.2 in
      let told = known.told inst.0.of (children inst.0 (inst_of (insts_at d c) step inst.0 inst.1)) in
      let answer : IsFirstAt d inst.0.of b (first_in told.0 b) = told.2.facts.inside b (subst (λ v. Contains (own_bits d v) b) (same ∙ sym of) below.2) in
      let is : inside_in facts (insts_at d c) step b ≡ first_in told.0 b =
      ap (option_and_then (λ (i : Inst). first_at facts i.of b)) inst.1 ∙ ap (option_and_then (λ f. first_in f b)) told.1 in
      subst (λ v. IsFirstAt d v b (inside_in facts (insts_at d c) step b)) of (subst (λ v. IsFirstAt d inst.0.of b v) (sym is) answer);
}

-- what holds of an element by those before it
after_at : {A : Type 0} (P : List A → A → Type 0) (before xs : List A) (i : ℕ) (x : A) → AllAfter P before xs → slice_get xs i ≡ Some x → P (before ++ take i xs) x
after_at P before [] i x h at = absurd (cc at)
after_at P before (y ∷ xs) zero x h at =
    subst (λ v. P v x) (sym (append-nil before)) (subst (λ v. P before v) (same_Some y x at) h.0)
after_at P before (y ∷ xs) (suc i) x h at =
    subst (λ v. P v x) (append_assoc before (y ∷ []) (take i xs)) (after_at P (before ++ y ∷ []) xs i x h.1 at)

pub comes_behind : (d : Design) (below : List CellId) (i : ℕ) (cell : CellId) → AllAfter (ComesBehind d) [] below → i < length below → cell ≡ get_or below i cell
    → ComesBehind d (take i below) cell
comes_behind d below i cell behind within is =
    after_at (ComesBehind d) [] below i cell behind (slice_get-get_or below i cell within ∙ ap Some (sym is))

-- one cell more
pub known_more : (d : Design) (below : List CellId) (i : ℕ) (cell : CellId) (f : CellFacts) (facts new : Facts) → i < length below → cell ≡ get_or below i cell
    → AllAfter (ComesBehind d) [] below → IsCell d cell → AreKnown d (take i below) facts → AreTold d cell f → AreSetAt facts cell f new
    → AreKnown d (take (i + 1) below) new
known_more d below i cell f facts new within is behind is_cell known told set_ =
    let more : take (i + 1) below ≡ take i below ++ cell ∷ [] = take_more below i cell within ∙ ap (λ v. take i below ++ v ∷ []) (sym is) in
    let place = comes_behind d below i cell behind within is in
    subst (λ v. AreKnown d v new) (sym more) record {
      room = λ c there. set_.room c (known.room c there);
      told = λ c has. elim (Contains-push_cases (take i below) cell c has) [
        | inl early ↦
            let t = known.told c early in
            let same = set_.others c (λ e. place.new (subst (λ v. Contains (take i below) v) e early)) in
            (t.0, same ∙ t.1, t.2)
        | inr here ↦ subst (λ v. (g : CellFacts) × (facts_at new v ≡ Some g) × AreTold d v g) here (f, set_.here (known.room cell is_cell), told)
      ];
      others = λ c bit none.
          let same = set_.others c (λ e. none (subst (λ v. Contains (take i below ++ cell ∷ []) v) (sym e) (Contains-push (take i below) cell))) in
          ap (option_and_then (λ (g : CellFacts). entry g.least bit)) same ∙ known.others c bit (λ has. none (Contains-append_left (take i below) (cell ∷ []) c has));
    }

pub known_all : (d : Design) (below : List CellId) (i : ℕ) (facts : Facts) → length below ≤ i → AreKnown d (take i below) facts → AreKnown d below facts
known_all d below i facts past known = subst (λ v. AreKnown d v facts) (take_all i below past) known

pub same_id : (a b : CellId) → (a ≡ b) ⊎ (a ≡ b → ⊥)
same_id a b = elim (cases_eq a.lib.0 b.lib.0) [
  | inl lib ↦ elim (cases_eq a.slot b.slot) [
    | inl slot ↦ inl (λ i. record { lib = record { 0 = lib i }; slot = slot i })
    | inr other ↦ inr (λ e. other (ap (λ (v : CellId). v.slot) e))
  ]
  | inr other ↦ inr (λ e. other (ap (λ (v : CellId). v.lib.0) e))
]

is_among : (cells : List CellId) (c : CellId) → Member cells c ⊎ (Member cells c → ⊥)
is_among [] c = inr (λ m. m)
is_among (x ∷ cells) c = go (same_id x c) (is_among cells c)
  where
    go : (x ≡ c) ⊎ (x ≡ c → ⊥) → Member cells c ⊎ (Member cells c → ⊥) → Member (x ∷ cells) c ⊎ (Member (x ∷ cells) c → ⊥)
    go (inl same) more = inl (inl same)
    go (inr other) (inl there) = inl (inr there)
    go (inr other) (inr none) = inr (λ m. elim m [ inl same ↦ other same | inr there ↦ none there ])

-- when all cells at and below the top are told, the classes are
pub are_classes : (d : Design) (top : CellId) (below : List CellId) (facts : Facts) → AreCellsBelow d top below → AreKnown d below facts → AreClasses d top facts
are_classes d top below facts are known = record {
  classes = λ c bit. answer c bit (is_among below c);
  cells = λ c at. let t = known.told c ((are.each c).1 at) in (t.0, t.1, t.2.facts);
}
  where
    answer : (c : CellId) (bit : ℕ) → Member below c ⊎ (Member below c → ⊥) → IsClassAnswer d top c bit (class_at facts c bit)
    answer c bit (inl m) =
        let has = Member-contains below c m in
        let t = known.told c has in
        subst (λ v. IsClassAnswer d top c bit v) (sym (ap (option_and_then (λ (g : CellFacts). entry g.least bit)) t.1)) (go (entry t.0.least bit) (t.2.classes bit) ((are.each c).0 has))
      where
        go : (o : Option ℕ) → IsClassIn d c bit o → IsAtOrBelow d top c → IsClassAnswer d top c bit o
        go None unjoined at = λ v. unjoined
        go (Some first) class at = (at, class)
    answer c bit (inr none) =
        subst (λ v. IsClassAnswer d top c bit v) (sym (known.others c bit (λ has. none (Contains-member below c has))))
        (λ at. absurd (none (Contains-member below c ((are.each c).1 at))))

below_is_cell : (d : Design) → IsValid d → {inner outer : CellId} → IsBelow d inner outer → IsCell d inner
below_is_cell d valid (placed {id} inst has) = (inst_there d id inst valid has).0
below_is_cell d valid (deeper {inner} {id} inst has below) = below_is_cell d valid below

pub below_there : (d : Design) (top : CellId) (below : List CellId) → IsValid d → IsCell d top → AreCellsBelow d top below → All (IsCell d) below
below_there d top below valid is are = λ k default within.
    let c : CellId = get_or below k default in
    elim ((are.each c).0 (k, within, get_or_default below k c default within)) [
      | inl same ↦ subst (λ v. IsCell d v) (sym same) is
      | inr inside ↦ below_is_cell d valid inside
    ]
