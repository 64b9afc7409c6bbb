-- The rows of a cell, joint by joint, and those of all cells, children first.
use Rattle.std.proofs.Common.{◌≡◌, ◌<◌, ◌+◌, ℕ, zero, suc, List, [], ◌∷◌, ◌++◌, length, take, get_or, Bool, true, false, ◌&&◌, cond, refl, sym, ap, subst, ◌∙◌, inl, inr, arith, Some, None, Option, slice_get, append-nil, append_assoc}
use Rattle.std.specs.Prelude.{IsSome, nat_eq, option_and_then, is_none}
use Rattle.std.specs.List.{Contains}
use Rattle.std.specs.Option.{option_eq, option_map_or}
use Rattle.std.proofs.lemmas.List.{take_more}
use Rattle.std.proofs.lemmas.List.Elements.{Contains-append_left, Contains-push_cases}
use Rattle.std.proofs.lemmas.Option.{slice_get-get_or}
use Rattle.netlist_schema.specs.Design.{Design, cell_at}
use Rattle.netlist_schema.specs.Hierarchy.{HasInst, IsCell, insts_at}
use Rattle.netlist_schema.specs.Types.{CellBody, CellId, Inst}
use Rattle.netlist_order_spec.specs.After.{AllAfter}
use Rattle.flat_cells.specs.Below.{ComesBehind}
use Rattle.flat_spec.proofs.ListLemmas.{filter_same, slice_get-contains}
use Rattle.ask_spec.specs.declared.role.Role.{Role}
use Rattle.net_classes.specs.Facts.{Facts, first_at}
use Rattle.net_classes.specs.declared.joints.Joint.{Joint}
use Rattle.net_rows.specs.Rows.{AreListsOf, AreRows, AreSetAt, Table, bit_leads, direction_in, has_joints, is_in_row, leads, lists_at, port_stands}
use Rattle.net_ways.specs.Ways.{firsts_in, joints_in}

-- the test of a row, by the first net of a joint that leads on
pub row_test : (role : Role) (d : Design) (facts : Facts) (cells : Table) (c : CellId) (j : Joint) (f : ℕ)
    → is_in_row role d facts cells c f j ≡ option_eq nat_eq (cond (leads role d facts cells c j) (slice_get (firsts_in facts c) j.net) None) (Some f)
row_test role d facts cells c j f = go (leads role d facts cells c j)
  where
    go : (b : Bool) → (b && option_eq nat_eq (slice_get (firsts_in facts c) j.net) (Some f)) ≡ option_eq nat_eq (cond b (slice_get (firsts_in facts c) j.net) None) (Some f)
    go true = refl
    go false = refl

-- the cells of the instances of these cells are among them
abbrev pub IsClosed : Design → List CellId → Type 0
IsClosed d done = (c : CellId) (inst : Inst) → Contains done c → HasInst d c inst → Contains done inst.of

after_at : {A : Type 0} (P : List A → A → Type 0) (before xs : List A) (i : ℕ) (x : A) → AllAfter P before xs → slice_get xs i ≡ Some x → P (before ++ take i xs) x
after_at P before [] i x h e = absurd (cc e)
after_at P before (y ∷ xs) zero x h e = let same : y ≡ x = cc e in subst (P (before ++ [])) same (subst (λ v. P v y) (sym (append-nil before)) h.0)
after_at P before (y ∷ xs) (suc i) x h e =
    subst (λ v. P v x) (append_assoc before (y ∷ []) (take i xs)) (after_at P (before ++ y ∷ []) xs i x h.1 e)

module _ (role : Role) (d : Design) (facts : Facts) (below : List CellId) (behind : AllAfter (ComesBehind d) [] below) where
  -- what a joint of a cell leads to is told by what is kept of the cells of its instances
  leads_same : (old new : Table) (c : CellId) → ((inst : Inst) → HasInst d c inst → lists_at new inst.of ≡ lists_at old inst.of) → (j : Joint) → leads role d facts new c j ≡ leads role d facts old c j
  leads_same old new c same j = go (slice_get (insts_at d c) j.inst) refl
    where
      go : (o : Option Inst) → slice_get (insts_at d c) j.inst ≡ o
          → option_map_or (λ (inst : Inst). option_map_or (λ (body : CellBody). bit_leads role facts new inst.of body (record { port = j.port; bit = j.bit })) (cell_at d inst.of) false) o false
          ≡ option_map_or (λ (inst : Inst). option_map_or (λ (body : CellBody). bit_leads role facts old inst.of body (record { port = j.port; bit = j.bit })) (cell_at d inst.of) false) o false
      go None is = refl
      go (Some inst) is =
          let kept = same inst (slice_get-contains (insts_at d c) j.inst inst is) in
          ap (λ o. option_map_or (λ (body : CellBody). cond (is_none body.contents) (port_stands role false (direction_in body j.port))
          (option_map_or (λ first. has_joints (option_map_or (λ js. js) (option_and_then (λ (lists : List (List Joint)). slice_get lists first) o) [])) (first_at facts inst.of (record { port = j.port; bit = j.bit })) false)) (cell_at d inst.of) false) kept

  lists_same : (old new : Table) (c : CellId) → ((inst : Inst) → HasInst d c inst → lists_at new inst.of ≡ lists_at old inst.of) → (lists : List (List Joint)) → AreListsOf role d facts old c lists → AreListsOf role d facts new c lists
  lists_same old new c same lists h = record {
    long = h.long;
    each = λ f within. h.each f within ∙ ap Some (filter_same (is_in_row role d facts old c f) (is_in_row role d facts new c f) (joints_in facts c)
        (λ j m. ap (λ v. v && option_eq nat_eq (slice_get (firsts_in facts c) j.net) (Some f)) (sym (leads_same old new c same j))));
  }

  -- one cell more
  pub rows_more : (i : ℕ) (c : CellId) (lists : List (List Joint)) (old new : Table) → i < length below → c ≡ get_or below i c → IsCell d c
      → AreRows role d facts (take i below) old × IsClosed d (take i below) → AreListsOf role d facts old c lists → AreSetAt old c lists new
      → AreRows role d facts (take (i + 1) below) new × IsClosed d (take (i + 1) below)
  rows_more i c lists old new within is is_cell known made set_ =
      let more : take (i + 1) below ≡ take i below ++ c ∷ [] = take_more below i c within ∙ ap (λ v. take i below ++ v ∷ []) (sym is) in
      let place : ComesBehind d (take i below) c = after_at (ComesBehind d) [] below i c behind (slice_get-get_or below i c within ∙ ap Some (sym is)) in
      let apart : (v : CellId) → Contains (take i below) v → v ≡ c → ⊥ = λ v has e. place.new (subst (Contains (take i below)) e has) in (
        subst (λ v. AreRows role d facts v new) (sym more) (record {
          room = λ v there. set_.room v (known.0.room v there);
          told = λ v has. elim (Contains-push_cases (take i below) c v has) [
            | inl early ↦
                let t = known.0.told v early in
                (t.0, set_.others v (apart v early) ∙ t.1, lists_same old new v (λ inst placed. set_.others inst.of (apart inst.of (known.1 v inst early placed))) t.0 t.2)
            | inr here ↦ subst (λ w. (ls : List (List Joint)) × (lists_at new w ≡ Some ls) × AreListsOf role d facts new w ls) here
                (lists, set_.here (known.0.room c is_cell), lists_same old new c (λ inst placed. set_.others inst.of (apart inst.of (place.children inst placed))) lists made)
          ];
        }),
        subst (IsClosed d) (sym more) (λ v inst has placed. elim (Contains-push_cases (take i below) c v has) [
          | inl early ↦ Contains-append_left (take i below) (c ∷ []) inst.of (known.1 v inst early placed)
          | inr here ↦ Contains-append_left (take i below) (c ∷ []) inst.of (place.children inst (subst (λ w. HasInst d w inst) (sym here) placed))
        ]),
      )

pub no_rows_known : (role : Role) (d : Design) (facts : Facts) (cells : Table) → ((c : CellId) → IsCell d c → IsSome (lists_at cells c)) → AreRows role d facts [] cells × IsClosed d []
no_rows_known role d facts cells room = (
  record { room = room; told = λ c has. absurd (omega (arith, has.1)) },
  λ c inst has placed. absurd (omega (arith, has.1)),
)
