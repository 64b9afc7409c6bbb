-- What turning instances in own cells does to a design.
use Rattle.std.proofs.Common.{◌≡◌, ◌≢◌, ◌+◌, ℕ, List, [], ◌∷◌, ◌++◌, map, refl, sym, ap, subst, ◌∙◌, inl, inr, Option, Some, None, Bool, true, false, cond}
use Rattle.std.specs.List.{enumerate_from, flat_map}
use Rattle.std.specs.Option.{option_map, option_map_or, option_to_list}
use Rattle.std.proofs.lemmas.Bool.{true≢false}
use Rattle.netlist_schema.specs.Design.{Design, cell_at}
use Rattle.netlist_schema.specs.Types.{CellBody, CellId, Contents, Inst}
use Rattle.edit_rules_spec.specs.Edit.{Edit, inner, edited, edited_once, with_contents}
use Rattle.edit_rules_spec.specs.Seen.{contents_at}
use Rattle.edit_rules_spec.proofs.Edits.{cell_at-changed_same, cell_at-changed_other}
use Rattle.flat_spec.specs.ConnectionTest.{above}
use Rattle.flat_spec.proofs.ListLemmas.{Member, Ascends}
use Rattle.flat_spec.proofs.TestLemmas.{above-append}
use Rattle.uniquify_spec.specs.Copies.{Copy, same_path}
use Rattle.uniquify_spec.specs.Split.{Owner, own_cell, turned_inst, turned, is_turned, turned_cell}
use Rattle.uniquify_spec.proofs.CopyLists.{same_path-refl, any-member, copy-cases}

abbrev pub turned_cells : Design → List Copy → List Owner → List Edit
turned_cells d all os = flat_map (turned_cell d all) os

-- a body with its instances turned
abbrev pub turned_body : List Copy → List ℕ → CellBody → CellBody
turned_body all path body = record body { contents = option_map (turned all path) body.contents }

pub edited-append : (xs ys : List Edit) (b : Design) → edited b (xs ++ ys) ≡ edited (edited b xs) ys
edited-append [] ys b = refl
edited-append (x ∷ xs) ys b = edited-append xs ys (edited_once b x)

-- ---- where no instance is turned

abbrev pub own_of : List Copy → List ℕ → Option Copy → CellId → CellId
own_of all path o cell = option_map_or (λ (copy : Copy). copy.id) o cell

pub not_turned : (all : List Copy) (path : List ℕ) → is_turned all path ≡ false → (i : ℕ) (cell : CellId) → own_cell all (path ++ i ∷ []) cell ≡ cell
not_turned all path none i cell = elim (copy-cases all (path ++ i ∷ [])) [
  | inl absent ↦ ap (λ (o : Option Copy). option_map_or (λ copy. copy.id) o cell) absent.0
  | inr found ↦
      let m = found.0 in
      let off = any-member (λ copy. option_map_or (λ up. same_path up.0 path) (above copy.path) false) all none m found.2 in
      let up : above m.path ≡ Some (path, i) = ap above found.3 ∙ above-append path i in
      let on : option_map_or (λ (up : List ℕ × ℕ). same_path up.0 path) (above m.path) false ≡ true =
      ap (λ (o : Option (List ℕ × ℕ)). option_map_or (λ up. same_path up.0 path) o false) up ∙ same_path-refl path in
      absurd (true≢false (sym on ∙ off))
]

pub all_same : (all : List Copy) (path : List ℕ) → ((i : ℕ) (cell : CellId) → own_cell all (path ++ i ∷ []) cell ≡ cell)
    → (k : ℕ) (insts : List Inst) → map (turned_inst all path) (enumerate_from k insts) ≡ insts
all_same all path same k [] = refl
all_same all path same k (inst ∷ insts) =
    let rest = all_same all path same (k + 1) insts in
    λ t. record inst { of = same k inst.of t } ∷ rest t

pub turned_same : (all : List Copy) (path : List ℕ) → is_turned all path ≡ false → (contents : Contents) → turned all path contents ≡ contents
turned_same all path none contents =
    let insts = all_same all path (not_turned all path none) 0 contents.insts in
    λ t. record { insts = insts t; nets = contents.nets }

-- ---- one own cell

abbrev one_cell : List Copy → Owner → Bool → Option Contents → List Edit
one_cell all o turns contents = cond turns (option_to_list (option_map (λ c. inner o.own (turned all o.path c)) contents)) []

one_stays : (all : List Copy) (o : Owner) (b : Design) (id : CellId) → id ≢ o.own → (turns : Bool) (contents : Option Contents)
    → cell_at (edited b (one_cell all o turns contents)) id ≡ cell_at b id
one_stays all o b id apart false contents = refl
one_stays all o b id apart true None = refl
one_stays all o b id apart true (Some c) = cell_at-changed_other b o.own (with_contents (turned all o.path c)) id apart

body_is : (body : CellBody) (contents : Option Contents) → contents ≡ body.contents → ◌≡◌ {A = CellBody} (record body { contents = contents }) body
body_is body contents same = λ t. record body { contents = same t }

one_turned : (all : List Copy) (o : Owner) (b : Design) (turns : Bool) → is_turned all o.path ≡ turns → (body : CellBody) → cell_at b o.own ≡ Some body
    → (contents : Option Contents) → body.contents ≡ contents
    → cell_at (edited b (one_cell all o turns contents)) o.own ≡ Some (turned_body all o.path body)
one_turned all o b false none body is None has = is ∙ ap Some (sym (body_is body (option_map (turned all o.path) body.contents) (ap (option_map (turned all o.path)) has ∙ sym has)))
one_turned all o b false none body is (Some c) has =
    is ∙ ap Some (sym (body_is body (option_map (turned all o.path) body.contents) (ap (option_map (turned all o.path)) has ∙ ap Some (turned_same all o.path none c) ∙ sym has)))
one_turned all o b true turns body is None has = is ∙ ap Some (sym (body_is body (option_map (turned all o.path) body.contents) (ap (option_map (turned all o.path)) has ∙ sym has)))
one_turned all o b true turns body is (Some c) has =
    cell_at-changed_same b o.own (with_contents (turned all o.path c))
    ∙ ap (option_map (with_contents (turned all o.path c))) is
    ∙ ap (λ inside. Some (record body { contents = option_map (λ _. turned all o.path c) inside })) has
    ∙ ap (λ inside. Some (record body { contents = option_map (turned all o.path) inside })) (sym has)

-- ---- all of them

pub turned_stays : (d : Design) (all : List Copy) (os : List Owner) (b : Design) (id : CellId) → ((o : Owner) → Member os o → id ≢ o.own)
    → cell_at (edited b (turned_cells d all os)) id ≡ cell_at b id
turned_stays d all [] b id none = refl
turned_stays d all (o ∷ os) b id none =
    ap (λ e. cell_at e id) (edited-append (turned_cell d all o) (turned_cells d all os) b)
    ∙ turned_stays d all os (edited b (turned_cell d all o)) id (λ q m. none q (inr m))
    ∙ one_stays all o b id (none o (inl refl)) (is_turned all o.path) (contents_at d o.cell)

-- the own cells differ
abbrev pub AreApart : List Owner → Type 0
AreApart os = Ascends (λ o q. o.own ≢ q.own) os

-- an own cell that has the contents of the cell before gets them with instances turned
pub own_is_turned : (d : Design) (all : List Copy) (os : List Owner) (b : Design) → AreApart os
    → (o : Owner) → Member os o → (body : CellBody) → cell_at b o.own ≡ Some body → body.contents ≡ contents_at d o.cell
    → cell_at (edited b (turned_cells d all os)) o.own ≡ Some (turned_body all o.path body)
own_is_turned d all [] b apart o member body is has = absurd member
own_is_turned d all (v ∷ os) b apart o member body is has =
    ap (λ e. cell_at e o.own) (edited-append (turned_cell d all v) (turned_cells d all os) b)
    ∙ elim member [
      | inl e ↦
          let here : cell_at b v.own ≡ Some body = subst (λ (x : Owner). cell_at b x.own ≡ Some body) (sym e) is in
          let inside : body.contents ≡ contents_at d v.cell = subst (λ (x : Owner). body.contents ≡ contents_at d x.cell) (sym e) has in
          subst (λ (x : Owner). cell_at (edited (edited b (turned_cell d all v)) (turned_cells d all os)) x.own ≡ Some (turned_body all x.path body)) e
          (turned_stays d all os (edited b (turned_cell d all v)) v.own (λ q m. apart.0 q m)
          ∙ one_turned all v b (is_turned all v.path) refl body here (contents_at d v.cell) inside)
      | inr rest ↦
          own_is_turned d all os (edited b (turned_cell d all v)) apart.1 o rest body
          (one_stays all v b o.own (λ same. apart.0 o rest (sym same)) (is_turned all v.path) (contents_at d v.cell) ∙ is) has
    ]
