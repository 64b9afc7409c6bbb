-- The cells of a design after a split.
use Rattle.std.proofs.Common.{◌≡◌, ◌≢◌, ◌⊎◌, ℕ, List, [], ◌∷◌, ◌++◌, map, refl, sym, ap, subst, ◌∙◌, inl, inr, Option, Some, None, true}
use Rattle.std.specs.Prelude.{option_and_then}
use Rattle.std.specs.Option.{option_map, option_map_or}
use Rattle.std.proofs.lemmas.Bool.{true≢false}
use Rattle.netlist_schema.specs.Design.{Design, cell_at}
use Rattle.netlist_schema.specs.Hierarchy.{IsCell}
use Rattle.netlist_schema.specs.Types.{CellBody, CellId, Contents}
use Rattle.edit_rules_spec.specs.Edit.{edited}
use Rattle.edit_rules_spec.specs.Seen.{contents_at}
use Rattle.flat_spec.specs.Occurrences.{Occurrence}
use Rattle.flat_spec.specs.Paths.{cell_along, Reaches}
use Rattle.flat_spec.proofs.ListLemmas.{Member, Member-append_left, Member-append_right, Member-append_cases, Member-map, Member-from_map, Ascends, Ascends-append}
use Rattle.flat_spec.proofs.PathLemmas.{Some-same}
use Rattle.uniquify_spec.specs.Blocks.{is_block}
use Rattle.uniquify_spec.specs.Copies.{Copy, same_path}
use Rattle.uniquify_spec.specs.Split.{Split, Owner, copy_owner, kept_owner, owners, own_cell, turned, renamed, split_edits}
use Rattle.uniquify_spec.proofs.CopyLists.{AreNew, copy-cases, find-cases, later_apart, new_apart, same_path-true, same_path-refl}
use Rattle.uniquify_spec.proofs.KeptCells.{AreApart, turned_body, turned_cells, edited-append, all_same, turned_stays, own_is_turned}
use Rattle.uniquify_spec.proofs.NewCells.{new_cells, at_the_start, new_stays, new_is_there}

-- the occurrence at the path gets a copy, or keeps its cell
abbrev pub HasCopy : Split → List ℕ → Type 0
HasCopy s path = (m : Copy) × Member s.copies m × (m.path ≡ path)

abbrev pub IsKept : Split → List ℕ → Type 0
IsKept s path = (o : Occurrence) × Member s.kept o × (o.path ≡ path)

-- what holds of the splits of the two operations
pub record IsSplit (d : Design) (r : CellId) (s : Split) : Type 0 where
  -- the cells along paths are there
  pub cells : (path : List ℕ) (c : CellId) → Reaches d r path c → IsCell d c
  pub kept_reached : (o : Occurrence) → Member s.kept o → Reaches d r o.path o.cell
  pub kept_apart : Ascends (λ o q. o.cell ≢ q.cell) s.kept
  pub copies_reached : (m : Copy) → Member s.copies m → Reaches d r m.path m.of
  pub copies_below : (m : Copy) → Member s.copies m → m.path ≢ []
  pub copies_of_blocks : (m : Copy) → Member s.copies m → is_block d m.of ≡ true
  pub new : AreNew d [] s.copies
  -- each occurrence of a kept cell is the kept one or gets a copy
  pub mine : (path : List ℕ) (o : Occurrence) → Member s.kept o → Reaches d r path o.cell → IsKept s path ⊎ HasCopy s path
  -- an occurrence with an instance that is turned keeps its cell or gets a copy
  pub parents : (m : Copy) → Member s.copies m → (path : List ℕ) (i : ℕ) → m.path ≡ path ++ i ∷ [] → IsKept s path ⊎ HasCopy s path

abbrev pub split_design : Design → Split → Design
split_design d s = edited d (split_edits d s)

-- ---- each cell

abbrev half : Design → Split → Design
half d s = edited d (new_cells d s.copies)

halves : (d : Design) (s : Split) (id : CellId) → cell_at (split_design d s) id ≡ cell_at (edited (half d s) (turned_cells d s.copies (owners s))) id
halves d s id = ap (λ e. cell_at e id) (edited-append (new_cells d s.copies) (turned_cells d s.copies (owners s)) d)

-- a cell that is no copy is as before, until instances are turned
half_stays : (d : Design) (s : Split) → AreNew d [] s.copies → (id : CellId) → ((m : Copy) → Member s.copies m → id ≢ m.id) → cell_at (half d s) id ≡ cell_at d id
half_stays d s new id none = new_stays d s.copies d [] (at_the_start d) new id none

kept_is_cell : (d : Design) (r : CellId) (s : Split) → IsSplit d r s → (o : Occurrence) → Member s.kept o → IsCell d o.cell
kept_is_cell d r s is o member = is.cells o.path o.cell (is.kept_reached o member)

-- own cells differ
copies_apart : (d : Design) (ms before : List Copy) → AreNew d before ms → AreApart (map copy_owner ms)
copies_apart d [] before new = tt
copies_apart d (m ∷ ms) before new = (
  λ o member same.
      let from = Member-from_map copy_owner ms o member in
      later_apart d m ms before new from.0 from.1 (same ∙ ap (λ (x : Owner). x.own) (sym from.2)),
  copies_apart d ms (before ++ m ∷ []) new.1,
)

kept_apart_too : (os : List Occurrence) → Ascends (λ o q. o.cell ≢ q.cell) os → AreApart (map kept_owner os)
kept_apart_too [] p = tt
kept_apart_too (x ∷ os) p = (
  λ o member same.
      let from = Member-from_map kept_owner os o member in
      p.0 from.0 from.1 (same ∙ ap (λ (v : Owner). v.own) (sym from.2)),
  kept_apart_too os p.1,
)

owners_apart : (d : Design) (r : CellId) (s : Split) → IsSplit d r s → AreApart (owners s)
owners_apart d r s is =
    Ascends-append (λ o q. o.own ≢ q.own) (map copy_owner s.copies) (map kept_owner s.kept) (copies_apart d s.copies [] is.new) (kept_apart_too s.kept is.kept_apart)
    (λ o q copy kept same.
    let m = Member-from_map copy_owner s.copies o copy in
    let k = Member-from_map kept_owner s.kept q kept in
    new_apart d s.copies is.new m.0 m.1 k.0.cell (kept_is_cell d r s is k.0 k.1) (ap (λ (v : Owner). v.own) k.2 ∙ sym same ∙ ap (λ (v : Owner). v.own) (sym m.2)))

-- the body of a copy
abbrev pub copied : Split → Copy → CellBody → CellBody
copied s m body = turned_body s.copies m.path (renamed m body)

inside_of_cell : (d : Design) (id : CellId) (body : CellBody) → cell_at d id ≡ Some body → body.contents ≡ contents_at d id
inside_of_cell d id body is = sym (ap (option_and_then (λ (b : CellBody). b.contents)) is)

pub copy_is_there : (d : Design) (r : CellId) (s : Split) → IsSplit d r s → (m : Copy) → Member s.copies m → (body : CellBody) → cell_at d m.of ≡ Some body
    → cell_at (split_design d s) m.id ≡ Some (copied s m body)
copy_is_there d r s is m member body was =
    let made = new_is_there d s.copies d [] (at_the_start d) is.new m member body was in
    halves d s m.id
    ∙ own_is_turned d s.copies (owners s) (half d s) (owners_apart d r s is) (copy_owner m)
    (Member-append_left (map copy_owner s.copies) (map kept_owner s.kept) (copy_owner m) (Member-map copy_owner s.copies m member))
    (renamed m body) made (inside_of_cell d m.of body was)

pub kept_is_there : (d : Design) (r : CellId) (s : Split) → IsSplit d r s → (o : Occurrence) → Member s.kept o → (body : CellBody) → cell_at d o.cell ≡ Some body
    → cell_at (split_design d s) o.cell ≡ Some (turned_body s.copies o.path body)
kept_is_there d r s is o member body was =
    halves d s o.cell
    ∙ own_is_turned d s.copies (owners s) (half d s) (owners_apart d r s is) (kept_owner o)
    (Member-append_right (map copy_owner s.copies) (map kept_owner s.kept) (kept_owner o) (Member-map kept_owner s.kept o member))
    body (half_stays d s is.new o.cell (λ m copy. new_apart d s.copies is.new m copy o.cell (kept_is_cell d r s is o member)) ∙ was) (inside_of_cell d o.cell body was)

pub other_stays : (d : Design) (s : Split) → AreNew d [] s.copies → (id : CellId) → ((m : Copy) → Member s.copies m → id ≢ m.id) → ((o : Occurrence) → Member s.kept o → id ≢ o.cell)
    → cell_at (split_design d s) id ≡ cell_at d id
other_stays d s new id no_copy no_kept =
    halves d s id
    ∙ turned_stays d s.copies (owners s) (half d s) id
    (λ o member same. elim (Member-append_cases (map copy_owner s.copies) (map kept_owner s.kept) o member) [
      | inl copy ↦ let m = Member-from_map copy_owner s.copies o copy in no_copy m.0 m.1 (same ∙ ap (λ (v : Owner). v.own) (sym m.2))
      | inr kept ↦ let k = Member-from_map kept_owner s.kept o kept in no_kept k.0 k.1 (same ∙ ap (λ (v : Owner). v.own) (sym k.2))
    ])
    ∙ half_stays d s new id no_copy

-- ---- the own cell of an occurrence

abbrev pub own : Split → List ℕ → CellId → CellId
own s path c = own_cell s.copies path c

-- the copy is of the cell that is at its path
pub of_is : (d : Design) (r : CellId) (s : Split) → IsSplit d r s → (m : Copy) → Member s.copies m → (path : List ℕ) (c : CellId) → m.path ≡ path → Reaches d r path c → m.of ≡ c
of_is d r s is m member path c at reached = Some-same (cell_along d r path) (subst (λ p. Reaches d r p m.of) at (is.copies_reached m member)) reached

-- a body with the ports of another and its contents with instances turned
pub record IsTurned (all : List Copy) (path : List ℕ) (old new : CellBody) : Type 0 where
  pub ports : new.ports ≡ old.ports
  pub contents : new.contents ≡ option_map (turned all path) old.contents

contents_same : (all : List Copy) (path : List ℕ) → ((i : ℕ) (cell : CellId) → own_cell all (path ++ i ∷ []) cell ≡ cell)
    → (contents : Option Contents) → contents ≡ option_map (turned all path) contents
contents_same all path same None = refl
contents_same all path same (Some contents) =
    let insts = all_same all path same 0 contents.insts in
    λ t. Some (record { insts = sym insts t; nets = contents.nets })

pub own_body : (d : Design) (r : CellId) (s : Split) → IsSplit d r s → (path : List ℕ) (c : CellId) → Reaches d r path c → (body : CellBody) → cell_at d c ≡ Some body
    → (new : CellBody) × (cell_at (split_design d s) (own s path c) ≡ Some new) × IsTurned s.copies path body new
own_body d r s is path c reached body was = elim (copy-cases s.copies path) [
  | inr found ↦
      let m = found.0 in
      let of = of_is d r s is m found.2 path c found.3 reached in
      let there = copy_is_there d r s is m found.2 body (subst (λ k. cell_at d k ≡ Some body) (sym of) was) in
      let id : own s path c ≡ m.id = ap (λ (o : Option Copy). option_map_or (λ copy. copy.id) o c) found.1 in (
        copied s m body,
        ap (cell_at (split_design d s)) id ∙ there,
        record { ports = refl; contents = ap (λ p. option_map (turned s.copies p) body.contents) found.3 },
      )
  | inl absent ↦
      let id : own s path c ≡ c = ap (λ (o : Option Copy). option_map_or (λ copy. copy.id) o c) absent.0 in
      elim (find-cases (λ (o : Occurrence). same_path o.path path) s.kept) [
        | inr kept ↦
            let o = kept.0 in
            let at = same_path-true o.path path kept.3 in
            let same : o.cell ≡ c = Some-same (cell_along d r path) (subst (λ p. Reaches d r p o.cell) at (is.kept_reached o kept.2)) reached in
            let there = kept_is_there d r s is o kept.2 body (subst (λ k. cell_at d k ≡ Some body) (sym same) was) in (
              turned_body s.copies o.path body,
              ap (cell_at (split_design d s)) (id ∙ sym same) ∙ there,
              record { ports = refl; contents = ap (λ p. option_map (turned s.copies p) body.contents) at },
            )
        | inl none ↦
            let unkept : IsKept s path → ⊥ = λ k. true≢false (sym (ap (λ p. same_path p path) k.2 ∙ same_path-refl path) ∙ none.1 k.0 k.1) in
            let uncopied : HasCopy s path → ⊥ = λ k. absent.1 k.0 k.1 k.2 in
            let never : IsKept s path ⊎ HasCopy s path → ⊥ = λ k. elim k [ inl a ↦ unkept a | inr b ↦ uncopied b ] in
            let apart : (o : Occurrence) → Member s.kept o → c ≢ o.cell = λ o member same. never (is.mine path o member (subst (λ k. Reaches d r path k) same reached)) in
            let there = other_stays d s is.new c (λ m copy. new_apart d s.copies is.new m copy c (is.cells path c reached)) apart ∙ was in
            let untouched : (i : ℕ) (cell : CellId) → own_cell s.copies (path ++ i ∷ []) cell ≡ cell = λ i cell. elim (copy-cases s.copies (path ++ i ∷ [])) [
              | inl gone ↦ ap (λ (o : Option Copy). option_map_or (λ copy. copy.id) o cell) gone.0
              | inr found ↦ absurd (never (is.parents found.0 found.2 path i found.3))
            ] in (
              body,
              ap (cell_at (split_design d s)) id ∙ there,
              record { ports = refl; contents = contents_same s.copies path untouched body.contents },
            )
      ]
]
