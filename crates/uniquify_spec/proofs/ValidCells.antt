-- The cells of a design after a split: each comes from one before, with instances that are moved to copies.
use Rattle.std.proofs.Common.{◌≡◌, ◌≢◌, ◌≤◌, ◌⊎◌, ◌+◌, ℕ, zero, suc, List, [], ◌∷◌, ◌++◌, map, length, refl, sym, ap, subst, ◌∙◌, inl, inr, arith, Option, Some, None, slice_get}
use Rattle.std.specs.Prelude.{IsSomeAnd, IfSome, sum_by}
use Rattle.std.specs.List.{All, AllByRecursion, enumerate_from, flat_map}
use Rattle.std.specs.Option.{option_map, option_map_or}
use Rattle.std.proofs.lemmas.Bool.{true≢false}
use Rattle.std.proofs.lemmas.Option.{none-some}
use Rattle.std.proofs.lemmas.List.Elements.{recursion_from_All, All-from_recursion}
use Rattle.netlist_schema.specs.Design.{Design, cell_at, insts_in, insts_of, nets_in, nets_of, ends_of, port_width}
use Rattle.netlist_schema.specs.Hierarchy.{IsCell}
use Rattle.netlist_schema.specs.Names.{AreDistinct, HasDistinctKeys}
use Rattle.netlist_schema.specs.Typed.{IsBytes, IsTypedCell, IsTypedInst, IsTypedName, IsTypedNet, IsTypedPort, IsTypedProperty}
use Rattle.netlist_schema.specs.Types.{CellBody, CellId, Contents, End, Inst, LibId, Net, Port}
use Rattle.netlist_schema.specs.Valid.{HasBit, IsEndAt, IsEndOf, IsValidCell}
use Rattle.netlist_schema.proofs.WithCell.{All-weaker}
use Rattle.edit_rules_spec.specs.Objects.{Grown, Outside, outside_of}
use Rattle.edit_rules_spec.specs.Paths.{same_cell}
use Rattle.edit_rules_spec.proofs.Closed.{is_cell_found}
use Rattle.edit_rules_spec.proofs.Growing.{edited_is_grown, outside_found}
use Rattle.edit_rules_spec.proofs.Levels.{same_cell-refl, is_same_cell}
use Rattle.flat_spec.specs.Occurrences.{Occurrence}
use Rattle.flat_spec.specs.Paths.{Reaches}
use Rattle.flat_spec.proofs.ListLemmas.{Member}
use Rattle.flat_spec.proofs.PathLemmas.{Some-same, Reaches-append, Reaches-cons}
use Rattle.uniquify_spec.proofs.SplitAlike.{insts_turned}
use Rattle.uniquify_spec.specs.Alike.{unplaced}
use Rattle.uniquify_spec.specs.Copies.{Copy}
use Rattle.uniquify_spec.specs.Split.{Split, turned_inst, turned, split_edits}
use Rattle.uniquify_spec.proofs.CopyLists.{AreNew, copy-cases, find-cases}
use Rattle.uniquify_spec.proofs.KeptCells.{turned_body}
use Rattle.uniquify_spec.proofs.NewCells.{body_of}
use Rattle.uniquify_spec.proofs.SplitCells.{IsSplit, split_design, own, of_is, copied, copy_is_there, kept_is_there, other_stays}

-- ---- cells that stand for cells

-- the new cell is the old one, or a copy of it
abbrev pub StandsFor : Split → CellId → CellId → Type 0
StandsFor s k c = (k ≡ c) ⊎ ((m : Copy) × Member s.copies m × (m.id ≡ k) × (m.of ≡ c))

-- it is there, with the same ports
pub stands_there : (d : Design) (r : CellId) (s : Split) → IsSplit d r s → (k c : CellId) → StandsFor s k c → (body : CellBody) → cell_at d c ≡ Some body
    → (new : CellBody) × (cell_at (split_design d s) k ≡ Some new) × (new.ports ≡ body.ports)
stands_there d r s is k c stands body was = elim stands [
  | inl same ↦
      let grown : Grown d (split_design d s) = edited_is_grown (split_edits d s) d in
      let found = outside_found (cell_at (split_design d s) c) (outside_of body) (grown.cells c (outside_of body) (ap (option_map outside_of) was)) in
      (found.0, ap (cell_at (split_design d s)) same ∙ found.1, ap (λ (o : Outside). o.ports) found.2)
  | inr copy ↦
      let m = copy.0 in
      let there = copy_is_there d r s is m copy.1 body (subst (λ x. cell_at d x ≡ Some body) (sym copy.3) was) in
      (copied s m body, ap (cell_at (split_design d s)) (sym copy.2) ∙ there, refl)
]

new_lib : (d : Design) (ms before : List Copy) → AreNew d before ms → (m : Copy) → Member ms m → m.id.lib ≡ m.of.lib
new_lib d [] before new m member = absurd member
new_lib d (v ∷ ms) before new m member = elim member [
  | inl e ↦ subst (λ (x : Copy). x.id.lib ≡ x.of.lib) e new.0.lib
  | inr rest ↦ new_lib d ms (before ++ v ∷ []) new.1 m rest
]

stands_lib : (d : Design) (r : CellId) (s : Split) → IsSplit d r s → (k c : CellId) → StandsFor s k c → k.lib ≡ c.lib
stands_lib d r s is k c stands = elim stands [
  | inl same ↦ ap (λ (id : CellId). id.lib) same
  | inr copy ↦ ap (λ (id : CellId). id.lib) (sym copy.2) ∙ new_lib d s.copies [] is.new copy.0 copy.1 ∙ ap (λ (id : CellId). id.lib) copy.3
]

own_stands : (d : Design) (r : CellId) (s : Split) → IsSplit d r s → (path : List ℕ) (c : CellId) → Reaches d r path c → StandsFor s (own s path c) c
own_stands d r s is path c reached = elim (copy-cases s.copies path) [
  | inl absent ↦ inl (ap (λ (o : Option Copy). option_map_or (λ copy. copy.id) o c) absent.0)
  | inr found ↦ inr (found.0, found.2, sym (ap (λ (o : Option Copy). option_map_or (λ copy. copy.id) o c) found.1), of_is d r s is found.0 found.2 path c found.3 reached)
]

-- ---- instances that are moved

pub record IsMovedInst (s : Split) (x y : Inst) : Type 0 where
  pub same : unplaced y ≡ unplaced x
  pub stands : StandsFor s y.of x.of

abbrev pub AreMoved : Split → List Inst → List Inst → Type 0
AreMoved s [] [] = Unit {0}
AreMoved s (x ∷ xs) (y ∷ ys) = IsMovedInst s x y × AreMoved s xs ys
AreMoved s [] (y ∷ ys) = ⊥
AreMoved s (x ∷ xs) [] = ⊥

moved_refl : (s : Split) (xs : List Inst) → AreMoved s xs xs
moved_refl s [] = tt
moved_refl s (x ∷ xs) = (record { same = refl; stands = inl refl }, moved_refl s xs)

moved_turned : (s : Split) (path : List ℕ) (k : ℕ) (xs : List Inst) → ((i : ℕ) (x : Inst) → slice_get xs i ≡ Some x → StandsFor s (own s (path ++ (k + i) ∷ []) x.of) x.of)
    → AreMoved s xs (map (turned_inst s.copies path) (enumerate_from k xs))
moved_turned s path k [] stands = tt
moved_turned s path k (x ∷ xs) stands =
    let n : k + 0 ≡ k = omega arith in (
      record { same = refl; stands = subst (λ j. StandsFor s (own s (path ++ j ∷ []) x.of) x.of) n (stands 0 x refl) },
      moved_turned s path (k + 1) xs (λ i y at.
          let m : k + suc i ≡ (k + 1) + i = omega arith in
          subst (λ j. StandsFor s (own s (path ++ j ∷ []) y.of) y.of) m (stands (suc i) y at)),
    )

-- what does not speak of cells is kept
pub moved_map : {B : Type 0} (s : Split) (f : Inst → B) → ((x y : Inst) → unplaced y ≡ unplaced x → f y ≡ f x) → (xs ys : List Inst) → AreMoved s xs ys → map f ys ≡ map f xs
moved_map s f keeps [] [] moved = refl
moved_map s f keeps [] (y ∷ ys) moved = absurd moved
moved_map s f keeps (x ∷ xs) [] moved = absurd moved
moved_map s f keeps (x ∷ xs) (y ∷ ys) moved =
    let here = keeps x y moved.0.same in
    let rest = moved_map s f keeps xs ys moved.1 in
    λ t. here t ∷ rest t

moved_length : (s : Split) (xs ys : List Inst) → AreMoved s xs ys → length ys ≡ length xs
moved_length s [] [] moved = refl
moved_length s [] (y ∷ ys) moved = absurd moved
moved_length s (x ∷ xs) [] moved = absurd moved
moved_length s (x ∷ xs) (y ∷ ys) moved = ap suc (moved_length s xs ys moved.1)

moved_each : (s : Split) (P Q : Inst → Type 0) → ((x y : Inst) → IsMovedInst s x y → P x → Q y) → (xs ys : List Inst) → AreMoved s xs ys → AllByRecursion P xs → AllByRecursion Q ys
moved_each s P Q follows [] [] moved all = tt
moved_each s P Q follows [] (y ∷ ys) moved all = absurd moved
moved_each s P Q follows (x ∷ xs) [] moved all = absurd moved
moved_each s P Q follows (x ∷ xs) (y ∷ ys) moved all = (follows x y moved.0 all.0, moved_each s P Q follows xs ys moved.1 all.1)

pub moved_all : (s : Split) (P Q : Inst → Type 0) → ((x y : Inst) → IsMovedInst s x y → P x → Q y) → (xs ys : List Inst) → AreMoved s xs ys → All P xs → All Q ys
moved_all s P Q follows xs ys moved all = All-from_recursion Q ys (moved_each s P Q follows xs ys moved (recursion_from_All P xs all))

pub moved_at : (s : Split) (xs ys : List Inst) → AreMoved s xs ys → (i : ℕ) (x : Inst) → slice_get xs i ≡ Some x → (y : Inst) × (slice_get ys i ≡ Some y) × IsMovedInst s x y
moved_at s [] [] moved i x at = absurd (none-some x at)
moved_at s [] (y ∷ ys) moved i x at = absurd moved
moved_at s (x ∷ xs) [] moved i v at = absurd moved
moved_at s (x ∷ xs) (y ∷ ys) moved zero v at = (y, refl, subst (λ z. IsMovedInst s z y) (Some-same (Some x) refl at) moved.0)
moved_at s (x ∷ xs) (y ∷ ys) moved (suc i) v at = moved_at s xs ys moved.1 i v at

-- ---- cells that are moved

abbrev blank : CellBody → CellBody
blank body = record body { name = record { id = []; shown = None }; contents = None }

-- the new body is that of a cell before, with another name where it is a copy, and with instances moved
pub record IsMovedCell (d : Design) (s : Split) (id : CellId) (new : CellBody) : Type 0 where
  pub cell : CellId
  pub old : CellBody
  pub was : cell_at d cell ≡ Some old
  pub lib : id.lib ≡ cell.lib
  pub shell : blank new ≡ blank old
  pub nets : nets_of new ≡ nets_of old
  pub insts : AreMoved s (insts_of old) (insts_of new)
  pub name : (new.name ≡ old.name) ⊎ ((m : Copy) × Member s.copies m × (new.name ≡ m.name))

turned_nets : (all : List Copy) (path : List ℕ) (o : Option Contents) → nets_in (option_map (turned all path) o) ≡ nets_in o
turned_nets all path None = refl
turned_nets all path (Some contents) = refl

-- in an occurrence that has a cell of its own
moved_body : (d : Design) (r : CellId) (s : Split) → IsSplit d r s → (path : List ℕ) (c : CellId) → Reaches d r path c → (body : CellBody) → cell_at d c ≡ Some body
    → AreMoved s (insts_of body) (insts_in (option_map (turned s.copies path) body.contents))
moved_body d r s is path c reached body was =
    subst (λ ys. AreMoved s (insts_of body) ys) (sym (insts_turned s.copies path body.contents))
    (moved_turned s path 0 (insts_of body) (λ i x at.
    let n : i ≡ 0 + i = omega arith in
    let there : slice_get (option_map_or insts_of (cell_at d c) []) i ≡ Some x = ap (λ o. slice_get (option_map_or insts_of o []) i) was ∙ at in
    let below : Reaches d r (path ++ i ∷ []) x.of = Reaches-append d r c x.of path (i ∷ []) reached (Reaches-cons d c i x [] x.of there refl) in
    subst (λ j. StandsFor s (own s (path ++ j ∷ []) x.of) x.of) n (own_stands d r s is (path ++ i ∷ []) x.of below)))

moved_as : (d : Design) (s : Split) (id : CellId) (a b : CellBody) → Some a ≡ Some b → IsMovedCell d s id a → IsMovedCell d s id b
moved_as d s id a b same moved = subst (λ x. IsMovedCell d s id x) (Some-same (Some a) refl same) moved

-- each cell after the split comes from one before
pub moved_cell : (d : Design) (r : CellId) (s : Split) → IsSplit d r s → (id : CellId) (new : CellBody) → cell_at (split_design d s) id ≡ Some new → IsMovedCell d s id new
moved_cell d r s is id new found = elim (find-cases (λ (m : Copy). same_cell m.id id) s.copies) [
  | inr some ↦
      let m = some.0 in
      let at = is_same_cell m.id id some.3 in
      let reached = is.copies_reached m some.2 in
      let body = body_of d m.of (is.cells m.path m.of reached) in
      let there = copy_is_there d r s is m some.2 body.0 body.1 in
      moved_as d s id (copied s m body.0) new (sym there ∙ ap (cell_at (split_design d s)) at ∙ found)
      (record {
        cell = m.of;
        old = body.0;
        was = body.1;
        lib = ap (λ (x : CellId). x.lib) (sym at) ∙ new_lib d s.copies [] is.new m some.2;
        shell = refl;
        nets = turned_nets s.copies m.path body.0.contents;
        insts = moved_body d r s is m.path m.of reached body.0 body.1;
        name = inr (m, some.2, refl);
      })
  | inl none ↦
      let uncopied : (m : Copy) → Member s.copies m → id ≢ m.id = λ m member same. true≢false (sym (same_cell-refl m.id) ∙ ap (same_cell m.id) (sym same) ∙ none.1 m member) in
      elim (find-cases (λ (o : Occurrence). same_cell o.cell id) s.kept) [
        | inr kept ↦
            let o = kept.0 in
            let at = is_same_cell o.cell id kept.3 in
            let reached = is.kept_reached o kept.2 in
            let body = body_of d o.cell (is.cells o.path o.cell reached) in
            let there = kept_is_there d r s is o kept.2 body.0 body.1 in
            moved_as d s id (turned_body s.copies o.path body.0) new (sym there ∙ ap (cell_at (split_design d s)) at ∙ found)
            (record {
              cell = o.cell;
              old = body.0;
              was = body.1;
              lib = ap (λ (x : CellId). x.lib) (sym at);
              shell = refl;
              nets = turned_nets s.copies o.path body.0.contents;
              insts = moved_body d r s is o.path o.cell reached body.0 body.1;
              name = inl refl;
            })
        | inl unkept ↦
            let apart : (o : Occurrence) → Member s.kept o → id ≢ o.cell = λ o member same. true≢false (sym (same_cell-refl o.cell) ∙ ap (same_cell o.cell) (sym same) ∙ unkept.1 o member) in
            record {
              cell = id;
              old = new;
              was = sym (other_stays d s is.new id uncopied apart) ∙ found;
              lib = refl;
              shell = refl;
              nets = refl;
              insts = moved_refl s (insts_of new);
              name = inl refl;
            }
      ]
]

-- ---- such a cell is valid

moved_end : (d : Design) (r : CellId) (s : Split) → IsSplit d r s → (old new : CellBody) → new.ports ≡ old.ports → AreMoved s (insts_of old) (insts_of new)
    → (inst : Option ℕ) (port bit : ℕ) → IsEndAt d old inst port bit → IsEndAt (split_design d s) new inst port bit
moved_end d r s is old new ports moved None port bit at = subst (λ ps. HasBit ps port bit) (sym ports) at
moved_end d r s is old new ports moved (Some place) port bit at = found (slice_get (insts_of old) place) refl at
  where
    of_cell : (x y : Inst) → IsMovedInst s x y → (o : Option CellBody) → cell_at d x.of ≡ o → IsSomeAnd o (λ of. HasBit of.ports port bit)
        → IsSomeAnd (cell_at (split_design d s) y.of) (λ of. HasBit of.ports port bit)
    of_cell x y move None is_none has = absurd has
    of_cell x y move (Some body) was has =
        let there = stands_there d r s is y.of x.of move.stands body was in
        subst (λ (o : Option CellBody). IsSomeAnd o (λ of. HasBit of.ports port bit)) (sym there.1) (subst (λ ps. HasBit ps port bit) (sym there.2) has)

    found : (o : Option Inst) → slice_get (insts_of old) place ≡ o → IsSomeAnd o (λ inst. IsSomeAnd (cell_at d inst.of) (λ of. HasBit of.ports port bit))
        → IsSomeAnd (slice_get (insts_of new) place) (λ inst. IsSomeAnd (cell_at (split_design d s) inst.of) (λ of. HasBit of.ports port bit))
    found None is_none has = absurd has
    found (Some x) there has =
        let y = moved_at s (insts_of old) (insts_of new) moved place x there in
        subst (λ (o : Option Inst). IsSomeAnd o (λ inst. IsSomeAnd (cell_at (split_design d s) inst.of) (λ of. HasBit of.ports port bit))) (sym y.1)
        (of_cell x y.0 y.2 (cell_at d x.of) refl has)

pub moved_is_valid : (d : Design) (r : CellId) (s : Split) → IsSplit d r s → (id : CellId) (new : CellBody) (moved : IsMovedCell d s id new)
    → IsValidCell d moved.cell moved.old → IsValidCell (split_design d s) id new
moved_is_valid d r s is id new moved was =
    let old = moved.old in
    let ports : new.ports ≡ old.ports = ap (λ (b : CellBody). b.ports) moved.shell in
    let ends : ends_of new ≡ ends_of old = ap (λ nets. flat_map (λ (net : Net). net.ends) nets) moved.nets in
    let names : map (λ (inst : Inst). inst.name.id) (insts_of new) ≡ map (λ (inst : Inst). inst.name.id) (insts_of old) =
    moved_map s (λ (inst : Inst). inst.name.id) (λ x y same. ap (λ (i : Inst). i.name.id) same) (insts_of old) (insts_of new) moved.insts in
    record {
      limits = record {
        ports = subst (λ ps. length ps ≤ 65536) (sym ports) was.limits.ports;
        bits = subst (λ ps. sum_by port_width ps ≤ 1048576) (sym ports) was.limits.bits;
        insts = subst (λ n. n ≤ 1048576) (sym (moved_length s (insts_of old) (insts_of new) moved.insts)) was.limits.insts;
        nets = subst (λ nets. length nets ≤ 1048576) (sym moved.nets) was.limits.nets;
        ends = subst (λ es. length es ≤ 4194304) (sym ends) was.limits.ends;
      };
      names = record {
        ports = subst (λ (ps : List Port). AreDistinct (map (λ port. port.name.id) ps)) (sym ports) was.names.ports;
        insts = subst (λ (ns : List (List ℕ)). AreDistinct ns) (sym names) was.names.insts;
        nets = subst (λ (nets : List Net). AreDistinct (map (λ net. net.name.id) nets)) (sym moved.nets) was.names.nets;
        properties = subst (λ ps. HasDistinctKeys ps) (sym (ap (λ (b : CellBody). b.properties) moved.shell)) was.names.properties;
        view_properties = subst (λ ps. HasDistinctKeys ps) (sym (ap (λ (b : CellBody). b.view_properties) moved.shell)) was.names.view_properties;
        interface_properties = subst (λ ps. HasDistinctKeys ps) (sym (ap (λ (b : CellBody). b.interface_properties) moved.shell)) was.names.interface_properties;
        port_properties = subst (λ (ps : List Port). All (λ port. HasDistinctKeys port.properties) ps) (sym ports) was.names.port_properties;
        inst_properties = moved_all s (λ (x : Inst). HasDistinctKeys x.properties) (λ (x : Inst). HasDistinctKeys x.properties)
            (λ x y move has. subst (λ ps. HasDistinctKeys ps) (sym (ap (λ (i : Inst). i.properties) move.same)) has) (insts_of old) (insts_of new) moved.insts was.names.inst_properties;
        net_properties = subst (λ (nets : List Net). All (λ net. HasDistinctKeys net.properties) nets) (sym moved.nets) was.names.net_properties;
      };
      placed = moved_all s (λ (x : Inst). IsCell d x.of) (λ (x : Inst). IsCell (split_design d s) x.of)
          (λ x y move there.
          let body = body_of d x.of there in
          let new = stands_there d r s is y.of x.of move.stands body.0 body.1 in
          is_cell_found (split_design d s) y.of new.0 new.1) (insts_of old) (insts_of new) moved.insts was.placed;
      not_later = moved_all s (λ (x : Inst). x.of.lib.0 ≤ moved.cell.lib.0) (λ (x : Inst). x.of.lib.0 ≤ id.lib.0)
          (λ x y move less.
          let of = ap (λ (l : LibId). l.0) (stands_lib d r s is y.of x.of move.stands) in
          let here = ap (λ (l : LibId). l.0) moved.lib in
          omega (arith, less, of, here)) (insts_of old) (insts_of new) moved.insts was.not_later;
      ends = subst (λ es. All (IsEndOf (split_design d s) new) es) (sym ends)
          (All-weaker (IsEndOf d old) (IsEndOf (split_design d s) new) (ends_of old) (λ end at. moved_end d r s is old new ports moved.insts end.inst end.port end.bit at) was.ends);
      joined_once = subst (λ (es : List End). AreDistinct es) (sym ends) was.joined_once;
    }

-- and typed, where its name is
pub moved_is_typed : (d : Design) (s : Split) (id : CellId) (new : CellBody) (moved : IsMovedCell d s id new) → IsTypedCell moved.old → IsTypedName new.name → IsTypedCell new
moved_is_typed d s id new moved was name =
    let old = moved.old in
    record {
      name = name;
      properties = subst (λ ps. All IsTypedProperty ps) (sym (ap (λ (b : CellBody). b.properties) moved.shell)) was.properties;
      view = subst IsTypedName (sym (ap (λ (b : CellBody). b.view) moved.shell)) was.view;
      view_properties = subst (λ ps. All IsTypedProperty ps) (sym (ap (λ (b : CellBody). b.view_properties) moved.shell)) was.view_properties;
      interface_properties = subst (λ ps. All IsTypedProperty ps) (sym (ap (λ (b : CellBody). b.interface_properties) moved.shell)) was.interface_properties;
      ports = subst (λ ps. All IsTypedPort ps) (sym (ap (λ (b : CellBody). b.ports) moved.shell)) was.ports;
      insts = moved_all s IsTypedInst IsTypedInst (λ x y move typed. record {
        name = subst IsTypedName (sym (ap (λ (i : Inst). i.name) move.same)) typed.name;
        designator = subst (λ o. IfSome o IsBytes) (sym (ap (λ (i : Inst). i.designator) move.same)) typed.designator;
        properties = subst (λ ps. All IsTypedProperty ps) (sym (ap (λ (i : Inst). i.properties) move.same)) typed.properties;
      }) (insts_of old) (insts_of new) moved.insts was.insts;
      nets = subst (λ nets. All IsTypedNet nets) (sym moved.nets) was.nets;
    }
