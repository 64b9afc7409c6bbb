-- What a name and a path lead to, in a valid design.
use Rattle.std.proofs.Common.{◌≡◌, ℕ, true, false, List, [], ◌∷◌, Option, Some, None, refl, sym, ap, subst, ◌∙◌, slice_get, ◌≢◌, suc, ◌+◌, ◌<◌, Bool, arith, map, length, zero, cond, slice_index_or, ◌↔◌}
use Rattle.std.specs.Prelude.{IsTrue}
use Rattle.std.specs.List.{Contains, AllByRecursion, position_from}
use Rattle.std.specs.Option.{option_map, option_map_or, option_and_then}
use Rattle.std.proofs.lemmas.Option.{slice_get_within, get_or_from_slice_get}
use Rattle.netlist_schema.specs.Design.{Design, cell_at, insts_of, cells_in}
use Rattle.netlist_schema.specs.Hierarchy.{HasInst, Resolves, insts_at}
use Rattle.netlist_schema.specs.Types.{CellBody, CellId, Inst, LibId}
use Rattle.edit_rules_spec.specs.Find.{cell_named, inst_named, inst_place, is_name, place_of, lib_named, cell_in}
use Rattle.edit_rules_spec.specs.Paths.{resolves}
use Rattle.edit_rules_spec.specs.declared.reply.CellName.{CellName}
use Rattle.edit_rules_spec.proofs.Lists.{found_key, apart_of, Apart}
use Rattle.edit_rules_spec.proofs.Refusals.{same_name, is_name-refl}
use Rattle.netlist_schema.specs.Names.{AreDistinct, cell_names}
use Rattle.netlist_schema.specs.Valid.{IsValid}
use Rattle.netlist_schema.proofs.Cells.{cell_of_inst}

pub inst_at : (insts : List Inst) (place : Option ℕ) (inst : Inst) → option_and_then (slice_get insts) place ≡ Some inst → Contains insts inst
inst_at insts None inst is = cc
inst_at insts (Some k) inst is = (k, slice_get_within insts k inst is, get_or_from_slice_get insts k inst inst is)

pub named_inst : (name : List ℕ) (insts : List Inst) (inst : Inst) → inst_named name insts ≡ Some inst → Contains insts inst
named_inst name insts inst is = inst_at insts (inst_place name insts) inst is

-- a path that leads somewhere
pub next_inst : (o : Option Inst) (f : Inst → Bool) → option_map_or f o false ≡ true → (inst : Inst) × (o ≡ Some inst) × (f inst ≡ true)
next_inst None f is = let never : false ≡ true = is in cc
next_inst (Some inst) f is = (inst, refl, is)

pub named_item : {X : Type 0} (f : X → List ℕ) (name : List ℕ) (i k : ℕ) (xs : List X) → position_from (λ other. is_name other name) i (map f xs) ≡ Some k → (x : X) × (j : ℕ) × (k ≡ i + j) × (slice_get xs j ≡ Some x) × (f x ≡ name)
named_item f name i k [] is = cc
named_item {X} f name i k (x ∷ xs) is =
    found_key (is_name (f x) name) i k (position_from (λ other. is_name other name) (i + 1) (map f xs)) ((y : X) × (j : ℕ) × (k ≡ i + j) × (slice_get (x ∷ xs) j ≡ Some y) × (f y ≡ name))
    (λ test here. (x, 0, omega arith, refl, same_name (f x) name test))
    (λ later. let more = named_item f name (i + 1) k xs later in (more.0, suc more.1, omega (arith, more.2), more.3, more.4)) is

pub inst_at_place : (insts : List Inst) (name : List ℕ) (k : ℕ) → inst_place name insts ≡ Some k → (inst : Inst) × (slice_get insts k ≡ Some inst) × (inst.name.id ≡ name)
inst_at_place insts name k is =
    let item = named_item (λ (inst : Inst). inst.name.id) name 0 k insts is in
    let same : k ≡ item.1 = omega (arith, item.2) in
    (item.0, ap (slice_get insts) same ∙ item.3, item.4)

pub name_of_found : (insts : List Inst) (name : List ℕ) (place : Option ℕ) (inst : Inst) → inst_place name insts ≡ place → inst_named name insts ≡ Some inst → inst.name.id ≡ name
name_of_found insts name place inst at is = of_place place at
  where
    of_place : (p : Option ℕ) → inst_place name insts ≡ p → inst.name.id ≡ name
    of_place None none = let never : ◌≡◌ {A = Option Inst} None (Some inst) = rw none at is in cc
    of_place (Some k) some =
        let item = inst_at_place insts name k some in
        let found : slice_get insts k ≡ Some inst = rw some at is in
        let both : ◌≡◌ {A = Option Inst} (Some item.0) (Some inst) = sym item.1 ∙ found in
        let same : item.0 ≡ inst = cc in
        ap (λ (i : Inst). i.name.id) (sym same) ∙ item.2

pub inst_has_name : (insts : List Inst) (name : List ℕ) (inst : Inst) → inst_named name insts ≡ Some inst → inst.name.id ≡ name
inst_has_name insts name inst is = name_of_found insts name (inst_place name insts) inst refl is

pub leads : (d : Design) (path : List (List ℕ)) (at : CellId) → resolves d at path ≡ true → Resolves d at path
leads d [] at is = tt
leads d (step ∷ steps) at is =
    let next = next_inst (inst_named step (insts_at d at)) (λ inst. resolves d inst.of steps) is in
    (next.0, named_inst step (insts_at d at) next.0 next.1, inst_has_name (insts_at d at) step next.0 next.1, leads d steps next.0.of next.2)

-- a path that does not go through the instance still leads where it led
pub not_named : (b : Bool) (name other : List ℕ) → is_name name other ≡ b → name ≢ other → b ≡ false
not_named true name other is apart = absurd (apart (same_name name other is))
not_named false name other is apart = refl

pub each_at : (P : List ℕ → Type 0) (insts : List Inst) (inst : Inst) (k : ℕ) → k < length insts → slice_index_or insts k inst ≡ inst → AllByRecursion P (map (λ (i : Inst). i.name.id) insts) → P inst.name.id
each_at P [] inst k within is all = absurd (omega arith)
each_at P (i ∷ insts) inst zero within is all = subst (λ (x : Inst). P x.name.id) is all.0
each_at P (i ∷ insts) inst (suc k) within is all = each_at P insts inst k (omega arith) is all.1

pub place_at : (n : ℕ) (insts : List Inst) (inst : Inst) (name : List ℕ) (k : ℕ) → k < length insts → slice_index_or insts k inst ≡ inst → Apart (map (λ (i : Inst). i.name.id) insts) → inst.name.id ≡ name → position_from (λ other. is_name other name) n (map (λ (i : Inst). i.name.id) insts) ≡ Some (n + k)
place_at n [] inst name k within is apart same = absurd (omega arith)
place_at n (i ∷ insts) inst name zero within is apart same =
    let here : is_name i.name.id name ≡ true = subst (λ (x : List ℕ). is_name i.name.id x ≡ true) (ap (λ (x : Inst). x.name.id) is ∙ same) (is_name-refl i.name.id) in
    let place : n ≡ n + 0 = omega arith in
    ap (λ (b : Bool). cond b (Some n) (position_from (λ other. is_name other name) (n + 1) (map (λ (x : Inst). x.name.id) insts))) here ∙ ap (λ (m : ℕ). Some m) place
place_at n (i ∷ insts) inst name (suc k) within is apart same =
    let other : i.name.id ≢ inst.name.id = each_at (λ x. i.name.id ≢ x) insts inst k (omega arith) is apart.0 in
    let here : is_name i.name.id name ≡ false = not_named (is_name i.name.id name) i.name.id name refl (λ eq. other (eq ∙ sym same)) in
    let place : (n + 1) + k ≡ n + suc k = omega arith in
    ap (λ (b : Bool). cond b (Some n) (position_from (λ x. is_name x name) (n + 1) (map (λ (x : Inst). x.name.id) insts))) here
    ∙ place_at (n + 1) insts inst name k (omega arith) is apart.1 same ∙ ap (λ (m : ℕ). Some m) place

pub get_at : (insts : List Inst) (inst : Inst) (k : ℕ) → k < length insts → slice_index_or insts k inst ≡ inst → slice_get insts k ≡ Some inst
get_at [] inst k within is = absurd (omega arith)
get_at (i ∷ insts) inst zero within is = ap (λ (x : Inst). Some x) is
get_at (i ∷ insts) inst (suc k) within is = get_at insts inst k (omega arith) is

pub found_named : (insts : List Inst) (inst : Inst) (name : List ℕ) → Contains insts inst → AreDistinct (map (λ (i : Inst). i.name.id) insts) → inst.name.id ≡ name → inst_named name insts ≡ Some inst
found_named insts inst name has distinct same =
    let place = place_at 0 insts inst name has.0 has.1 has.2 (apart_of (map (λ (i : Inst). i.name.id) insts) distinct) same in
    let zero_more : 0 + has.0 ≡ has.0 = omega arith in
    ap (option_and_then (slice_get insts)) (place ∙ ap (λ (m : ℕ). Some m) zero_more) ∙ get_at insts inst has.0 has.1 has.2

pub named_at : (d : Design) (at : CellId) (inst : Inst) (name : List ℕ) → IsValid d → HasInst d at inst → inst.name.id ≡ name → inst_named name (insts_at d at) ≡ Some inst
named_at d at inst name valid has same =
    let found = cell_of_inst d at inst has in
    let insts : insts_at d at ≡ insts_of found.0 = ap (λ (o : Option CellBody). option_map_or insts_of o []) found.1 in
    ap (inst_named name) insts ∙ found_named (insts_of found.0) inst name found.2 (valid.cells at found.0 found.1).names.insts same

-- the test whether a path leads somewhere
pub found_leads : (d : Design) (path : List (List ℕ)) (at : CellId) → IsValid d → Resolves d at path → resolves d at path ≡ true
found_leads d [] at valid is = refl
found_leads d (step ∷ steps) at valid is =
    ap (λ (o : Option Inst). option_map_or (λ inst. resolves d inst.of steps) o false) (named_at d at is.0 step valid is.1 is.2) ∙ found_leads d steps is.0.of valid is.3

pub path_test : (d : Design) (at : CellId) (path : List (List ℕ)) → IsValid d → IsTrue (resolves d at path) ↔ Resolves d at path
path_test d at path valid = (λ is. leads d path at is, λ is. found_leads d path at valid is)

-- a name that is found has an item at its place
pub tested : (b : Bool) (i k : ℕ) (rest : Option ℕ) (P : Type 0) → (i ≡ k → P) → (rest ≡ Some k → P) → cond b (Some i) rest ≡ Some k → P
tested true i k rest P here later is = here (cc)
tested false i k rest P here later is = later is

pub found_item : {X Y : Type 0} (test : Y → Bool) (f : X → Y) (i k : ℕ) (xs : List X) → position_from test i (map f xs) ≡ Some k → (x : X) × (j : ℕ) × (k ≡ i + j) × (slice_get xs j ≡ Some x)
found_item test f i k [] is = cc
found_item {X} {Y} test f i k (x ∷ xs) is =
    tested (test (f x)) i k (position_from test (i + 1) (map f xs)) ((x' : X) × (j : ℕ) × (k ≡ i + j) × (slice_get (x ∷ xs) j ≡ Some x'))
    (λ here. (x, 0, omega arith, refl))
    (λ later. let more = found_item test f (i + 1) k xs later in (more.0, suc more.1, omega arith, more.3)) is

pub found_at : {X : Type 0} (f : X → List ℕ) (name : List ℕ) (xs : List X) (k : ℕ) → position_from (λ other. is_name other name) 0 (map f xs) ≡ Some k → (x : X) × (slice_get xs k ≡ Some x)
found_at f name xs k found =
    let item = found_item (λ (other : List ℕ). is_name other name) f 0 k xs found in
    let same : k ≡ item.1 = omega (arith, item.2) in
    (item.0, ap (slice_get xs) same ∙ item.3)

-- a cell that is found is there
pub in_lib : (d : Design) (name : List ℕ) (lib : LibId) (place : Option ℕ) (id : CellId) → place_of name (cell_names (cells_in d lib)) ≡ place → option_map (λ slot. let c : CellId = record { lib = lib; slot = slot } in c) place ≡ Some id → (body : CellBody) × (cell_at d id ≡ Some body)
in_lib d name lib None id found is = cc
in_lib d name lib (Some k) id found is =
    let item = found_at (λ (c : CellBody). c.name.id) name (cells_in d lib) k found in
    let same : ◌≡◌ {A = CellId} (record { lib = lib; slot = k }) id = cc in
    (item.0, subst (λ (c : CellId). cell_at d c ≡ Some item.0) same item.1)

pub in_found : (d : Design) (name : List ℕ) (lib : Option LibId) (id : CellId) → option_and_then (cell_in d name) lib ≡ Some id → (body : CellBody) × (cell_at d id ≡ Some body)
in_found d name None id is = cc
in_found d name (Some lib) id is = in_lib d name lib (place_of name (cell_names (cells_in d lib))) id refl is

pub cell_there : (d : Design) (name : CellName) (id : CellId) → cell_named d name ≡ Some id → (body : CellBody) × (cell_at d id ≡ Some body)
cell_there d name id is = in_found d name.cell (lib_named d name.lib) id is
