-- What the rows keep of the joints of a cell.
use Rattle.std.proofs.Common.{◌≡◌, ◌⊎◌, ◌<◌, ◌≤◌, ℕ, List, [], ◌∷◌, length, true, false, cond, refl, sym, ap, subst, ◌∙◌, inl, inr, arith, Some, None, Option, slice_get}
use Rattle.std.specs.Prelude.{filter, is_none, nat_eq, not, option_and_then}
use Rattle.std.specs.List.{AllPairs, Contains}
use Rattle.std.specs.Option.{option_eq, option_map_or}
use Rattle.std.proofs.lemmas.Bool.{and_from, and_parts, cases_lt, eq-eqb, eqb-true, false_from_ne_true, false≢true}
use Rattle.std.proofs.lemmas.Option.{same_Some, slice_get_past}
use Rattle.netlist_schema.specs.Design.{Design, cell_at}
use Rattle.netlist_schema.specs.Hierarchy.{insts_at}
use Rattle.netlist_schema.specs.Types.{CellBody, CellId, Inst}
use Rattle.flat_cells.specs.Below.{AreCellsBelow}
use Rattle.flat_spec.specs.Paths.{Bit, IsNet, Reaches, at_root, on}
use Rattle.flat_spec.proofs.ListLemmas.{Ascends-filter, Ascends-pairs, Contains-member, Member, Member-contains, Member-filter, Member-from_filter}
use Rattle.flat_spec.proofs.PathLemmas.{Joins-net}
use Rattle.flat_spec.proofs.PinLemmas.{AllPairs-ascends}
use Rattle.ask_spec.specs.declared.role.Role.{Role}
use Rattle.net_classes.specs.Facts.{Facts, first_at}
use Rattle.net_classes.specs.Joints.{IsNotBehind}
use Rattle.net_classes.specs.declared.joints.Joint.{Joint}
use Rattle.flat_items.specs.declared.notes.PlacedNotes.{PlacedNotes}
use Rattle.flat_items.specs.Stand.{IsGround, top_of}
use Rattle.flat_items.proofs.NetLemmas.{reached_below}
use Rattle.net_rows.specs.Rows.{AreListsOf, AreRows, Table, bit_leads, direction_in, has_joints, is_in_row, joints_of, leads, lists_at, port_stands}
use Rattle.net_ways.specs.Ways.{firsts_in, joints_in}
use Rattle.net_ways.proofs.ClimbLemmas.{first_net, first_of_net, joint_joins, net_has_first, ordered}

same_option : (o : Option ℕ) (f : ℕ) → option_eq nat_eq o (Some f) ≡ true → o ≡ Some f
same_option None f e = absurd (false≢true e)
same_option (Some g) f e = ap Some (eqb-true g f e)

option_same : (o : Option ℕ) (f : ℕ) → o ≡ Some f → option_eq nat_eq o (Some f) ≡ true
option_same o f is = ap (λ v. option_eq nat_eq v (Some f)) is ∙ eq-eqb f f refl

-- whether there is a joint
pub not_empty : (js : List Joint) → not (nat_eq (length js) 0) ≡ has_joints js
not_empty [] = refl
not_empty (j ∷ js) = ap not (false_from_ne_true (nat_eq (length (j ∷ js)) 0) (λ e. let long = eqb-true (length (j ∷ js)) 0 e in omega (arith, long)))

-- an own bit of a leaf leads by its port, and of another cell by what is kept
module _ (role : Role) (facts : Facts) (cells : Table) (c : CellId) (body : CellBody) (b : Bit) where
  pub leaf_bit : is_none body.contents ≡ true → bit_leads role facts cells c body b ≡ port_stands role false (direction_in body b.port)
  leaf_bit leaf = ap (λ v. cond v (port_stands role false (direction_in body b.port)) (option_map_or (λ first. has_joints (joints_of cells c first)) (first_at facts c b) false)) leaf

  pub block_bit : is_none body.contents ≡ false → bit_leads role facts cells c body b ≡ option_map_or (λ first. has_joints (joints_of cells c first)) (first_at facts c b) false
  block_bit block = ap (λ v. cond v (port_stands role false (direction_in body b.port)) (option_map_or (λ first. has_joints (joints_of cells c first)) (first_at facts c b) false)) block

-- a joint of a leaf, or one that a row holds, leads
module _ (role : Role) (d : Design) (facts : Facts) (cells : Table) (c : CellId) (j : Joint) (inst : Inst) (there : slice_get (insts_at d c) j.inst ≡ Some inst)
    (body : CellBody) (body_is : cell_at d inst.of ≡ Some body) where
  abbrev b : Bit
  b = record { port = j.port; bit = j.bit }

  pub leads_is : leads role d facts cells c j ≡ bit_leads role facts cells inst.of body b
  leads_is =
      ap (λ o. option_map_or (λ (i : Inst). option_map_or (λ (v : CellBody). bit_leads role facts cells i.of v b) (cell_at d i.of) false) o false) there
      ∙ ap (λ o. option_map_or (λ (v : CellBody). bit_leads role facts cells inst.of v b) o false) body_is

  pub leaf_leads : is_none body.contents ≡ true → port_stands role false (direction_in body j.port) ≡ true → leads role d facts cells c j ≡ true
  leaf_leads leaf stands =
      leads_is
      ∙ ap (λ v. cond v (port_stands role false (direction_in body j.port)) (option_map_or (λ first. has_joints (joints_of cells inst.of first)) (first_at facts inst.of b) false)) leaf
      ∙ stands

  pub leaf_stands : is_none body.contents ≡ true → leads role d facts cells c j ≡ true → port_stands role false (direction_in body j.port) ≡ true
  leaf_stands leaf led =
      sym (ap (λ v. cond v (port_stands role false (direction_in body j.port)) (option_map_or (λ first. has_joints (joints_of cells inst.of first)) (first_at facts inst.of b) false)) leaf)
      ∙ sym leads_is ∙ led

  pub block_leads : is_none body.contents ≡ false → (f : ℕ) → first_at facts inst.of b ≡ Some f → (inner : Joint) → Contains (joints_of cells inst.of f) inner
      → leads role d facts cells c j ≡ true
  block_leads block f named inner has =
      leads_is
      ∙ ap (λ v. cond v (port_stands role false (direction_in body j.port)) (option_map_or (λ first. has_joints (joints_of cells inst.of first)) (first_at facts inst.of b) false)) block
      ∙ ap (λ o. option_map_or (λ first. has_joints (joints_of cells inst.of first)) o false) named
      ∙ some_joint (joints_of cells inst.of f) (Contains-member (joints_of cells inst.of f) inner has)
    where
      some_joint : (js : List Joint) → Member js inner → has_joints js ≡ true
      some_joint [] m = absurd m
      some_joint (v ∷ js) m = refl

module _ (role : Role) (d : Design) (facts : Facts) (notes : PlacedNotes) (ground : IsGround d facts notes) (cells : Table) (below : List CellId)
    (are_below : AreCellsBelow d (top_of d).cell below) (rows : AreRows role d facts below cells) where
  abbrev root : CellId
  root = (top_of d).cell

  module _ (path : List ℕ) (c : CellId) (at : Reaches d root path c) where
    kept : (lists : List (List Joint)) × (lists_at cells c ≡ Some lists) × AreListsOf role d facts cells c lists
    kept = rows.told c ((are_below.each c).1 (reached_below d root c path at))

    row_is : (f : ℕ) → joints_of cells c f ≡ option_map_or (λ js. js) (slice_get kept.0 f) []
    row_is f = ap (λ o. option_map_or (λ js. js) (option_and_then (λ (lists : List (List Joint)). slice_get lists f) o) []) kept.1

    row_within : (f : ℕ) → f < length (firsts_in facts c) → joints_of cells c f ≡ filter (is_in_row role d facts cells c f) (joints_in facts c)
    row_within f less = row_is f ∙ ap (λ o. option_map_or (λ js. js) o []) (kept.2.each f less)

    row_past : (f : ℕ) → length (firsts_in facts c) ≤ f → joints_of cells c f ≡ []
    row_past f past = row_is f ∙ ap (λ o. option_map_or (λ js. js) o []) (let long = kept.2.long in slice_get_past kept.0 f (omega (arith, past, long)))

    -- a row holds joints of the cell, which lead to a pin and whose net has that first net
    pub in_row : (f : ℕ) (j : Joint) → Contains (joints_of cells c f) j
        → Contains (joints_in facts c) j × (leads role d facts cells c j ≡ true) × (slice_get (firsts_in facts c) j.net ≡ Some f)
    in_row f j has = go (cases_lt f (length (firsts_in facts c)))
      where
        go : (f < length (firsts_in facts c)) ⊎ (length (firsts_in facts c) ≤ f)
            → Contains (joints_in facts c) j × (leads role d facts cells c j ≡ true) × (slice_get (firsts_in facts c) j.net ≡ Some f)
        go (inl less) =
            let m = Contains-member (filter (is_in_row role d facts cells c f) (joints_in facts c)) j (subst (λ js. Contains js j) (row_within f less) has) in
            let found = Member-from_filter (is_in_row role d facts cells c f) (joints_in facts c) j m in
            let parts = and_parts (leads role d facts cells c j) (option_eq nat_eq (slice_get (firsts_in facts c) j.net) (Some f)) found.1 in
            (Member-contains (joints_in facts c) j found.0, parts.0, same_option (slice_get (firsts_in facts c) j.net) f parts.1)
        go (inr past) = absurd (Contains-member [] j (subst (λ js. Contains js j) (row_past f past) has))

    -- the net of a joint of the cell
    pub joint_net : (j : Joint) → Contains (joints_in facts c) j → IsNet d c (at_root j.net)
    joint_net j has = Joins-net d c (at_root j.net) (on j.inst (record { port = j.port; bit = j.bit })) (joint_joins d facts notes ground path c at j has)

    -- and each such joint is there
    pub row_has : (f : ℕ) (j : Joint) → Contains (joints_in facts c) j → leads role d facts cells c j ≡ true → slice_get (firsts_in facts c) j.net ≡ Some f
        → Contains (joints_of cells c f) j
    row_has f j has led named =
        let net = joint_net j has in
        let first = first_of_net d facts notes ground path c at j.net net in
        let one : first.0 ≡ f = same_Some first.0 f (sym first.1 ∙ named) in
        let less : f < length (firsts_in facts c) =
        subst (λ v. v < length (firsts_in facts c)) one (net_has_first d facts notes ground path c at first.0 (first_net d facts notes ground path c at j.net first.0 net first.2)) in
        let m = Member-filter (is_in_row role d facts cells c f) (joints_in facts c) j (Contains-member (joints_in facts c) j has)
        (and_from (leads role d facts cells c j) (option_eq nat_eq (slice_get (firsts_in facts c) j.net) (Some f)) led (option_same (slice_get (firsts_in facts c) j.net) f named)) in
        subst (λ js. Contains js j) (sym (row_within f less)) (Member-contains (filter (is_in_row role d facts cells c f) (joints_in facts c)) j m)

    -- they are in order
    pub row_order : (f : ℕ) → AllPairs IsNotBehind (joints_of cells c f)
    row_order f = go (cases_lt f (length (firsts_in facts c)))
      where
        all : AllPairs IsNotBehind (joints_in facts c)
        all = ordered d facts notes ground path c at

        go : (f < length (firsts_in facts c)) ⊎ (length (firsts_in facts c) ≤ f) → AllPairs IsNotBehind (joints_of cells c f)
        go (inl less) =
            subst (AllPairs IsNotBehind) (sym (row_within f less))
            (Ascends-pairs IsNotBehind (filter (is_in_row role d facts cells c f) (joints_in facts c))
            (Ascends-filter IsNotBehind (is_in_row role d facts cells c f) (joints_in facts c) (AllPairs-ascends IsNotBehind (joints_in facts c) all)))
        go (inr past) = subst (AllPairs IsNotBehind) (sym (row_past f past)) (Ascends-pairs IsNotBehind [] tt)
