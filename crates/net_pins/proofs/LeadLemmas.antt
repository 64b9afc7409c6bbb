-- Each pin of a net has a joint that leads to it, and such a joint at a leaf is a pin of the net.
use Rattle.std.proofs.Common.{◌≡◌, ℕ, List, [], ◌∷◌, ◌++◌, Bool, true, false, ◌||◌, cond, refl, sym, ap, subst, ◌∙◌, Some, None, Option, slice_get, append_assoc}
use Rattle.std.specs.Prelude.{is_none, not, option_and_then}
use Rattle.std.specs.List.{Contains}
use Rattle.std.specs.Option.{option_map, option_map_or}
use Rattle.std.proofs.lemmas.Option.{none-some, same_Some}
use Rattle.netlist_schema.specs.Design.{Design, cell_at, insts_in, insts_of}
use Rattle.netlist_schema.specs.Hierarchy.{insts_at}
use Rattle.netlist_schema.specs.Types.{CellBody, CellId, Contents, Direction, Inst}
use Rattle.flat_cells.specs.Below.{AreCellsBelow}
use Rattle.flat_spec.specs.Flattening.{flattening}
use Rattle.flat_spec.specs.Paths.{Bit, IsNet, Reaches, at_path, at_root, cell_along, cell_below_top, on, port_of_cell}
use Rattle.flat_spec.specs.Pins.{bits_of, net_at_pin, own_bits, shown_bits}
use Rattle.flat_spec.specs.Representatives.{representative}
use Rattle.flat_spec.specs.Types.{NetAt}
use Rattle.flat_spec.specs.declared.item.Item.TheVariants.{Pin}
use Rattle.flat_spec.proofs.BitLemmas.{on_there}
use Rattle.flat_spec.proofs.ListLemmas.{Contains-member, Member, Member-contains}
use Rattle.flat_spec.proofs.PathLemmas.{Joins-inward_here, Joins-outward_here, Reaches-append, Reaches-cons, Reaches-front, Reaches-parts, Some-same}
use Rattle.flat_spec.proofs.PinLemmas.{net_at_pin-from, net_at_pin-joins}
use Rattle.flat_spec.proofs.TestLemmas.{same_net-refl}
use Rattle.erc_spec.specs.Drives.{direction_at, is_at, is_either, is_output, is_strong_port}
use Rattle.erc_spec.specs.Told.{pin_bits}
use Rattle.erc_spec.proofs.ItemLemmas.{pin_from, pin_there}
use Rattle.erc_spec.proofs.MemberLemmas.{Member-flat_map, Member-from_flat_map}
use Rattle.ask_spec.specs.Nets.{first_of}
use Rattle.ask_spec.specs.Roles.{pins_as, stands_as}
use Rattle.ask_spec.specs.declared.role.Role.{Role}
use Rattle.ask_spec.specs.declared.role.Role.TheVariants.{Any, Driver, Load}
use Rattle.ask_spec.proofs.SideLemmas.{joins_outer, outer_joins, pin_path}
use Rattle.net_classes.specs.Facts.{Facts}
use Rattle.net_classes.specs.declared.joints.Joint.{Joint}
use Rattle.flat_items.specs.declared.notes.PlacedNotes.{PlacedNotes}
use Rattle.flat_items.specs.Stand.{IsGround, top_of}
use Rattle.net_pins.specs.Levels.{IsLevel, LeadsTo, leads_in}
use Rattle.net_rows.specs.Rows.{AreRows, Table, direction_in, joints_of, leads, port_stands}
use Rattle.net_ways.specs.Ways.{firsts_in, joints_in}
use Rattle.net_pins.specs.declared.levels.Level.{Level}
use Rattle.net_ways.proofs.ClimbLemmas.{first_is, first_of_net, joint_joins, joins_joint}
use Rattle.net_pins.proofs.DownLemmas.{below_apart, from_above, to_below}
use Rattle.net_pins.proofs.LeftLemmas.{pin_asked}
use Rattle.net_rows.proofs.RowLemmas.{block_leads, in_row, joint_net, leaf_leads, leaf_stands, row_has}

-- a pin of a leaf below the top stands at its net as its port tells
strong_below : (path : List ℕ) (i : ℕ) (o : Option Direction) → is_strong_port (path ++ i ∷ []) o ≡ is_output o
strong_below [] i o = refl
strong_below (k ∷ path) i o = refl

pub stands_below : (role : Role) (d : Design) (path : List ℕ) (i port bit : ℕ) (first : Option NetAt)
    → stands_as role d (Pin (path ++ i ∷ []) port bit first) ≡ port_stands role false (direction_at d (path ++ i ∷ []) port)
stands_below Any d path i port bit first = refl
stands_below Driver d path i port bit first =
    ap (λ v. v || is_either (direction_at d (path ++ i ∷ []) port)) (strong_below path i (direction_at d (path ++ i ∷ []) port))
stands_below Load d path i port bit first = ap not (strong_below path i (direction_at d (path ++ i ∷ []) port))

-- the direction of a port of an occurrence is that of its cell's port
pub direction_is : (d : Design) (facts : Facts) (notes : PlacedNotes) → IsGround d facts notes → (path : List ℕ) (c : CellId) → Reaches d (top_of d).cell path c
    → (body : CellBody) → cell_at d c ≡ Some body → (port : ℕ) → direction_at d path port ≡ direction_in body port
direction_is d facts notes ground path c at body is port =
    let cell : cell_below_top d path ≡ Some c = ap (λ o. option_and_then (λ t. cell_along d t.cell path) o) ground.top ∙ at in
    ap (λ o. option_and_then (λ p. p.direction) (port_of_cell d o port)) cell
    ∙ ap (λ o. option_and_then (λ p. p.direction) (option_and_then (λ (v : CellBody). slice_get v.ports port) o)) is

-- a cell with an instance has contents
pub has_contents : (d : Design) (cell : CellId) (body : CellBody) → cell_at d cell ≡ Some body → (i : ℕ) (inst : Inst) → slice_get (insts_at d cell) i ≡ Some inst → is_none body.contents ≡ false
has_contents d cell body is i inst there = inside body.contents (sym (ap (λ o. slice_get (option_map_or insts_of o []) i) is) ∙ there)
  where
    inside : (o : Option Contents) → slice_get (insts_in o) i ≡ Some inst → is_none o ≡ false
    inside None e = absurd (none-some inst e)
    inside (Some contents) e = refl

-- an occurrence below the top that shows a bit is a leaf
pub shows_leaf : (d : Design) (path : List ℕ) (i : ℕ) (cell : CellId) (body : CellBody) (b : Bit) → cell_at d cell ≡ Some body → Contains (pin_bits d (path ++ i ∷ []) cell) b → is_none body.contents ≡ true
shows_leaf d path i cell body b is has =
    under path (is_none body.contents) refl (subst (λ o. Contains (option_map_or (shown_bits (path ++ i ∷ [])) o []) b) is has)
  where
    none_of : (v : Bool) → Contains (cond v (bits_of body) []) b → v ≡ true
    none_of true has = refl
    none_of false has = absurd (Contains-member [] b has)

    under : (p : List ℕ) (v : Bool) → is_none body.contents ≡ v → Contains (shown_bits (p ++ i ∷ []) body) b → is_none body.contents ≡ true
    under [] v e has = none_of (is_none body.contents) has
    under (k ∷ p) v e has = none_of (is_none body.contents) has

-- and a leaf shows its bits
pub leaf_shows : (d : Design) (path : List ℕ) (i : ℕ) (cell : CellId) (body : CellBody) (b : Bit) → cell_at d cell ≡ Some body → is_none body.contents ≡ true → Contains (own_bits d cell) b
    → Contains (pin_bits d (path ++ i ∷ []) cell) b
leaf_shows d path i cell body b is leaf has =
    subst (λ o. Contains (option_map_or (shown_bits (path ++ i ∷ [])) o []) b) (sym is) (under path (subst (λ o. Contains (option_map_or bits_of o []) b) is has))
  where
    under : (p : List ℕ) → Contains (bits_of body) b → Contains (shown_bits (p ++ i ∷ []) body) b
    under [] has = subst (λ v. Contains (cond v (bits_of body) []) b) (sym leaf) has
    under (k ∷ p) has = subst (λ v. Contains (cond v (bits_of body) []) b) (sym leaf) has

-- there is the cell of an occurrence of which something is shown
pub body_of : (d : Design) (path : List ℕ) (c : CellId) (b : Bit) → Contains (pin_bits d path c) b → (body : CellBody) × (cell_at d c ≡ Some body)
body_of d path c b has = go (cell_at d c) refl has
  where
    go : (o : Option CellBody) → cell_at d c ≡ o → Contains (option_map_or (shown_bits path) o []) b → (body : CellBody) × (cell_at d c ≡ Some body)
    go None is has = absurd (Contains-member [] b has)
    go (Some body) is has = (body, is)

pub body_there : (d : Design) (c : CellId) (i : ℕ) (inst : Inst) → slice_get (insts_at d c) i ≡ Some inst → (body : CellBody) × (cell_at d c ≡ Some body)
body_there d c i inst there = go (cell_at d c) refl there
  where
    go : (o : Option CellBody) → cell_at d c ≡ o → slice_get (option_map_or insts_of o []) i ≡ Some inst → (body : CellBody) × (cell_at d c ≡ Some body)
    go None is e = absurd (none-some inst e)
    go (Some body) is e = (body, is)

pub some_net : (root : CellId) (d : Design) (x : NetAt) (o : Option NetAt) → Some x ≡ option_map (representative d root) o → (z : NetAt) × (o ≡ Some z) × (representative d root z ≡ x)
some_net root d x None e = absurd (none-some x (sym e))
some_net root d x (Some z) e = (z, refl, sym (same_Some x (representative d root z) e))

module _ (role : Role) (d : Design) (facts : Facts) (notes : PlacedNotes) (ground : IsGround d facts notes) (cells : Table) (below : List CellId)
    (are_below : AreCellsBelow d (top_of d).cell below) (rows : AreRows role d facts below cells) (x : NetAt) where
  abbrev root : CellId
  root = (top_of d).cell

  -- a joint of the cell that leads to the pins under an instance
  pub record IsLedTo (path : List ℕ) (c : CellId) (i : ℕ) (rest : List ℕ) (port bit : ℕ) : Type 0 where
    pub joint : Joint
    pub first : ℕ
    pub net : IsNet d c (at_root joint.net)
    pub named : slice_get (firsts_in facts c) joint.net ≡ Some first
    pub same : representative d root (at_path path joint.net) ≡ x
    pub held : Contains (joints_of cells c first) joint
    pub on_it : joint.inst ≡ i
    pub bits : rest ≡ [] → (joint.port ≡ port) × (joint.bit ≡ bit)

  -- what a joint of the cell is there, if it leads to a pin
  led_by : (path : List ℕ) (c : CellId) → Reaches d root path c → (i : ℕ) (rest : List ℕ) (port bit : ℕ) → (j : Joint) → Contains (joints_in facts c) j → leads role d facts cells c j ≡ true
      → representative d root (at_path path j.net) ≡ x → j.inst ≡ i → (rest ≡ [] → (j.port ≡ port) × (j.bit ≡ bit)) → IsLedTo path c i rest port bit
  led_by path c at i rest port bit j has led same on_it bits =
      let net = joint_net role d facts notes ground cells below are_below rows path c at j has in
      let first = first_of_net d facts notes ground path c at j.net net in
      record {
        joint = j;
        first = first.0;
        net = net;
        named = first.1;
        same = same;
        held = row_has role d facts notes ground cells below are_below rows path c at first.0 j has led first.1;
        on_it = on_it;
        bits = bits;
      }

  -- each pin of the net that stands in the role has one
  pub pin_is_led_to : (rest : List ℕ) (path : List ℕ) (c : CellId) → Reaches d root path c → (behind : (more : List ℕ) × (path ≡ x.path ++ more)) → (i port bit : ℕ)
      → Member (flattening d) (Pin (path ++ i ∷ rest) port bit (Some x)) → stands_as role d (Pin (path ++ i ∷ rest) port bit (Some x)) ≡ true → IsLedTo path c i rest port bit
  pin_is_led_to [] path c at behind i port bit m stands =
      let b : Bit = record { port = port; bit = bit } in
      let told = pin_there d (top_of d) ground.top ground.valid.no_cycle (path ++ i ∷ []) port bit (Some x) m in
      let net = some_net root d x (net_at_pin d root (path ++ i ∷ []) b) told.1 in
      let joins = net_at_pin-joins d root (path ++ i ∷ []) b net.0 net.1 in
      let outer = outer_joins d root path i b net.0 joins in
      let j : Joint = record { inst = i; port = port; bit = bit; net = net.0.net } in
      let has = joins_joint d facts notes ground path c at j (Joins-inward_here d root c path net.0.net (on i b) at outer) in
      let whole = Reaches-front d root told.0.0 path (i ∷ []) told.0.1 in
      let same_cell : whole.0 ≡ c = Some-same _ whole.1 at in
      let inst = Reaches-parts d c i [] told.0.0 (subst (λ (v : CellId). Reaches d v (i ∷ []) told.0.0) same_cell whole.2) in
      let of : inst.0.of ≡ told.0.0 = same_Some inst.0.of told.0.0 inst.2 in
      let body = body_of d (path ++ i ∷ []) told.0.0 b told.0.2 in
      let leaf = shows_leaf d path i told.0.0 body.0 b body.1 told.0.2 in
      let body_is : cell_at d inst.0.of ≡ Some body.0 = ap (cell_at d) of ∙ body.1 in
      let port_is : port_stands role false (direction_in body.0 port) ≡ true =
      ap (port_stands role false) (sym (direction_is d facts notes ground (path ++ i ∷ []) told.0.0 told.0.1 body.0 body.1 port)) ∙ sym (stands_below role d path i port bit (Some x)) ∙ stands in
      let led = leaf_leads role d facts cells c j inst.0 inst.1 body.0 body_is leaf port_is in
      led_by path c at i [] port bit j has led (ap (representative d root) (sym (pin_path d root path i b net.0 joins)) ∙ net.2) refl (λ e. (refl, refl))
  pin_is_led_to (k ∷ rest) path c at behind i port bit m stands =
      let whole : path ++ i ∷ k ∷ rest ≡ (path ++ i ∷ []) ++ k ∷ rest = sym (append_assoc path (i ∷ []) (k ∷ rest)) in
      let deep = pin_there d (top_of d) ground.top ground.valid.no_cycle (path ++ i ∷ k ∷ rest) port bit (Some x) m in
      let front = Reaches-front d root deep.0.0 path (i ∷ k ∷ rest) deep.0.1 in
      let same_cell : front.0 ≡ c = Some-same _ front.1 at in
      let inst = Reaches-parts d c i (k ∷ rest) deep.0.0 (subst (λ (v : CellId). Reaches d v (i ∷ k ∷ rest) deep.0.0) same_cell front.2) in
      let inner_inst = Reaches-parts d inst.0.of k rest deep.0.0 inst.2 in
      let at_it : Reaches d root (path ++ i ∷ []) inst.0.of = Reaches-append d root c inst.0.of path (i ∷ []) at (Reaches-cons d c i inst.0 [] inst.0.of inst.1 refl) in
      let behind_it : (more : List ℕ) × (path ++ i ∷ [] ≡ x.path ++ more) = (behind.0 ++ i ∷ [], ap (λ p. p ++ i ∷ []) behind.1 ∙ append_assoc x.path behind.0 (i ∷ [])) in
      let inner = pin_is_led_to rest (path ++ i ∷ []) inst.0.of at_it behind_it k port bit (subst (λ p. Member (flattening d) (Pin p port bit (Some x))) whole m)
      (subst (λ p. stands_as role d (Pin p port bit (Some x)) ≡ true) whole stands) in
      let above = from_above d facts notes ground x path behind c inst.0.of i path at at_it (below_apart d facts notes ground x path behind i []) inner.joint.net inner.net inner.same in
      let one : above.0 ≡ inner.first = same_Some above.0 inner.first (sym above.1 ∙ inner.named) in
      let j = above.2.0 in
      let body = body_there d inst.0.of k inner_inst.0 inner_inst.1 in
      let block = has_contents d inst.0.of body.0 body.1 k inner_inst.0 inner_inst.1 in
      let inst_at_j : slice_get (insts_at d c) j.inst ≡ Some inst.0 = ap (slice_get (insts_at d c)) above.2.2 ∙ inst.1 in
      let led = block_leads role d facts cells c j inst.0 inst_at_j body.0 body.1 block inner.first (above.2.3 ∙ ap Some one) inner.joint inner.held in
      led_by path c at i (k ∷ rest) port bit j above.2.1 led above.2.4 above.2.2 (λ e. absurd (cons_not_nil k rest e))
    where
      cons_not_nil : (k : ℕ) (rest : List ℕ) → k ∷ rest ≡ [] → ⊥
      cons_not_nil k rest e = cc e

  -- a joint of a level leads on
  pub record IsLed (path : List ℕ) (l : Level) (j : Joint) : Type 0 where
    pub first : ℕ
    pub among : Contains l.firsts.items first
    pub row : Contains (joints_of cells l.cell first) j
    pub joint : Contains (joints_in facts l.cell) j
    pub leads_on : leads role d facts cells l.cell j ≡ true
    pub named : slice_get (firsts_in facts l.cell) j.net ≡ Some first
    pub net : IsNet d l.cell (at_root j.net)
    pub same : representative d root (at_path path j.net) ≡ x

  module _ (path : List ℕ) (l : Level) (level : IsLevel d facts cells x path l) where
    pub lead_of_level : (j : Joint) → Contains (leads_in cells l.cell l.firsts.items) j → IsLed path l j
    lead_of_level j has =
        let found = Member-from_flat_map (joints_of cells l.cell) l.firsts.items j (Contains-member (leads_in cells l.cell l.firsts.items) j has) in
        let among = Member-contains l.firsts.items found.0 found.1 in
        let row = Member-contains (joints_of cells l.cell found.0) j found.2 in
        let known = in_row role d facts notes ground cells below are_below rows path l.cell level.reached found.0 j row in
        let net = joint_net role d facts notes ground cells below are_below rows path l.cell level.reached j known.0 in
        record {
          first = found.0;
          among = among;
          row = row;
          joint = known.0;
          leads_on = known.1;
          named = known.2;
          net = net;
          same = level.sound j.net found.0 among net known.2;
        }

    pub level_has : (j : Joint) (f : ℕ) → IsNet d l.cell (at_root j.net) → slice_get (firsts_in facts l.cell) j.net ≡ Some f → representative d root (at_path path j.net) ≡ x
        → Contains (joints_of cells l.cell f) j → Contains (leads_in cells l.cell l.firsts.items) j
    level_has j f net named same row =
        let among = level.whole j.net f j net named same row in
        Member-contains (leads_in cells l.cell l.firsts.items) j
        (Member-flat_map (joints_of cells l.cell) l.firsts.items f j (Contains-member l.firsts.items f among) (Contains-member (joints_of cells l.cell f) j row))

    -- each pin below the level's occurrence has a joint of the level that leads to it
    pub pin_has_lead : (behind : (more : List ℕ) × (path ≡ x.path ++ more)) → (i : ℕ) (rest : List ℕ) (port bit : ℕ) → Member (flattening d) (Pin (path ++ i ∷ rest) port bit (Some x))
        → stands_as role d (Pin (path ++ i ∷ rest) port bit (Some x)) ≡ true
        → (j : Joint) × Contains (leads_in cells l.cell l.firsts.items) j × (j.inst ≡ i) × (rest ≡ [] → (j.port ≡ port) × (j.bit ≡ bit))
    pin_has_lead behind i rest port bit m stands =
        let led = pin_is_led_to rest path l.cell level.reached behind i port bit m stands in
        (led.joint, level_has led.joint led.first led.net led.named led.same led.held, led.on_it, led.bits)

    -- the instance of a joint
    pub joint_inst : (j : Joint) → Contains (joints_in facts l.cell) j
        → (inst : Inst) × (slice_get (insts_at d l.cell) j.inst ≡ Some inst) × Contains (own_bits d inst.of) (record { port = j.port; bit = j.bit })
    joint_inst j has =
        let b : Bit = record { port = j.port; bit = j.bit } in
        let bit = on_there d l.cell j.net j.inst b ground.valid (joint_joins d facts notes ground path l.cell level.reached j has) in
        let parts = Reaches-parts d l.cell j.inst [] bit.0 bit.1 in
        let same : parts.0.of ≡ bit.0 = same_Some parts.0.of bit.0 parts.2 in
        (parts.0, parts.1, subst (λ (v : CellId). Contains (own_bits d v) b) (sym same) bit.2)

    pub step_to : (i : ℕ) (inst : Inst) → slice_get (insts_at d l.cell) i ≡ Some inst → Reaches d root (path ++ i ∷ []) inst.of
    step_to i inst there = Reaches-append d root l.cell inst.of path (i ∷ []) level.reached (Reaches-cons d l.cell i inst [] inst.of there refl)

    -- such a joint at a leaf is a pin
    pub lead_is_pin : first_of d x ≡ x → (j : Joint) → Contains (leads_in cells l.cell l.firsts.items) j → (inst : Inst) → slice_get (insts_at d l.cell) j.inst ≡ Some inst
        → (body : CellBody) → cell_at d inst.of ≡ Some body → is_none body.contents ≡ true → Member (pins_as role d x) (Pin (path ++ j.inst ∷ []) j.port j.bit (Some x))
    lead_is_pin own j has inst there body body_is leaf =
        let b : Bit = record { port = j.port; bit = j.bit } in
        let led = lead_of_level j has in
        let found = joint_inst j led.joint in
        let one : found.0 ≡ inst = same_Some found.0 inst (sym found.1 ∙ there) in
        let bits = subst (λ (v : Inst). Contains (own_bits d v.of) b) one found.2 in
        let at = step_to j.inst inst there in
        let shown = leaf_shows d path j.inst inst.of body b body_is leaf bits in
        let joins = Joins-outward_here d root l.cell path j.net (on j.inst b) level.reached (joint_joins d facts notes ground path l.cell level.reached j led.joint) in
        let pin = net_at_pin-from d ground.valid root (path ++ j.inst ∷ []) b (at_path path j.net) (joins_outer d root path j.inst b j.net joins) in
        let item = pin_from d (top_of d) ground.top ground.valid.no_cycle (path ++ j.inst ∷ []) b (inst.of, at, shown) in
        let named : option_map (representative d root) (net_at_pin d root (path ++ j.inst ∷ []) b) ≡ Some x = ap (option_map (representative d root)) pin ∙ ap Some led.same in
        let m : Member (flattening d) (Pin (path ++ j.inst ∷ []) j.port j.bit (Some x)) = subst (λ o. Member (flattening d) (Pin (path ++ j.inst ∷ []) j.port j.bit o)) named item in
        let stands : stands_as role d (Pin (path ++ j.inst ∷ []) j.port j.bit (Some x)) ≡ true =
        stands_below role d path j.inst j.port j.bit (Some x)
        ∙ ap (port_stands role false) (direction_is d facts notes ground (path ++ j.inst ∷ []) inst.of at body body_is j.port)
        ∙ leaf_stands role d facts cells l.cell j inst there body body_is leaf led.leads_on in
        pin_asked role d x (Pin (path ++ j.inst ∷ []) j.port j.bit (Some x)) m (subst (λ v. is_at v (Pin (path ++ j.inst ∷ []) j.port j.bit (Some x)) ≡ true) (sym own) (same_net-refl x)) stands

    -- the level of an instance
    pub level_goes_down : (behind : (more : List ℕ) × (path ≡ x.path ++ more)) → (i : ℕ) (inst : Inst) → slice_get (insts_at d l.cell) i ≡ Some inst → (made : Level) → made.cell ≡ inst.of
        → ((f : ℕ) → (Contains made.firsts.items f → LeadsTo facts inst.of i (leads_in cells l.cell l.firsts.items) f) × (LeadsTo facts inst.of i (leads_in cells l.cell l.firsts.items) f → Contains made.firsts.items f))
        → IsLevel d facts cells x (path ++ i ∷ []) made
    level_goes_down behind i inst there made cell_is firsts = record {
      reached = subst (λ (v : CellId). Reaches d root (path ++ i ∷ []) v) (sym cell_is) at;
      sound = λ n f has net named. sound n f has (subst (λ (v : CellId). IsNet d v (at_root n)) cell_is net) (subst (λ (v : CellId). slice_get (firsts_in facts v) n ≡ Some f) cell_is named);
      whole = λ n f j net named same row.
          whole n f j (subst (λ (v : CellId). IsNet d v (at_root n)) cell_is net) (subst (λ (v : CellId). slice_get (firsts_in facts v) n ≡ Some f) cell_is named) same
          (subst (λ (v : CellId). Contains (joints_of cells v f) j) cell_is row);
    }
      where
        at : Reaches d root (path ++ i ∷ []) inst.of
        at = step_to i inst there

        deep : (n : ℕ) → at_path (path ++ i ∷ []) n ≡ x → ⊥
        deep n = below_apart d facts notes ground x path behind i [] n

        sound : (n f : ℕ) → Contains made.firsts.items f → IsNet d inst.of (at_root n) → slice_get (firsts_in facts inst.of) n ≡ Some f → representative d root (at_path (path ++ i ∷ []) n) ≡ x
        sound n f has net named =
            let lead = (firsts f).0 has in
            let led = lead_of_level lead.0 lead.1 in
            let inside = first_is d facts notes ground (path ++ i ∷ []) inst.of at n f net named in
            to_below d facts notes ground x path behind l.cell inst.of i path level.reached at deep n f lead.0 inside led.joint lead.2 lead.3 led.same

        whole : (n f : ℕ) (j : Joint) → IsNet d inst.of (at_root n) → slice_get (firsts_in facts inst.of) n ≡ Some f → representative d root (at_path (path ++ i ∷ []) n) ≡ x
            → Contains (joints_of cells inst.of f) j → Contains made.firsts.items f
        whole n f j net named same row =
            let above = from_above d facts notes ground x path behind l.cell inst.of i path level.reached at deep n net same in
            let one : above.0 ≡ f = same_Some above.0 f (sym above.1 ∙ named) in
            let up = above.2.0 in
            let known = in_row role d facts notes ground cells below are_below rows (path ++ i ∷ []) inst.of at f j row in
            let inner = on_there d inst.of j.net j.inst (record { port = j.port; bit = j.bit }) ground.valid (joint_joins d facts notes ground (path ++ i ∷ []) inst.of at j known.0) in
            let inner_inst = Reaches-parts d inst.of j.inst [] inner.0 inner.1 in
            let body = body_there d inst.of j.inst inner_inst.0 inner_inst.1 in
            let block = has_contents d inst.of body.0 body.1 j.inst inner_inst.0 inner_inst.1 in
            let inst_at_up : slice_get (insts_at d l.cell) up.inst ≡ Some inst = ap (slice_get (insts_at d l.cell)) above.2.2 ∙ there in
            let led = block_leads role d facts cells l.cell up inst inst_at_up body.0 body.1 block f (above.2.3 ∙ ap Some one) j row in
            let up_net = joint_net role d facts notes ground cells below are_below rows path l.cell level.reached up above.2.1 in
            let first = first_of_net d facts notes ground path l.cell level.reached up.net up_net in
            let up_row = row_has role d facts notes ground cells below are_below rows path l.cell level.reached first.0 up above.2.1 led first.1 in
            (firsts f).1 (up, level_has up first.0 up_net first.1 above.2.4 up_row, above.2.2, above.2.3 ∙ ap Some one)
