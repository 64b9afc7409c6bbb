-- The bits of the top, and into the net's own occurrence.
use Rattle.std.proofs.Common.{◌≡◌, ◌<◌, ℕ, List, [], ◌∷◌, ◌++◌, length, true, false, refl, sym, ap, subst, ◌∙◌, inl, inr, arith, Some, None, Option, append-nil}
use Rattle.std.specs.Prelude.{slice_get}
use Rattle.std.specs.List.{Contains}
use Rattle.std.specs.Option.{option_map, option_map_or}
use Rattle.std.proofs.lemmas.Bool.{false_from_ne_true, true≢false}
use Rattle.std.proofs.lemmas.List.{length-append}
use Rattle.std.proofs.lemmas.Option.{none-some, same_Some}
use Rattle.netlist_schema.specs.Design.{Design, cell_at}
use Rattle.netlist_schema.specs.Types.{CellBody, CellId}
use Rattle.flat_spec.specs.Connection.{Connected}
use Rattle.flat_spec.specs.Flattening.{flattening}
use Rattle.flat_spec.specs.HandedDown.{IsFirstInside}
use Rattle.flat_spec.specs.PathOrder.{PathBefore}
use Rattle.flat_spec.specs.Paths.{Bit, IsNet, Joins, Reaches, at_path, at_root, cell_along, nets_at, on, own}
use Rattle.flat_spec.specs.Pins.{JoinsPin, bits_of, net_at_pin, own_bits, shown_bits}
use Rattle.flat_spec.specs.Representatives.{representative}
use Rattle.flat_spec.specs.Types.{NetAt}
use Rattle.flat_spec.specs.declared.item.Item.TheVariants.{Pin}
use Rattle.flat_spec.proofs.BitLemmas.{own_there}
use Rattle.flat_spec.proofs.FirstLemmas.{own_bit-once}
use Rattle.flat_spec.proofs.HandedDownLemmas.{Connected-inside}
use Rattle.flat_spec.proofs.ListLemmas.{Contains-member, Member, Member-contains, last_cases}
use Rattle.flat_spec.proofs.PathLemmas.{IsNet-from, IsNet-parts, Joins-inward_here, Joins-net, Joins-reaches, Reaches-front}
use Rattle.flat_spec.proofs.PinLemmas.{net_at_pin-from, net_at_pin-joins}
use Rattle.flat_spec.proofs.RepresentativeLemmas.{representative-connected}
use Rattle.flat_spec.proofs.TestLemmas.{same_net-refl}
use Rattle.erc_spec.specs.Drives.{direction_at, is_at}
use Rattle.erc_spec.specs.Told.{PinBefore, pin_bits}
use Rattle.erc_spec.proofs.ItemLemmas.{pin_from, pin_there}
use Rattle.ask_spec.specs.Roles.{pins_as, stands_as}
use Rattle.ask_spec.specs.declared.role.Role.{Role}
use Rattle.ask_spec.specs.declared.role.Role.TheVariants.{Any, Driver, Load}
use Rattle.ask_spec.proofs.SideLemmas.{outer_joins, pin_path}
use Rattle.net_classes.specs.Facts.{first_at}
use Rattle.net_classes.specs.Inside.{IsFirstAt}
use Rattle.flat_items.specs.Stand.{top_of}
use Rattle.net_pins.specs.Levels.{AreLevels, IsLevel}
use Rattle.net_pins.specs.Moves.{at_bit, bit_at, entered, made_ready}
use Rattle.net_pins.specs.Order.{PinPlace}
use Rattle.net_rows.specs.Rows.{direction_in, port_stands}
use Rattle.net_pins.specs.Spots.{MayAsk, MayStand, Question, Stand, left, place_of}
use Rattle.net_rows.specs.Tops.{bit_before, bit_of, bit_stands, bits_in}
use Rattle.net_ways.specs.Ways.{firsts_in}
use Rattle.net_pins.specs.declared.levels.Level.{Level}
use Rattle.net_rows.specs.declared.tops.OwnBit.{OwnBit}
use Rattle.net_ways.proofs.ClimbLemmas.{IsOuterNet, at_top, first_at_is, first_is, first_net as first_net_of, none_outer, outer_is, told_at}
use Rattle.net_pins.proofs.DownLemmas.{outer_exists, rep_front}
use Rattle.net_pins.proofs.LeadLemmas.{direction_is, some_net}
use Rattle.net_pins.proofs.LeftLemmas.{place_in, pin_asked}
use Rattle.net_pins.proofs.MoveLemmas.{first_bit}
use Rattle.net_rows.proofs.BitLemmas.{bit_before-from, bit_before-true}
use Rattle.net_pins.proofs.OrderLemmas.{PathBefore-under, PinBefore-more, between, bits_compare, none_before_first}
use Rattle.net_pins.proofs.StandLemmas.{IsAsked, none_left, same_left}

not_before_nil : (p : List ℕ) → PathBefore p [] → ⊥
not_before_nil [] h = h
not_before_nil (k ∷ p) h = h

-- a pin of the top stands at its net as its port tells
stands_at_top : (role : Role) (d : Design) (port bit : ℕ) (first : Option NetAt) → stands_as role d (Pin [] port bit first) ≡ port_stands role true (direction_at d [] port)
stands_at_top Any d port bit first = refl
stands_at_top Driver d port bit first = refl
stands_at_top Load d port bit first = refl

module _ (q : Question) (asks : MayAsk q) where
  abbrev root : CellId
  root = (top_of q.design).cell

  abbrev x : NetAt
  x = q.first

  named_by_top : q.design.top ≡ Some (top_of q.design)
  named_by_top = asks.ground.top

  rep_of_first : (n : IsNet q.design root x) → representative q.design root x ≡ x
  rep_of_first n = sym (ap (λ o. option_map_or (λ t. representative q.design t.cell x) o x) named_by_top) ∙ asks.first

  -- inside a cell connected nets are connected in the design
  inside_connected : (path : List ℕ) (c : CellId) (m n : ℕ) → Reaches q.design root path c → Connected q.design c (at_root m) (at_root n) → Connected q.design root (at_path path m) (at_path path n)
  inside_connected path c m n at h = elim (last_cases path) [
    | inl empty ↦
        let same : root ≡ c = same_Some root c (subst (λ p. Reaches q.design root p c) empty at) in
        subst (λ p. Connected q.design root (at_path p m) (at_path p n)) (sym empty) (subst (λ (v : CellId). Connected q.design v (at_root m) (at_root n)) (sym same) h)
    | inr e ↦
        let at_it : Reaches q.design root (e.0 ++ e.1 ∷ []) c = subst (λ p. Reaches q.design root p c) e.2 at in
        subst (λ p. Connected q.design root (at_path p m) (at_path p n)) (sym e.2)
        (Connected-inside q.design root (record { parent = e.0; step = e.1; cell = c }) at_it m n h)
  ]

  -- the nets of the net's own occurrence that it is the first of
  same_first : (c : CellId) (n f : ℕ) → Reaches q.design root x.path c → IsNet q.design c (at_root n) → slice_get (firsts_in q.facts c) n ≡ Some f
      → representative q.design root (at_path x.path n) ≡ x → x.net ≡ f
  same_first c n f at net named same = elim (last_cases x.path) [
    | inl empty ↦
        let at_it = subst (λ p. Reaches q.design root p c) empty at in
        let inside = first_is q.design q.facts asks.notes asks.ground x.path c at n f net named in
        let rep = at_top q.design q.facts asks.notes asks.ground n f c at_it net inside in
        ap (λ (v : NetAt). v.net) (sym same ∙ ap (λ p. representative q.design root (at_path p n)) empty ∙ rep)
    | inr e ↦
        let at_it : Reaches q.design root (e.0 ++ e.1 ∷ []) c = subst (λ p. Reaches q.design root p c) e.2 at in
        let front = Reaches-front q.design root c e.0 (e.1 ∷ []) at_it in
        let inside = first_is q.design q.facts asks.notes asks.ground x.path c at n f net named in
        let found = outer_exists q.facts front.0 e.1 c f in
        below front.0 e.0 e.1 e.2 front.1 at_it inside found.0 found.1
  ]
    where
      below : (up : CellId) (init : List ℕ) (step : ℕ) → x.path ≡ init ++ step ∷ [] → Reaches q.design root init up → Reaches q.design root (init ++ step ∷ []) c → IsFirstInside q.design c n f
          → (o : Option ℕ) → IsOuterNet q.facts up step c f o → x.net ≡ f
      below up init step is up_at at_it inside None none =
          let rep = none_outer q.design q.facts asks.notes asks.ground init up c step up_at at_it n f net inside none in
          ap (λ (v : NetAt). v.net) (sym same ∙ ap (λ p. representative q.design root (at_path p n)) is ∙ rep)
      below up init step is up_at at_it inside (Some m) some =
          let on = outer_is q.design q.facts asks.notes asks.ground init up c step up_at at_it n f m inside some in
          let front = rep_front q.design q.facts asks.notes asks.ground init up m up_at on.0 in
          let rep : representative q.design root (at_path init m) ≡ x = sym on.1 ∙ ap (λ p. representative q.design root (at_path p n)) (sym is) ∙ same in
          let long : length init ≡ length (x.path ++ front.0) = ap length (front.1 ∙ ap (λ (v : NetAt). v.path ++ front.0) rep) in
          let two = length-append x.path front.0 in
          let three = ap length is ∙ length-append init (step ∷ []) in
          absurd (omega (arith, long, two, three))

  -- the level of the net's own occurrence
  pub own_level_is : (l : Level) → l.firsts.items ≡ x.net ∷ [] → Reaches q.design root x.path l.cell → IsLevel q.design q.facts q.cells x x.path l
  own_level_is l firsts at = record {
    reached = at;
    sound = λ n f has net named.
        let f_is : x.net ≡ f = only f (Contains-member l.firsts.items f has) in
        let inside = first_is q.design q.facts asks.notes asks.ground x.path l.cell at n f net named in
        let first_net : IsNet q.design l.cell (at_root f) = first_net_of q.design q.facts asks.notes asks.ground x.path l.cell at n f net inside in
        let parts = IsNet-parts q.design l.cell (at_root f) first_net in
        let same_cell : parts.0 ≡ l.cell = same_Some parts.0 l.cell (sym parts.1) in
        let first_there : IsNet q.design root (at_path x.path f) = IsNet-from q.design root l.cell x.path f at (subst (λ (v : CellId). f < length (nets_at q.design v)) same_cell parts.2) in
        let x_is : at_path x.path f ≡ x = ap (at_path x.path) (sym f_is) in
        representative-connected q.design asks.ground.valid.no_cycle root (at_path x.path n) (at_path x.path f) first_there (inside_connected x.path l.cell n f at inside.connected)
        ∙ ap (representative q.design root) x_is ∙ rep_of_first (subst (IsNet q.design root) x_is first_there);
    whole = λ n f j net named same row. subst (Contains l.firsts.items) (same_first l.cell n f at net named same) (Member-contains l.firsts.items x.net (subst (λ v. Member v x.net) (sym firsts) (inl refl)));
  }
    where
      only : (f : ℕ) → Member l.firsts.items f → x.net ≡ f
      only f m = elim (subst (λ v. Member v f) firsts m) [ inl same ↦ same | inr none ↦ absurd none ]

  -- below the top no pin of the net stands at the net's own occurrence
  not_at_own : (port bit : ℕ) → (up : List ℕ) (step : ℕ) → x.path ≡ up ++ step ∷ [] → IsAsked q asks x.path port bit → ⊥
  not_at_own port bit up step is asked =
      let b : Bit = record { port = port; bit = bit } in
      let told = pin_there q.design (top_of q.design) named_by_top asks.ground.valid.no_cycle x.path port bit (Some x) asked.item in
      let net = some_net root q.design x (net_at_pin q.design root x.path b) told.1 in
      let joins = subst (λ p. JoinsPin q.design root net.0 p b) is (net_at_pin-joins q.design root x.path b net.0 net.1) in
      let z_is = pin_path q.design root up step b net.0 joins in
      let outer = outer_joins q.design root up step b net.0 joins in
      let there = Joins-reaches q.design root (at_path up net.0.net) (on step b) outer in
      let inside = Joins-inward_here q.design root there.0 up net.0.net (on step b) there.1 outer in
      let front = rep_front q.design q.facts asks.notes asks.ground up there.0 net.0.net there.1 (Joins-net q.design there.0 (at_root net.0.net) (on step b) inside) in
      let rep : representative q.design root (at_path up net.0.net) ≡ x = ap (representative q.design root) (sym z_is) ∙ net.2 in
      let long : length up ≡ length (x.path ++ front.0) = ap length (front.1 ∙ ap (λ (v : NetAt). v.path ++ front.0) rep) in
      let two = length-append x.path front.0 in
      let three = ap length is ∙ length-append up (step ∷ []) in
      omega (arith, long, two, three)

  -- the bits of the top that its nets join are its pins
  module _ (at_top_of : x.path ≡ []) where
    x_is : at_root x.net ≡ x
    x_is = λ k. record { path = sym at_top_of k; net = x.net }

    joined_inside : (b : Bit) → Contains (own_bits q.design root) b → (o : Option ℕ) → first_at q.facts root b ≡ o → IsFirstAt q.design root b o
    joined_inside b has o is =
        subst (IsFirstAt q.design root b) (sym (first_at_is q.design q.facts asks.notes asks.ground [] root refl b) ∙ is) ((told_at q.design q.facts asks.notes asks.ground [] root refl).told.inside b has)

    top_body : (b : Bit) → Contains (own_bits q.design root) b → (body : CellBody) × (cell_at q.design root ≡ Some body)
    top_body b has = go (cell_at q.design root) refl has
      where
        go : (o : Option CellBody) → cell_at q.design root ≡ o → Contains (option_map_or bits_of o []) b → (body : CellBody) × (cell_at q.design root ≡ Some body)
        go None is has = absurd (Contains-member [] b has)
        go (Some body) is has = (body, is)

    stands_is : (b : Bit) → Contains (own_bits q.design root) b → stands_as q.role q.design (Pin [] b.port b.bit (Some x)) ≡ bit_stands q.role q.design root b
    stands_is b has =
        let body = top_body b has in
        stands_at_top q.role q.design b.port b.bit (Some x)
        ∙ ap (port_stands q.role true) (direction_is q.design q.facts asks.notes asks.ground [] root refl body.0 body.1 b.port)
        ∙ sym (ap (λ o. option_map_or (λ (v : CellBody). port_stands q.role true (direction_in v b.port)) o false) body.1)

    pin_of_bit : (own_bit : OwnBit) → Contains (bits_in q.tops x.net) own_bit → Member (pins_as q.role q.design x) (Pin [] own_bit.port own_bit.bit (Some x))
    pin_of_bit own_bit has =
        let b : Bit = bit_of own_bit in
        let known = (asks.kept.tops.each x.net own_bit).0 has in
        let inside = joined_inside b known.0 (Some x.net) known.1 in
        let rep = at_top q.design q.facts asks.notes asks.ground inside.0 x.net root refl (Joins-net q.design root (at_root inside.0) (own b) inside.1) inside.2 in
        let pin = net_at_pin-from q.design asks.ground.valid root [] b (at_root inside.0) (refl, inside.1) in
        let item = pin_from q.design (top_of q.design) named_by_top asks.ground.valid.no_cycle [] b (root, refl, shown b known.0) in
        let named : option_map (representative q.design root) (net_at_pin q.design root [] b) ≡ Some x = ap (option_map (representative q.design root)) pin ∙ ap Some (rep ∙ x_is) in
        pin_asked q.role q.design x (Pin [] own_bit.port own_bit.bit (Some x)) (subst (λ o. Member (flattening q.design) (Pin [] own_bit.port own_bit.bit o)) named item)
        (subst (λ v. is_at v (Pin [] own_bit.port own_bit.bit (Some x)) ≡ true) (sym asks.first) (same_net-refl x)) (stands_is b known.0 ∙ known.2)
      where
        shown : (b : Bit) → Contains (own_bits q.design root) b → Contains (pin_bits q.design [] root) b
        shown b has = go (cell_at q.design root) has
          where
            go : (o : Option CellBody) → Contains (option_map_or bits_of o []) b → Contains (option_map_or (shown_bits []) o []) b
            go None has = has
            go (Some body) has = has

    bit_of_pin : (port bit : ℕ) → IsAsked q asks [] port bit → Contains (bits_in q.tops x.net) (record { port = port; bit = bit })
    bit_of_pin port bit asked =
        let b : Bit = record { port = port; bit = bit } in
        let told = pin_there q.design (top_of q.design) named_by_top asks.ground.valid.no_cycle [] port bit (Some x) asked.item in
        let net = some_net root q.design x (net_at_pin q.design root [] b) told.1 in
        let j = net_at_pin-joins q.design root [] b net.0 net.1 in
        let joins : Joins q.design root (at_root net.0.net) (own b) = subst (λ p. Joins q.design root (at_path p net.0.net) (own b)) j.0 j.1 in
        let has = own_there q.design root net.0.net b asks.ground.valid joins in
        let z_is : net.0 ≡ at_root net.0.net = λ k. record { path = j.0 k; net = net.0.net } in
        let first = by net.0.net b joins (ap (representative q.design root) (sym z_is) ∙ net.2) has (first_at q.facts root b) refl in
        (asks.kept.tops.each x.net (record { port = port; bit = bit })).1 (has, first, sym (stands_is b has) ∙ asked.stands)
      where
        by : (n : ℕ) (b : Bit) → Joins q.design root (at_root n) (own b) → representative q.design root (at_root n) ≡ x → Contains (own_bits q.design root) b
            → (o : Option ℕ) → first_at q.facts root b ≡ o → first_at q.facts root b ≡ Some x.net
        by n b joins rep has None is = absurd (joined_inside b has None is n joins)
        by n b joins rep has (Some f) is =
            let inside = joined_inside b has (Some f) is in
            let one : inside.0 ≡ n = own_bit-once q.design asks.ground.valid root b inside.0 n inside.1 joins in
            let rep_f = at_top q.design q.facts asks.notes asks.ground inside.0 f root refl (Joins-net q.design root (at_root inside.0) (own b) inside.1) inside.2 in
            let f_is : f ≡ x.net = ap (λ (v : NetAt). v.net) (sym rep_f ∙ ap (λ v. representative q.design root (at_root v)) one ∙ rep) in
            is ∙ ap Some f_is

  module _ (s : Stand) (stands : MayStand q s) (not_ready : s.ready ≡ false) (own_only : s.levels ≡ []) where
    no_steps : stands.steps ≡ []
    no_steps = go stands.steps (subst (AreLevels q.design q.facts q.cells x x.path stands.steps) own_only stands.levels)
      where
        go : (steps : List ℕ) → AreLevels q.design q.facts q.cells x x.path steps [] → steps ≡ []
        go [] h = refl
        go (i ∷ steps) h = absurd h

    pub path_own : s.path ≡ x.path
    path_own = stands.path_is ∙ ap (λ v. x.path ++ v) no_steps ∙ append-nil x.path

    place_is : place_of s ≡ (x.path, bit_at s)
    place_is = λ k. (path_own k, bit_at s)

    -- a bit of the top at or behind the place
    pub own_left : (at_top_of : x.path ≡ []) (next : OwnBit) → Contains (bits_in q.tops x.net) next → bit_before (bit_of next) (bit_at s) ≡ false
        → ((v : OwnBit) → Contains (bits_in q.tops x.net) v → bit_before (bit_of v) (bit_at s) ≡ false → bit_before (bit_of v) (bit_of next) ≡ false)
        → left q (made_ready (at_bit s next.port next.bit)) ≡ left q s
    own_left at_top_of next has behind least =
        sym (same_left q asks s (made_ready (at_bit s next.port next.bit)) (λ p h. goes_on p (subst (PinBefore p) place_is h)) none)
      where
        new_place : place_of (made_ready (at_bit s next.port next.bit)) ≡ (x.path, bit_of next)
        new_place = λ k. (path_own k, bit_of next)

        goes_on : (p : PinPlace) → PinBefore p (x.path, bit_at s) → PinBefore p (place_of (made_ready (at_bit s next.port next.bit)))
        goes_on p h = subst (PinBefore p) (sym new_place) (elim (bits_compare (bit_at s) (bit_of next)) [
          | inl less ↦ PinBefore-more p (x.path, bit_at s) (x.path, bit_of next) h (inr (refl, less))
          | inr more ↦ elim more [
            | inl same ↦ subst (λ v. PinBefore p (x.path, v)) same h
            | inr back ↦ absurd (true≢false (sym (bit_before-from (bit_of next) (bit_at s) back) ∙ behind))
          ]
        ])

        none : (path : List ℕ) (port bit : ℕ) → IsAsked q asks path port bit → (PinBefore (place_in path port bit) (place_of s) → ⊥) → PinBefore (place_in path port bit) (place_of (made_ready (at_bit s next.port next.bit))) → ⊥
        none path port bit asked low high =
            let b : Bit = record { port = port; bit = bit } in
            elim (subst (PinBefore (path, b)) new_place high) [
              | inl less ↦ not_before_nil path (subst (PathBefore path) at_top_of less)
              | inr same ↦
                  let own_bit = bit_of_pin at_top_of port bit (subst (λ p. IsAsked q asks p port bit) (same.0 ∙ at_top_of) asked) in
                  let not_low : bit_before b (bit_at s) ≡ false = false_from_ne_true (bit_before b (bit_at s)) (λ e. low (subst (PinBefore (path, b)) (sym place_is) (inr (same.0, bit_before-true b (bit_at s) e)))) in
                  true≢false (sym (bit_before-from b (bit_of next) same.1) ∙ least (record { port = port; bit = bit }) own_bit not_low)
            ]

    pub own_stands : (at_top_of : x.path ≡ []) (next : OwnBit) → Contains (bits_in q.tops x.net) next → MayStand q (made_ready (at_bit s next.port next.bit))
    own_stands at_top_of next has = record {
      steps = stands.steps;
      path_is = stands.path_is;
      levels = stands.levels;
      lowest = inl no_steps;
      ready = λ e. Member-contains (pins_as q.role q.design x) (Pin s.path next.port next.bit (Some x))
          (subst (λ p. Member (pins_as q.role q.design x) (Pin p next.port next.bit (Some x))) (sym (path_own ∙ at_top_of)) (pin_of_bit at_top_of next has));
    }

    -- none, and into the occurrence
    module _ (none_left_here : x.path ≡ [] → (v : OwnBit) → Contains (bits_in q.tops x.net) v → bit_before (bit_of v) (bit_at s) ≡ true) where
      no_pin : (port bit : ℕ) → IsAsked q asks x.path port bit → (PinBefore (place_in x.path port bit) (place_of s) → ⊥) → ⊥
      no_pin port bit asked low = elim (last_cases x.path) [
        | inl empty ↦
            let own_bit = bit_of_pin empty port bit (subst (λ p. IsAsked q asks p port bit) empty asked) in
            low (subst (PinBefore (place_in x.path port bit)) (sym place_is) (inr (refl, bit_before-true (record { port = port; bit = bit }) (bit_at s) (none_left_here empty (record { port = port; bit = bit }) own_bit))))
        | inr e ↦ not_at_own port bit e.0 e.1 e.2 asked
      ]

      module _ (level : Level) (level_is : IsLevel q.design q.facts q.cells x x.path level) where
        pub into_stands : MayStand q (entered s level)
        into_stands = record {
          steps = 0 ∷ [];
          path_is = ap (λ p. p ++ 0 ∷ []) path_own;
          levels = subst (AreLevels q.design q.facts q.cells x x.path (0 ∷ [])) (sym (ap (λ v. v ++ level ∷ []) own_only)) (level_is, tt);
          lowest = inr (inl (refl, refl));
          ready = λ e. absurd (true≢false (sym e ∙ not_ready));
        }

        new_place : place_of (entered s level) ≡ (x.path ++ 0 ∷ [], first_bit)
        new_place = λ k. (path_own k ++ 0 ∷ [], first_bit)

        old_place : place_of s ≡ (x.path ++ [], bit_at s)
        old_place = λ k. ((path_own ∙ sym (append-nil x.path)) k, bit_at s)

        none : (path : List ℕ) (port bit : ℕ) → IsAsked q asks path port bit → (PinBefore (place_in path port bit) (place_of s) → ⊥) → PinBefore (place_in path port bit) (place_of (entered s level)) → ⊥
        none path port bit asked low high =
            let b : Bit = record { port = port; bit = bit } in
            let mid = between x.path [] (0 ∷ []) path (bit_at s) b first_bit (λ h. low (subst (PinBefore (path, b)) (sym old_place) h)) (subst (PinBefore (path, b)) new_place high) in
            let here : path ≡ x.path = mid.1 ∙ ap (λ v. x.path ++ v) (nothing mid.0 mid.3) ∙ append-nil x.path in
            no_pin port bit (subst (λ p. IsAsked q asks p port bit) here asked) (λ h. low (subst (λ p. PinBefore (p, b) (place_of s)) (sym here) h))
          where
            nothing : (rest : List ℕ) → PinBefore (rest, record { port = port; bit = bit }) (0 ∷ [], first_bit) → rest ≡ []
            nothing [] h = refl
            nothing (k ∷ rest) h = absurd (elim h [
              | inl path ↦ elim path [ inl less ↦ omega (arith, less) | inr same ↦ not_before_nil rest same.1 ]
              | inr same ↦ none_before_first (record { port = port; bit = bit }) same.1
            ])

        pub into_left : left q (entered s level) ≡ left q s
        into_left =
            sym (same_left q asks s (entered s level)
            (λ p h. subst (PinBefore p) (sym new_place) (PinBefore-more p (x.path ++ [], bit_at s) (x.path ++ 0 ∷ [], first_bit) (subst (PinBefore p) old_place h)
            (inl (PathBefore-under x.path [] (0 ∷ []) tt))))
            none)

      -- where the path of the net leads nowhere, nothing is left
      pub nowhere_left : cell_along q.design root x.path ≡ None → left q s ≡ []
      nowhere_left nowhere =
          none_left q asks s (λ path port bit asked low.
          let told = pin_there q.design (top_of q.design) named_by_top asks.ground.valid.no_cycle path port bit (Some x) asked.item in
          let front = Reaches-front q.design root told.0.0 x.path asked.rest (subst (λ p. Reaches q.design root p told.0.0) asked.behind told.0.1) in
          none-some front.0 (sym nowhere ∙ front.1))
