-- The net at a bit of an occurrence, by what is kept of the cell above it.
use Rattle.std.proofs.Common.{◌≡◌, ◌<◌, ◌+◌, ℕ, List, [], ◌∷◌, ◌++◌, length, refl, sym, ap, subst, ◌∙◌, Some, None, Option, slice_get, append-nil, arith}
use Rattle.std.specs.List.{Contains}
use Rattle.std.specs.Option.{option_map, option_map_or}
use Rattle.std.proofs.lemmas.Option.{none-some, slice_get-get_or}
use Rattle.netlist_schema.specs.Design.{Design, cell_at, port_width}
use Rattle.netlist_schema.specs.Types.{CellBody, CellId, Net, Port, TopHead}
use Rattle.std.specs.Prelude.{option_and_then, position}
use Rattle.flat_spec.specs.Connection.{Connected}
use Rattle.flat_spec.specs.ConnectionTest.{has_end}
use Rattle.flat_spec.specs.Paths.{Bit, IsNet, Joins, Reaches, at_path, at_root, cell_along, nets_at, on, own}
use Rattle.flat_spec.specs.Pins.{bits_of, net_at_pin, net_joining, own_bits}
use Rattle.flat_spec.specs.Representatives.{representative}
use Rattle.flat_spec.specs.Types.{NetAt}
use Rattle.flat_spec.proofs.BitLemmas.{bits_from, number_at, number_back, own_there}
use Rattle.flat_spec.proofs.ListLemmas.{slice_get-contains}
use Rattle.flat_spec.proofs.PathLemmas.{Joins-inward_here, Joins-net, Joins-outward_here, Joins-reaches}
use Rattle.flat_spec.proofs.PinLemmas.{net_at_pin-from, net_at_pin-joins, net_joining-from, net_joining-joins}
use Rattle.flat_spec.proofs.RepresentativeLemmas.{Connected-net, representative-connected}
use Rattle.flat_spec.proofs.ConnectionLemmas.{Connected-below}
use Rattle.net_classes.specs.Facts.{Facts, first_at}
use Rattle.net_classes.specs.Inside.{IsFirstAt}
use Rattle.net_names.specs.Search.{IsNetFound, joint_at}
use Rattle.flat_items.specs.declared.notes.PlacedNotes.{PlacedNotes}
use Rattle.flat_items.specs.Stand.{IsGround, top_of}
use Rattle.ask_spec.specs.Nets.{inner_net_of, net_of}
use Rattle.ask_spec.proofs.AnswerLemmas.{net_of_is}
use Rattle.ask_spec.proofs.SideLemmas.{joins_outer, outer_joins}
use Rattle.net_ways.specs.Climb.{IsFirstAnswer}
use Rattle.net_ways.specs.Ways.{joints_in}
use Rattle.net_ways.proofs.ClimbLemmas.{first_at_is, joint_joins, joins_joint, told_at}

none_of : {A : Type 0} (o : Option A) → ((x : A) → o ≡ Some x → ⊥) → o ≡ None
none_of None none = refl
none_of (Some x) none = absurd (none x refl)

-- the bits of a cell
module _ (d : Design) (c : CellId) (body : CellBody) (is : cell_at d c ≡ Some body) (port bit : ℕ) where
  bits_are : own_bits d c ≡ bits_from 0 body.ports
  bits_are = ap (λ o. option_map_or bits_of o []) is

  pub bit_there : (p : Port) → slice_get body.ports port ≡ Some p → bit < port_width p → Contains (own_bits d c) (record { port = port; bit = bit })
  bit_there p at less =
      let found = number_at body.ports 0 port bit p at less in
      let same : 0 + port ≡ port = omega arith in
      subst (λ bs. Contains bs (record { port = port; bit = bit })) (sym bits_are)
      (slice_get-contains (bits_from 0 body.ports) _ (record { port = port; bit = bit }) (found ∙ ap (λ v. Some (record { port = v; bit = bit })) same))

  pub there_bit : Contains (own_bits d c) (record { port = port; bit = bit }) → (p : Port) × (slice_get body.ports port ≡ Some p) × (bit < port_width p)
  there_bit has =
      let b : Bit = record { port = port; bit = bit } in
      let in_body = subst (λ bs. Contains bs b) bits_are has in
      let at : slice_get (bits_from 0 body.ports) in_body.0 ≡ Some b = slice_get-get_or (bits_from 0 body.ports) in_body.0 b in_body.1 ∙ ap Some in_body.2 in
      let known = number_back 0 body.ports in_body.0 b at in
      let same : known.at ≡ port = omega (arith, known.port_is) in
      (known.port, subst (λ v. slice_get body.ports v ≡ Some known.port) same known.there, known.within)

-- without such a cell there are none
pub no_bits : (d : Design) (c : CellId) (b : Bit) → cell_at d c ≡ None → Contains (own_bits d c) b → ⊥
no_bits d c b is has = let none = subst (λ (o : Option CellBody). Contains (option_map_or bits_of o []) b) is has in omega (arith, none.1)

module _ (d : Design) (facts : Facts) (notes : PlacedNotes) (ground : IsGround d facts notes) where
  abbrev root : CellId
  root = (top_of d).cell

  -- seen from inside
  module _ (path : List ℕ) (port bit : ℕ) where
    abbrev b : Bit
    b = record { port = port; bit = bit }

    inner_is : inner_net_of d path port bit ≡ option_map (representative d root) (net_joining d root path (own b))
    inner_is = ap (option_and_then (λ (top : TopHead). option_map (representative d top.cell) (net_joining d top.cell path (own b)))) ground.top

    inner_of : (o : Option NetAt) → net_joining d root path (own b) ≡ o → option_map (representative d root) o ≡ inner_net_of d path port bit
    inner_of o is = ap (option_map (representative d root)) (sym is) ∙ sym inner_is

    pub nowhere_inside : cell_along d root path ≡ None → None ≡ inner_net_of d path port bit
    nowhere_inside is =
        inner_of None (ap (λ o. option_map (at_path path) (option_map_or (λ (c : CellId). position (λ (net : Net). has_end net.ends (own b)) (nets_at d c)) o None)) is)

    module _ (c : CellId) (at : Reaches d root path c) where
      first_told : (o : Option ℕ) → Contains (own_bits d c) b → first_at facts c b ≡ o → IsFirstAt d c b o
      first_told o has is =
          subst (λ v. IsFirstAt d c b v) (sym (first_at_is d facts notes ground path c at b) ∙ is) ((told_at d facts notes ground path c at).told.inside b has)

      pub none_inside : IsFirstAnswer d facts c b None → None ≡ inner_net_of d path port bit
      none_inside none =
          inner_of None (none_of (net_joining d root path (own b)) (λ (x : NetAt) found.
          let j = net_joining-joins d root path (own b) x found in
          let inner = Joins-inward_here d root c path x.net (own b) at (subst (λ p. Joins d root (at_path p x.net) (own b)) j.0 j.1) in
          let has = own_there d c x.net b ground.valid inner in
          first_told None has (none has) x.net inner))

      pub one_inside : (f : ℕ) → IsFirstAnswer d facts c b (Some f)
          → IsNet d c (at_root f) × ((first : NetAt) → first ≡ representative d root (at_path path f) → Some first ≡ inner_net_of d path port bit)
      one_inside f answer =
          let is : IsFirstAt d c b (Some f) = first_told (Some f) answer.0 answer.1 in
          let m = is.0 in
          let net = Joins-net d c (at_root m) (own b) is.1 in
          let joins = Joins-outward_here d root c path m (own b) at is.1 in
          let below : Connected d root (at_path path m) (at_path path f) =
          subst (λ p. Connected d root (at_path p m) (at_path p f)) (append-nil path) (Connected-below d root c path (at_root m) (at_root f) at is.2.connected) in
          let there = Connected-net d root (at_path path m) (at_path path f) below (Joins-net d root (at_path path m) (own b) joins) in
          let same = representative-connected d ground.valid.no_cycle root (at_path path m) (at_path path f) there below in (
            Connected-net d c (at_root m) (at_root f) is.2.connected net,
            λ first e. ap Some (e ∙ sym same) ∙ inner_of (Some (at_path path m)) (net_joining-from d ground.valid root (own b) (at_path path m) joins),
          )

  -- seen from outside, below the top
  module _ (above : List ℕ) (step port bit : ℕ) where
    abbrev pin : Bit
    pin = record { port = port; bit = bit }

    outer_of : (o : Option NetAt) → net_at_pin d root (above ++ step ∷ []) pin ≡ o → option_map (representative d root) o ≡ net_of d (above ++ step ∷ []) port bit
    outer_of o is = ap (option_map (representative d root)) (sym is) ∙ sym (net_of_is d (top_of d) ground.top (above ++ step ∷ []) port bit)

    pub nowhere_on : cell_along d root above ≡ None → None ≡ net_of d (above ++ step ∷ []) port bit
    nowhere_on is =
        outer_of None (none_of (net_at_pin d root (above ++ step ∷ []) pin) (λ (x : NetAt) found.
        let j = outer_joins d root above step pin x (net_at_pin-joins d root (above ++ step ∷ []) pin x found) in
        let there = Joins-reaches d root (at_path above x.net) (on step pin) j in
        none-some there.0 (sym is ∙ there.1)))

    module _ (up : CellId) (at : Reaches d root above up) where
      pub none_on : IsNetFound (joints_in facts up) step pin None → None ≡ net_of d (above ++ step ∷ []) port bit
      none_on none =
          outer_of None (none_of (net_at_pin d root (above ++ step ∷ []) pin) (λ (x : NetAt) found.
          let j = outer_joins d root above step pin x (net_at_pin-joins d root (above ++ step ∷ []) pin x found) in
          let inner = Joins-inward_here d root up above x.net (on step pin) at j in
          none x.net (joins_joint d facts notes ground above up at (joint_at step pin x.net) inner)))

      pub one_on : (m : ℕ) → IsNetFound (joints_in facts up) step pin (Some m)
          → IsNet d up (at_root m) × ((first : NetAt) → first ≡ representative d root (at_path above m) → Some first ≡ net_of d (above ++ step ∷ []) port bit)
      one_on m has =
          let joins = joint_joins d facts notes ground above up at (joint_at step pin m) has in
          let found = net_at_pin-from d ground.valid root (above ++ step ∷ []) pin (at_path above m)
          (joins_outer d root above step pin m (Joins-outward_here d root up above m (on step pin) at joins)) in (
            Joins-net d up (at_root m) (on step pin) joins,
            λ first e. ap Some e ∙ outer_of (Some (at_path above m)) found,
          )

-- the top has but one side
pub one_side : (d : Design) (path : List ℕ) (port bit : ℕ) → length path ≡ 0 → inner_net_of d path port bit ≡ net_of d path port bit
one_side d [] port bit none = refl
one_side d (i ∷ path) port bit none = absurd (omega (arith, none))
