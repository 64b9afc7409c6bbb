-- The nets at a bit of an occurrence, outside and inside.
use Rattle.std.proofs.Common.{◌≡◌, ℕ, List, [], ◌∷◌, ◌++◌, Some, refl, sym, ap, subst, ◌∙◌, inl}
use Rattle.std.specs.Prelude.{option_and_then}
use Rattle.std.specs.Option.{option_map}
use Rattle.std.proofs.lemmas.List.{same_from_push}
use Rattle.netlist_schema.specs.Design.{Design}
use Rattle.netlist_schema.specs.Types.{CellId, TopHead}
use Rattle.flat_spec.specs.Connection.{Connected, Meets}
use Rattle.flat_spec.specs.Paths.{Bit, Joins, at_path, on, own}
use Rattle.flat_spec.specs.Pins.{JoinsPin, net_at_pin, net_joining}
use Rattle.flat_spec.specs.Representatives.{representative}
use Rattle.flat_spec.specs.Types.{NetAt}
use Rattle.flat_spec.proofs.PathLemmas.{Joins-net, and_then-parts}
use Rattle.flat_spec.proofs.PinLemmas.{map-parts, net_at_pin-joins, net_joining-joins}
use Rattle.flat_spec.proofs.RepresentativeLemmas.{representative-connected}
use Rattle.ask_spec.specs.Told.{SidesAgree}

-- a net of the parent that joins the bit on the instance joins the pin, and no other does
pub joins_outer : (d : Design) (root : CellId) (path : List ℕ) (step : ℕ) (b : Bit) (n : ℕ) → Joins d root (at_path path n) (on step b)
    → JoinsPin d root (at_path path n) (path ++ step ∷ []) b
joins_outer d root [] step b n j = (step, refl, j)
joins_outer d root (i ∷ path) step b n j = (step, refl, j)

pub outer_joins : (d : Design) (root : CellId) (path : List ℕ) (step : ℕ) (b : Bit) (x : NetAt) → JoinsPin d root x (path ++ step ∷ []) b
    → Joins d root (at_path path x.net) (on step b)
outer_joins d root path step b x j = go path refl j
  where
    from : (s : ℕ) → path ++ step ∷ [] ≡ x.path ++ s ∷ [] → Joins d root x (on s b) → Joins d root (at_path path x.net) (on step b)
    from s is joins =
        let same = same_from_push path x.path step s is in
        subst (λ p. Joins d root (at_path p x.net) (on step b)) (sym same.0) (subst (λ v. Joins d root x (on v b)) (sym same.1) joins)

    go : (p : List ℕ) → path ≡ p → JoinsPin d root x (p ++ step ∷ []) b → Joins d root (at_path path x.net) (on step b)
    go [] is j = from j.0 (ap (λ v. v ++ step ∷ []) is ∙ j.1) j.2
    go (i ∷ p) is j = from j.0 (ap (λ v. v ++ step ∷ []) is ∙ j.1) j.2

-- the net that joins a bit below a path stands at that path
pub pin_path : (d : Design) (root : CellId) (up : List ℕ) (step : ℕ) (b : Bit) (z : NetAt) → JoinsPin d root z (up ++ step ∷ []) b → z ≡ at_path up z.net
pin_path d root up step b z j = go up refl j
  where
    from : (s : ℕ) → up ++ step ∷ [] ≡ z.path ++ s ∷ [] → z ≡ at_path up z.net
    from s is = let same = same_from_push up z.path step s is in λ k. record { path = sym same.0 k; net = z.net }

    go : (p : List ℕ) → up ≡ p → JoinsPin d root z (p ++ step ∷ []) b → z ≡ at_path up z.net
    go [] is j = from j.0 (ap (λ v. v ++ step ∷ []) is ∙ j.1)
    go (k ∷ p) is j = from j.0 (ap (λ v. v ++ step ∷ []) is ∙ j.1)

-- the one meets the other
pub sides_agree : SidesAgree
sides_agree d path step port bit x y valid outside inside =
    let b : Bit = record { port = port; bit = bit } in
    let p : List ℕ = path ++ step ∷ [] in
    let upper = and_then-parts (λ (t : TopHead). option_map (representative d t.cell) (net_at_pin d t.cell p b)) d.top x outside in
    let root : CellId = upper.0.cell in
    let inner : option_map (representative d root) (net_joining d root p (own b)) ≡ Some y =
    sym (ap (option_and_then (λ (t : TopHead). option_map (representative d t.cell) (net_joining d t.cell p (own b)))) upper.1) ∙ inside in
    let z = map-parts (representative d root) (net_at_pin d root p b) x upper.2 in
    let w = map-parts (representative d root) (net_joining d root p (own b)) y inner in
    let joins = net_at_pin-joins d root p b z.0 z.1 in
    let z_is = pin_path d root path step b z.0 joins in
    let outer : Joins d root z.0 (on step b) = subst (λ v. Joins d root v (on step b)) (sym z_is) (outer_joins d root path step b z.0 joins) in
    let own_side = net_joining-joins d root p (own b) w.0 w.1 in
    let meets : Meets d root z.0 w.0 = record {
      step = step;
      joint = b;
      below = own_side.0 ∙ ap (λ (v : NetAt). v.path ++ step ∷ []) (sym z_is);
      joins_on = outer;
      joins_own = own_side.1;
    } in
    let connected : Connected d root z.0 w.0 = (w.0 ∷ [], (inl meets, refl)) in
    sym z.2 ∙ representative-connected d valid.no_cycle root z.0 w.0 (Joins-net d root w.0 (own b) own_side.1) connected ∙ w.2
