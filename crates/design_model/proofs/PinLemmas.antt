-- The pins that an occurrence shows, and the net at a pin.
use Rattle.std.proofs.Common.{◌≡◌, ◌<◌, ◌≤◌, ◌+◌, ℕ, List, [], ◌∷◌, ◌++◌, length, get_or, drop, Bool, true, false, refl, sym, ap, ◌∙◌, Option, Some, None}
use Rattle.std.specs.Prelude.{slice_get, option_and_then, nat_eq, is_none, if◌then◌else◌}
use Rattle.std.specs.List.{position_from}
use Rattle.std.specs.Option.{option_map_or}
use Rattle.std.proofs.lemmas.Bool.{cond-true, cond-false, eqb-true}
use Rattle.std.proofs.lemmas.List.{drop_more, drop_all, nil_from_length}
use Rattle.netlist_schema.specs.Design.{Design}
use Rattle.netlist_schema.specs.Hierarchy.{insts_at}
use Rattle.netlist_schema.specs.Types.{CellBody, CellId, Contents, Inst}
use Rattle.flat_spec.specs.ConnectionTest.{above}
use Rattle.flat_spec.specs.Paths.{Bit, own, on, cell_along, IsNet}
use Rattle.flat_spec.specs.Pins.{bits_of, shown_bits, net_joining, net_at_pin, JoinsPin}
use Rattle.flat_spec.specs.declared.item.NetAt.{NetAt}
use Rattle.flat_spec.proofs.PathLemmas.{Joins-net}
use Rattle.flat_spec.proofs.PinLemmas.{net_at_pin-joins}
use Rattle.flat_spec.proofs.TestLemmas.{above-append}
use Rattle.design_model.specs.Items.{bits_from}
use Rattle.flat_spec.proofs.RunLemmas.{drop-first}

-- the root shows the bits of all ports
pub shown_bits-root : (path : List ℕ) (body : CellBody) → nat_eq (length path) 0 ≡ true → bits_from 0 body.ports ≡ shown_bits path body
shown_bits-root path body none = ap (λ p. shown_bits p body) (sym (nil_from_length path (eqb-true (length path) 0 none)))

-- a leaf shows the bits of all ports
pub shown_bits-leaf : (path : List ℕ) (body : CellBody) → body.contents ≡ None → bits_from 0 body.ports ≡ shown_bits path body
shown_bits-leaf [] body leaf = refl
shown_bits-leaf (i ∷ path) body leaf = ap (λ o. if is_none o then bits_of body else []) (sym leaf)

-- another cell shows none
pub shown_bits-none : (path : List ℕ) (body : CellBody) (contents : Contents) → nat_eq (length path) 0 ≡ false → body.contents ≡ Some contents
    → [] ≡ shown_bits path body
shown_bits-none [] body contents some inside = absurd (cc some)
shown_bits-none (i ∷ path) body contents some inside = ap (λ o. if is_none o then bits_of body else []) (sym inside)

module _ {A : Type 0} (test : A → Bool) (xs : List A) (i : ℕ) (answer : Option ℕ) where
  -- an element passes
  pub place_found : (x : A) → i < length xs → x ≡ get_or xs i x → test x ≡ true → position_from test i (drop i xs) ≡ answer → Some i ≡ answer
  place_found x within is passes so_far =
      sym (cond-true (test x) (Some i) (position_from test (i + 1) (drop (i + 1) xs)) passes)
      ∙ sym (ap (position_from test i) (drop-first xs i x within is))
      ∙ so_far

  -- an element does not pass
  pub place_passed : (x : A) → i < length xs → x ≡ get_or xs i x → test x ≡ false → position_from test i (drop i xs) ≡ answer
      → position_from test (i + 1) (drop (i + 1) xs) ≡ answer
  place_passed x within is fails so_far =
      sym (cond-false (test x) (Some i) (position_from test (i + 1) (drop (i + 1) xs)) fails)
      ∙ sym (ap (position_from test i) (drop-first xs i x within is))
      ∙ so_far

  -- no element passed
  pub no_place : length xs ≤ i → position_from test i (drop i xs) ≡ answer → None ≡ answer
  no_place past so_far = sym (ap (position_from test i) (drop_all i xs past)) ∙ so_far

module _ (d : Design) (c : CellId) (path : List ℕ) (i : ℕ) (answer : Option CellId) where
  -- one step further
  pub step_taken : (inst : Inst) → i < length path → slice_get (insts_at d c) (get_or path i 0) ≡ Some inst → cell_along d c (drop i path) ≡ answer
      → cell_along d inst.of (drop (i + 1) path) ≡ answer
  step_taken inst within at so_far =
      sym (ap (option_and_then (λ (v : Inst). cell_along d v.of (drop (i + 1) path))) at) ∙ sym (ap (cell_along d c) (drop_more path i 0 within)) ∙ so_far

  -- the step leads nowhere
  pub step_missing : i < length path → slice_get (insts_at d c) (get_or path i 0) ≡ None → cell_along d c (drop i path) ≡ answer → None ≡ answer
  step_missing within at so_far =
      sym (ap (option_and_then (λ (v : Inst). cell_along d v.of (drop (i + 1) path))) at) ∙ sym (ap (cell_along d c) (drop_more path i 0 within)) ∙ so_far

  -- no step is left
  pub path_ended : length path ≤ i → cell_along d c (drop i path) ≡ answer → Some c ≡ answer
  path_ended past so_far = sym (ap (cell_along d c) (drop_all i path past)) ∙ so_far

-- the root's bits are joined in its own contents
pub net_at_pin-root : (d : Design) (root : CellId) (path : List ℕ) (b : Bit) → length path ≡ 0 → net_joining d root [] (own b) ≡ net_at_pin d root path b
net_at_pin-root d root path b none = ap (λ p. net_at_pin d root p b) (sym (nil_from_length path none))

-- another's in those of its parent
pub net_at_pin-step : (d : Design) (root : CellId) (path up : List ℕ) (step : ℕ) (b : Bit) → path ≡ up ++ step ∷ []
    → net_joining d root up (on step b) ≡ net_at_pin d root path b
net_at_pin-step d root path up step b is =
    sym (ap (λ o. option_map_or (λ (v : List ℕ × ℕ). net_joining d root v.0 (on v.1 b)) o (net_joining d root [] (own b))) (ap above is ∙ above-append up step))

-- the net at a pin is one of the tree's
pub net_at_pin-net : (d : Design) (root : CellId) (path : List ℕ) (b : Bit) (x : NetAt) → net_at_pin d root path b ≡ Some x → IsNet d root x
net_at_pin-net d root path b x is = joined path (net_at_pin-joins d root path b x is)
  where
    joined : (path : List ℕ) → JoinsPin d root x path b → IsNet d root x
    joined [] j = Joins-net d root x (own b) j.1
    joined (i ∷ path) j = Joins-net d root x (on j.0 b) j.2
