-- The pins of a flattening are in order, so each comes once; and those that pass a test are too.
use Rattle.std.proofs.Common.{◌≡◌, ◌≢◌, ℕ, ◌+◌, ◌<◌, ◌≤◌, List, [], ◌∷◌, ◌++◌, map, length, Bool, true, false, cond, Option, Some, None, refl, sym, ap, subst, ◌∙◌, inl, inr, arith}
use Rattle.std.specs.Prelude.{is_none}
use Rattle.std.specs.List.{flat_map, range_with_len}
use Rattle.std.specs.Option.{option_map_or}
use Rattle.std.proofs.lemmas.Grind.{flat_map-append}
use Rattle.netlist_schema.specs.Design.{Design, cell_at, port_width}
use Rattle.netlist_schema.specs.Types.{CellBody, CellId, Port, TopHead}
use Rattle.flat_spec.specs.Flattening.{items_of, net_item, pin_item}
use Rattle.flat_spec.specs.Occurrences.{Occurrence, own_nets}
use Rattle.flat_spec.specs.PathOrder.{PathBefore}
use Rattle.flat_spec.specs.Paths.{Bit}
use Rattle.flat_spec.specs.Pins.{shown_bits}
use Rattle.flat_spec.specs.Types.{Item, NetAt}
use Rattle.flat_spec.specs.declared.item.Item.TheVariants.{Enter, Net, Pin}
use Rattle.flat_spec.proofs.BitLemmas.{bits_from, bits_in}
use Rattle.flat_spec.proofs.ListLemmas.{Ascends, Ascends-append, Ascends-map, Member, Member-append_cases, Member-append_left, Member-append_right, Member-from_map, without}
use Rattle.flat_spec.proofs.OccurrenceLemmas.{OccurrenceBefore, range_with_len-ascends}
use Rattle.flat_spec.proofs.RepresentativeLemmas.{PathBefore-not_both}
use Rattle.erc_spec.specs.Told.{BitBefore, pin_bits, PinBefore}
use Rattle.erc_spec.proofs.MemberLemmas.{Member-flat_map, Member-from_flat_map}

pub PinBefore-differ : (p q : List ℕ × Bit) → PinBefore p q → p ≢ q
PinBefore-differ p q before same = not_itself p (subst (λ (v : List ℕ × Bit). PinBefore p v) (sym same) before)
  where
    not_itself : (r : List ℕ × Bit) → PinBefore r r → ⊥
    not_itself r h =
        elim h [
          | inl path ↦ PathBefore-not_both r.0 r.0 path path
          | inr bit ↦ elim bit.1 [ inl less ↦ omega (arith, less) | inr less ↦ omega (arith, less.1) ]
        ]

bits_in-port : (port count : ℕ) (b : Bit) → Member (bits_in port 0 count) b → b.port ≡ port
bits_in-port port count b m =
    let from = Member-from_map (λ bit. record { port = port; bit = bit }) (range_with_len 0 count) b m in sym (ap (λ (v : Bit). v.port) from.2)

bits_from-least : (place : ℕ) (ports : List Port) (b : Bit) → Member (bits_from place ports) b → place ≤ b.port
bits_from-least place [] b m = absurd m
bits_from-least place (p ∷ ports) b m =
    elim (Member-append_cases (bits_in place 0 (port_width p)) (bits_from (place + 1) ports) b m) [
      | inl here ↦ let is = bits_in-port place (port_width p) b here in omega (arith, is)
      | inr there ↦ let least = bits_from-least (place + 1) ports b there in omega (arith, least)
    ]

bits_from-ascend : (place : ℕ) (ports : List Port) → Ascends BitBefore (bits_from place ports)
bits_from-ascend place [] = tt
bits_from-ascend place (p ∷ ports) =
    Ascends-append BitBefore (bits_in place 0 (port_width p)) (bits_from (place + 1) ports)
    (Ascends-map (λ j k. j < k) BitBefore (λ bit. record { port = place; bit = bit }) (λ j k less. inr (refl, less)) (range_with_len 0 (port_width p)) (range_with_len-ascends 0 (port_width p)))
    (bits_from-ascend (place + 1) ports)
    (λ a b here there.
    let is = bits_in-port place (port_width p) a here in
    let least = bits_from-least (place + 1) ports b there in
    inl (omega (arith, is, least)))

shown_bits-ascend : (path : List ℕ) (body : CellBody) → Ascends BitBefore (shown_bits path body)
shown_bits-ascend [] body = bits_from-ascend 0 body.ports
shown_bits-ascend (i ∷ path) body = by (is_none body.contents)
  where
    by : (b : Bool) → Ascends BitBefore (cond b (bits_from 0 body.ports) [])
    by true = bits_from-ascend 0 body.ports
    by false = tt

pub pin_bits-ascend : (d : Design) (path : List ℕ) (c : CellId) → Ascends BitBefore (pin_bits d path c)
pin_bits-ascend d path c = by (cell_at d c)
  where
    by : (o : Option CellBody) → Ascends BitBefore (option_map_or (shown_bits path) o [])
    by None = tt
    by (Some body) = shown_bits-ascend path body

-- the pin of an item
abbrev pub pin_at : Item → List (List ℕ × Bit)
pin_at (Enter path cell properties) = []
pin_at (Net path net first) = []
pin_at (Pin path port bit first) = (path, record { port = port; bit = bit }) ∷ []

module _ (d : Design) (top : TopHead) where
  pins_of_nets : (xs : List NetAt) → flat_map pin_at (map (net_item d top.cell) xs) ≡ []
  pins_of_nets [] = refl
  pins_of_nets (x ∷ xs) = pins_of_nets xs

  pins_of_bits : (path : List ℕ) (bs : List Bit) → flat_map pin_at (map (pin_item d top.cell path) bs) ≡ map (λ b. (path, b)) bs
  pins_of_bits path [] = refl
  pins_of_bits path (b ∷ bs) = ap (λ v. (path, b) ∷ v) (pins_of_bits path bs)

  pins_of_occurrence : (o : Occurrence) → flat_map pin_at (items_of d top o) ≡ map (λ b. (o.path, b)) (pin_bits d o.path o.cell)
  pins_of_occurrence o =
      flat_map-append pin_at (map (net_item d top.cell) (own_nets d o)) (map (pin_item d top.cell o.path) (pin_bits d o.path o.cell))
      ∙ (ap (λ v. v ++ flat_map pin_at (map (pin_item d top.cell o.path) (pin_bits d o.path o.cell))) (pins_of_nets (own_nets d o))
      ∙ pins_of_bits o.path (pin_bits d o.path o.cell))

  pin_path : (o : Occurrence) (p : List ℕ × Bit) → Member (flat_map pin_at (items_of d top o)) p → o.path ≡ p.0
  pin_path o p m =
      let from = Member-from_map (λ b. (o.path, b)) (pin_bits d o.path o.cell) p (subst (λ v. Member v p) (pins_of_occurrence o) m) in
      ap (λ (v : List ℕ × Bit). v.0) from.2

  pin_below : (os : List Occurrence) (p : List ℕ × Bit) → Member (flat_map pin_at (flat_map (items_of d top) os)) p → (o : Occurrence) × Member os o × (o.path ≡ p.0)
  pin_below os p m =
      let found = Member-from_flat_map pin_at (flat_map (items_of d top) os) p m in
      let at = Member-from_flat_map (items_of d top) os found.0 found.1 in
      (at.0, at.1, pin_path at.0 p (Member-flat_map pin_at (items_of d top at.0) found.0 p at.2 found.2))

  pub pins-ascend : (os : List Occurrence) → Ascends OccurrenceBefore os → Ascends PinBefore (flat_map pin_at (flat_map (items_of d top) os))
  pins-ascend [] h = tt
  pins-ascend (o ∷ os) h =
      subst (Ascends PinBefore) (sym (flat_map-append pin_at (items_of d top o) (flat_map (items_of d top) os)))
      (Ascends-append PinBefore (flat_map pin_at (items_of d top o)) (flat_map pin_at (flat_map (items_of d top) os))
      (subst (Ascends PinBefore) (sym (pins_of_occurrence o))
      (Ascends-map BitBefore PinBefore (λ b. (o.path, b)) (λ a b before. inr (refl, before)) (pin_bits d o.path o.cell) (pin_bits-ascend d o.path o.cell)))
      (pins-ascend os h.1)
      (λ p q here there.
      let later = pin_below os q there in
      let before : PathBefore o.path q.0 = subst (λ v. PathBefore o.path v) later.2 (h.0 later.0 later.1) in
      inl (subst (λ v. PathBefore v q.0) (pin_path o p here) before)))

-- two parts of a list in order
pub ascends_parts : {B : Type 0} (R : B → B → Type 0) (xs ys : List B) → Ascends R (xs ++ ys) → Ascends R xs × Ascends R ys × ((x y : B) → Member xs x → Member ys y → R x y)
ascends_parts R [] ys h = (tt, h, λ x y m k. absurd m)
ascends_parts R (v ∷ xs) ys h =
    let rest = ascends_parts R xs ys h.1 in (
      (λ y m. h.0 y (Member-append_left xs ys y m), rest.0),
      rest.1,
      λ x y m k. elim m [ inl same ↦ subst (λ w. R w y) same (h.0 y (Member-append_right xs ys y k)) | inr there ↦ rest.2 x y there k ],
    )

-- the part of a list in order that passes a test is in order
module _ {A B : Type 0} (R : B → B → Type 0) (f : A → List B) (test : A → Bool) where
  abbrev pub part : A → List B
  part x = cond (test x) (f x) []

  pub part-member : (xs : List A) (y : B) → Member (flat_map part xs) y → (x : A) × Member xs x × (test x ≡ true) × Member (f x) y
  part-member xs y m = let found = Member-from_flat_map part xs y m in by found.0 found.1 (test found.0) refl found.2
    where
      by : (x : A) → Member xs x → (b : Bool) → test x ≡ b → Member (cond b (f x) []) y → (x : A) × Member xs x × (test x ≡ true) × Member (f x) y
      by x at true is here = (x, at, is, here)
      by x at false is here = absurd here

  pub part-ascends : (xs : List A) → Ascends R (flat_map f xs) → Ascends R (flat_map part xs)
  part-ascends [] h = tt
  part-ascends (x ∷ xs) h =
      let all = ascends_parts R (f x) (flat_map f xs) h in
      Ascends-append R (part x) (flat_map part xs) (here (test x) all.0) (part-ascends xs all.1)
      (λ y z m k. let found = part-member xs z k in all.2 y z (front (test x) y m) (Member-flat_map f xs found.0 z found.1 found.3))
    where
      here : (b : Bool) → Ascends R (f x) → Ascends R (cond b (f x) [])
      here true h = h
      here false h = tt

      front : (b : Bool) (y : B) → Member (cond b (f x) []) y → Member (f x) y
      front true y m = m
      front false y m = absurd m

-- a list without repeats whose elements are all in another is no longer
pub no_longer : {A : Type 0} (xs ys : List A) → Ascends (λ x y. x ≢ y) xs → ((x : A) → Member xs x → Member ys x) → length xs ≤ length ys
no_longer [] ys h all = omega arith
no_longer (x ∷ xs) ys h all =
    let w = without ys x (all x (inl refl)) in
    let fewer = no_longer xs w.0 h.1 (λ y m. w.2 y (all y (inr m)) (λ same. h.0 y m (sym same))) in
    omega (arith, fewer, w.1)

pub Ascends-weaker : {A : Type 0} (R S : A → A → Type 0) (xs : List A) → ((x y : A) → R x y → S x y) → Ascends R xs → Ascends S xs
Ascends-weaker R S [] weaker h = tt
Ascends-weaker R S (x ∷ xs) weaker h = (λ y m. weaker x y (h.0 y m), Ascends-weaker R S xs weaker h.1)
