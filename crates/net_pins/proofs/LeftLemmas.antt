-- What is left at a place of the pins of a net.
use Rattle.std.proofs.Common.{◌≡◌, ℕ, List, [], ◌∷◌, Bool, true, false, cond, Option, Some, refl, sym, ap, subst, ◌∙◌, inl, inr}
use Rattle.std.specs.Prelude.{filter, not}
use Rattle.std.specs.List.{flat_map}
use Rattle.std.proofs.lemmas.Bool.{cases_Bool, false≢true, not_from_false}
use Rattle.netlist_schema.specs.Design.{Design}
use Rattle.netlist_schema.specs.Types.{TopHead}
use Rattle.netlist_schema.specs.Valid.{IsValid}
use Rattle.flat_spec.specs.Flattening.{flattening}
use Rattle.flat_spec.specs.Types.{Item, NetAt}
use Rattle.flat_spec.specs.declared.item.Item.TheVariants.{Enter, Net, Pin}
use Rattle.flat_spec.proofs.ListLemmas.{Ascends, Member, Member-filter, Member-from_filter, filter_same}
use Rattle.erc_spec.specs.Drives.{is_at}
use Rattle.erc_spec.specs.Told.{PinBefore}
use Rattle.erc_spec.proofs.MemberLemmas.{Member-flat_map, Member-from_flat_map}
use Rattle.erc_spec.proofs.OpenLemmas.{all_pins-ascend}
use Rattle.erc_spec.proofs.PinOrder.{pin_at}
use Rattle.ask_spec.specs.Nets.{first_of, pins_of}
use Rattle.ask_spec.specs.Roles.{is_driver, is_load, pins_as, stands_as}
use Rattle.ask_spec.specs.declared.role.Role.{Role}
use Rattle.ask_spec.specs.declared.role.Role.TheVariants.{Any, Driver, Load}
use Rattle.ask_spec.proofs.ClassLemmas.{at_pin}
use Rattle.net_pins.specs.Order.{PinPlace, is_passed, place_before}
use Rattle.net_pins.proofs.OrderLemmas.{not_place_before, place_before-false, place_before-from, place_before-true}

-- pins of one net, which are in order
abbrev pub AllPins : NetAt → List Item → Type 0
AllPins x items = (item : Item) → Member items item → is_at x item ≡ true

abbrev pub place_in : List ℕ → ℕ → ℕ → PinPlace
place_in path port bit = (path, record { port = port; bit = bit })

-- two places between which no pin stands leave the same
pub left-same : (items : List Item) (s t : PinPlace) → ((p : PinPlace) → PinBefore p s → PinBefore p t)
    → ((path : List ℕ) (port bit : ℕ) (first : Option NetAt) → Member items (Pin path port bit first)
    → (PinBefore (place_in path port bit) s → ⊥) → PinBefore (place_in path port bit) t → ⊥)
    → filter (λ item. not (is_passed s item)) items ≡ filter (λ item. not (is_passed t item)) items
left-same items s t upto none = filter_same (λ item. not (is_passed s item)) (λ item. not (is_passed t item)) items same
  where
    same : (item : Item) → Member items item → not (is_passed s item) ≡ not (is_passed t item)
    same (Enter path cell properties) m = refl
    same (Net path net first) m = refl
    same (Pin path port bit first) m = go (place_before (place_in path port bit) s) refl
      where
        go : (b : Bool) → place_before (place_in path port bit) s ≡ b → not (place_before (place_in path port bit) s) ≡ not (place_before (place_in path port bit) t)
        go true e =
            let before = place_before-from (place_in path port bit) t (upto (place_in path port bit) (place_before-true (place_in path port bit) s e)) in
            ap not (e ∙ sym before)
        go false e =
            let behind = place_before-false (place_in path port bit) t (none path port bit first m (not_place_before (place_in path port bit) s e)) in
            ap not (e ∙ sym behind)

-- where all pins come before it, none is left
pub left-none : (items : List Item) (s : PinPlace) (x : NetAt) → AllPins x items
    → ((path : List ℕ) (port bit : ℕ) (first : Option NetAt) → Member items (Pin path port bit first) → (PinBefore (place_in path port bit) s → ⊥) → ⊥)
    → filter (λ item. not (is_passed s item)) items ≡ []
left-none [] s x all none = refl
left-none (item ∷ items) s x all none =
    let pin = at_pin x item (all item (inl refl)) in
    let here : is_passed s item ≡ true = ap (is_passed s) pin.3 ∙ go (place_before (place_in pin.0 pin.1 pin.2) s) refl pin.0 pin.1 pin.2 pin.3 in
    ap (λ b. cond (not b) (item ∷ filter (λ i. not (is_passed s i)) items) (filter (λ i. not (is_passed s i)) items)) here
    ∙ left-none items s x (λ i m. all i (inr m)) (λ path port bit first m. none path port bit first (inr m))
  where
    go : (b : Bool) → b ≡ b → (path : List ℕ) (port bit : ℕ) → item ≡ Pin path port bit (Some x) → place_before (place_in path port bit) s ≡ true
    go b e path port bit is = elim (cases_Bool (place_before (place_in path port bit) s)) [
      | inl so ↦ so
      | inr not_so ↦ absurd (none path port bit (Some x) (inl is) (not_place_before (place_in path port bit) s not_so))
    ]

-- and where none comes before it, all are
pub left-all : (items : List Item) (s : PinPlace)
    → ((path : List ℕ) (port bit : ℕ) (first : Option NetAt) → Member items (Pin path port bit first) → PinBefore (place_in path port bit) s → ⊥)
    → filter (λ item. not (is_passed s item)) items ≡ items
left-all [] s none = refl
left-all (item ∷ items) s none =
    ap (λ b. cond b (item ∷ filter (λ i. not (is_passed s i)) items) (filter (λ i. not (is_passed s i)) items)) (here item refl)
    ∙ ap (λ v. item ∷ v) (left-all items s (λ path port bit first m. none path port bit first (inr m)))
  where
    here : (i : Item) → item ≡ i → not (is_passed s i) ≡ true
    here (Enter path cell properties) is = refl
    here (Net path net first) is = refl
    here (Pin path port bit first) is = not_from_false (place_before (place_in path port bit) s) (place_before-false (place_in path port bit) s (none path port bit first (inl is)))

-- the place of a pin
abbrev place_of_pin : Item → PinPlace
place_of_pin (Enter path cell properties) = place_in [] 0 0
place_of_pin (Net path net first) = place_in [] 0 0
place_of_pin (Pin path port bit first) = place_in path port bit

-- a pin that is left, where none of the pins stands between the place and it
pub record IsNextPin (items : List Item) (s t target : PinPlace) : Type 0 where
  pub behind : PinBefore target s → ⊥
  pub before : PinBefore target t
  pub upto : (p : PinPlace) → PinBefore p s → PinBefore p t
  pub later : (p : PinPlace) → PinBefore target p → (PinBefore p s → ⊥) × (PinBefore p t → ⊥)
  pub none : (path : List ℕ) (port bit : ℕ) (first : Option NetAt) → Member items (Pin path port bit first)
      → (PinBefore (place_in path port bit) s → ⊥) → PinBefore (place_in path port bit) target → ⊥

-- The first pin that is left; the others are left behind it.
pub left-first : (items : List Item) (x : NetAt) → AllPins x items → Ascends PinBefore (flat_map pin_at items)
    → (path : List ℕ) (port bit : ℕ) → Member items (Pin path port bit (Some x)) → (s t : PinPlace) → IsNextPin items s t (place_in path port bit)
    → filter (λ item. not (is_passed s item)) items ≡ Pin path port bit (Some x) ∷ filter (λ item. not (is_passed t item)) items
left-first [] x all ascends path port bit m s t is = absurd m
left-first (Enter q cell properties ∷ items) x all ascends path port bit m s t is = absurd (false≢true (all (Enter q cell properties) (inl refl)))
left-first (Net q net first ∷ items) x all ascends path port bit m s t is = absurd (false≢true (all (Net q net first) (inl refl)))
left-first (Pin q a b first ∷ items) x all ascends path port bit m s t is = elim (cases_Bool (place_before (place_in q a b) s)) [
  | inl so ↦
      let past : place_before (place_in q a b) t ≡ true = place_before-from (place_in q a b) t (is.upto (place_in q a b) (place_before-true (place_in q a b) s so)) in
      let inside : Member items (Pin path port bit (Some x)) = elim m [
        | inl same ↦ absurd (is.behind (subst (λ v. PinBefore v s) (ap place_of_pin same) (place_before-true (place_in q a b) s so)))
        | inr rest ↦ rest
      ] in
      ap (λ v. cond (not v) (Pin q a b first ∷ filter (λ item. not (is_passed s item)) items) (filter (λ item. not (is_passed s item)) items)) so
      ∙ left-first items x (λ i k. all i (inr k)) ascends.1 path port bit inside s t
      (record { behind = is.behind; before = is.before; upto = is.upto; later = is.later; none = λ p c e f k. is.none p c e f (inr k) })
      ∙ sym (ap (λ v. Pin path port bit (Some x) ∷ cond (not v) (Pin q a b first ∷ filter (λ item. not (is_passed t item)) items) (filter (λ item. not (is_passed t item)) items)) past)
  | inr not_so ↦
      let same : Pin q a b first ≡ Pin path port bit (Some x) = elim m [
        | inl same ↦ same
        | inr rest ↦ absurd (is.none q a b first (inl refl) (not_place_before (place_in q a b) s not_so) (ascends.0 (place_in path port bit) (Member-flat_map pin_at items (Pin path port bit (Some x)) (place_in path port bit) rest (inl refl))))
      ] in
      let place : place_in q a b ≡ place_in path port bit = ap place_of_pin same in
      let past : place_before (place_in q a b) t ≡ true = ap (λ v. place_before v t) place ∙ place_before-from (place_in path port bit) t is.before in
      let rest : filter (λ item. not (is_passed s item)) items ≡ filter (λ item. not (is_passed t item)) items = filter_same (λ item. not (is_passed s item)) (λ item. not (is_passed t item)) items (later place) in
      ap (λ v. cond (not v) (Pin q a b first ∷ filter (λ item. not (is_passed s item)) items) (filter (λ item. not (is_passed s item)) items)) not_so
      ∙ (λ k. same k ∷ rest k)
      ∙ sym (ap (λ v. Pin path port bit (Some x) ∷ cond (not v) (Pin q a b first ∷ filter (λ item. not (is_passed t item)) items) (filter (λ item. not (is_passed t item)) items)) past)
]
  where
    later : place_in q a b ≡ place_in path port bit → (item : Item) → Member items item → not (is_passed s item) ≡ not (is_passed t item)
    later place (Enter p cell properties) k = refl
    later place (Net p net other) k = refl
    later place (Pin p c e other) k =
        let less = ascends.0 (place_in p c e) (Member-flat_map pin_at items (Pin p c e other) (place_in p c e) k (inl refl)) in
        let two = is.later (place_in p c e) (subst (λ v. PinBefore v (place_in p c e)) place less) in
        ap not (place_before-false (place_in p c e) s two.0 ∙ sym (place_before-false (place_in p c e) t two.1))

-- the pins of a role at a net are those of its class that stand so
pub asked_pin : (role : Role) (d : Design) (x : NetAt) (item : Item) → Member (pins_as role d x) item
    → Member (flattening d) item × (is_at (first_of d x) item ≡ true) × (stands_as role d item ≡ true)
asked_pin Any d x item m = let found = Member-from_filter (is_at (first_of d x)) (flattening d) item m in (found.0, found.1, refl)
asked_pin Driver d x item m =
    let one = Member-from_filter (is_driver d) (pins_of d x) item m in
    let found = Member-from_filter (is_at (first_of d x)) (flattening d) item one.0 in
    (found.0, found.1, one.1)
asked_pin Load d x item m =
    let one = Member-from_filter (is_load d) (pins_of d x) item m in
    let found = Member-from_filter (is_at (first_of d x)) (flattening d) item one.0 in
    (found.0, found.1, one.1)

pub pin_asked : (role : Role) (d : Design) (x : NetAt) (item : Item) → Member (flattening d) item → is_at (first_of d x) item ≡ true → stands_as role d item ≡ true
    → Member (pins_as role d x) item
pin_asked Any d x item m at so = Member-filter (is_at (first_of d x)) (flattening d) item m at
pin_asked Driver d x item m at so = Member-filter (is_driver d) (pins_of d x) item (Member-filter (is_at (first_of d x)) (flattening d) item m at) so
pin_asked Load d x item m at so = Member-filter (is_load d) (pins_of d x) item (Member-filter (is_at (first_of d x)) (flattening d) item m at) so

-- they are in order
pins_filter : (test : Item → Bool) (items : List Item) → Ascends PinBefore (flat_map pin_at items) → Ascends PinBefore (flat_map pin_at (filter test items))
pins_filter test [] h = tt
pins_filter test (Enter p cell properties ∷ items) h = elim (test (Enter p cell properties)) as (λ b. Ascends PinBefore (flat_map pin_at (cond b (Enter p cell properties ∷ filter test items) (filter test items)))) [ true ↦ pins_filter test items h | false ↦ pins_filter test items h ]
pins_filter test (Net p net first ∷ items) h = elim (test (Net p net first)) as (λ b. Ascends PinBefore (flat_map pin_at (cond b (Net p net first ∷ filter test items) (filter test items)))) [ true ↦ pins_filter test items h | false ↦ pins_filter test items h ]
pins_filter test (Pin p a b first ∷ items) h = elim (test (Pin p a b first)) as (λ v. Ascends PinBefore (flat_map pin_at (cond v (Pin p a b first ∷ filter test items) (filter test items)))) [
  | true ↦ (λ q m. h.0 q (inside q m), pins_filter test items h.1)
  | false ↦ pins_filter test items h.1
]
  where
    inside : (q : PinPlace) → Member (flat_map pin_at (filter test items)) q → Member (flat_map pin_at items) q
    inside q m =
        let found = Member-from_flat_map pin_at (filter test items) q m in
        Member-flat_map pin_at items found.0 q (Member-from_filter test items found.0 found.1).0 found.2

any-in_order : (d : Design) (top : TopHead) (x : NetAt) → IsValid d → d.top ≡ Some top → Ascends PinBefore (flat_map pin_at (pins_of d x))
any-in_order d top x valid is = pins_filter (is_at (first_of d x)) (flattening d) (all_pins-ascend d top valid is)

pub pins-in_order : (role : Role) (d : Design) (top : TopHead) (x : NetAt) → IsValid d → d.top ≡ Some top → Ascends PinBefore (flat_map pin_at (pins_as role d x))
pins-in_order Any d top x valid is = any-in_order d top x valid is
pins-in_order Driver d top x valid is = pins_filter (is_driver d) (pins_of d x) (any-in_order d top x valid is)
pins-in_order Load d top x valid is = pins_filter (is_load d) (pins_of d x) (any-in_order d top x valid is)

pub all_asked : (role : Role) (d : Design) (x : NetAt) → AllPins (first_of d x) (pins_as role d x)
all_asked role d x item m = (asked_pin role d x item m).1
