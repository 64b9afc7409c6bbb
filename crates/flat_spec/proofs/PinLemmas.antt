-- The net at a pin is the one that joins it.
use Rattle.std.proofs.Common.{◌≡◌, ◌≢◌, ◌<◌, ◌+◌, ℕ, zero, suc, List, [], ◌∷◌, ◌++◌, length, get_or, Bool, true, refl, sym, ap, subst, ◌∙◌, inl, inr, arith, Option, Some, None}
use Rattle.std.specs.Prelude.{slice_get, position, option_and_then}
use Rattle.std.specs.List.{Contains, AllPairs, flat_map, position_from}
use Rattle.std.specs.Option.{option_map, option_map_or}
use Rattle.std.proofs.lemmas.Bool.{cond-true, cond-false, cases_Bool}
use Rattle.std.proofs.lemmas.Iterator.Adapters.{position_from-zero}
use Rattle.std.proofs.lemmas.List.Quantifiers.{position-Some}
use Rattle.std.proofs.lemmas.Option.{none-some, same_Some, slice_get-get_or}
use Rattle.netlist_schema.specs.Design.{Design, cell_at, nets_of, ends_of}
use Rattle.netlist_schema.specs.Types.{CellBody, CellId, End, Net}
use Rattle.netlist_schema.specs.Valid.{IsValid}
use Rattle.flat_spec.specs.ConnectionTest.{above, has_end}
use Rattle.flat_spec.specs.Paths.{Bit, own, on, at_path, cell_along, Reaches, nets_at, net_of, Joins}
use Rattle.flat_spec.specs.Pins.{net_joining, net_at_pin, JoinsPin}
use Rattle.flat_spec.specs.declared.item.NetAt.{NetAt}
use Rattle.flat_spec.proofs.ListLemmas.{Member, Member-append_left, Member-append_right, Ascends, Contains-member}
use Rattle.flat_spec.proofs.PathLemmas.{Some-same}
use Rattle.flat_spec.proofs.TestLemmas.{has_end-true, has_end-from, above-some, above-append}

-- each two elements at places in order are related, so each comes before all that follow it
pub AllPairs-ascends : {A : Type 0} (R : A → A → Type 0) (xs : List A) → AllPairs R xs → Ascends R xs
AllPairs-ascends R [] p = tt
AllPairs-ascends {A} R (x ∷ xs) p = (
  λ y m. first y xs m (λ j d within. p 0 (suc j) d (omega arith) (omega arith)),
  AllPairs-ascends R xs (λ i j d less within. p (suc i) (suc j) d (omega arith) (omega arith)),
)
  where
    first : (y : A) (ys : List A) → Member ys y → ((j : ℕ) (d : A) → j < length ys → R x (get_or ys j d)) → R x y
    first y [] m each = absurd m
    first y (z ∷ zs) m each =
        elim m [
          | inl same ↦ subst (λ v. R x v) same (each 0 z (omega arith))
          | inr rest ↦ first y zs rest (λ j d within. each (suc j) d (omega arith))
        ]

Ascends-parts : {A : Type 0} (R : A → A → Type 0) (xs ys : List A) → Ascends R (xs ++ ys)
    → Ascends R ys × ((x y : A) → Member xs x → Member ys y → R x y)
Ascends-parts R [] ys p = (p, λ x y m k. absurd m)
Ascends-parts R (v ∷ xs) ys p =
    let rest = Ascends-parts R xs ys p.1 in (
      rest.0,
      λ x y m k. elim m [
        | inl same ↦ subst (λ w. R w y) same (p.0 y (Member-append_right xs ys y k))
        | inr later ↦ rest.1 x y later k
      ],
    )

-- a net's ends are among those of all nets
pub ends-member : (nets : List Net) (j : ℕ) (net : Net) (e : End) → slice_get nets j ≡ Some net → Member net.ends e
    → Member (flat_map (λ (n : Net). n.ends) nets) e
ends-member [] j net e is m = absurd (none-some net is)
ends-member (n ∷ nets) zero net e is m =
    let here = subst (λ (v : Net). Member v.ends e) (sym (same_Some n net is)) m in
    Member-append_left n.ends (flat_map (λ (v : Net). v.ends) nets) e here
ends-member (n ∷ nets) (suc j) net e is m =
    Member-append_right n.ends (flat_map (λ (v : Net). v.ends) nets) e (ends-member nets j net e is m)

-- where no end stands twice, two nets that join it are one
pub joined_once : (nets : List Net) (e : End) → Ascends (λ a b. a ≢ b) (flat_map (λ (n : Net). n.ends) nets)
    → (i j : ℕ) (a b : Net) → slice_get nets i ≡ Some a → slice_get nets j ≡ Some b → Member a.ends e → Member b.ends e → i ≡ j
joined_once [] e p i j a b at bt m k = absurd (none-some a at)
joined_once (n ∷ nets) e p zero zero a b at bt m k = refl
joined_once (n ∷ nets) e p zero (suc j) a b at bt m k =
    let parts = Ascends-parts (λ a b. a ≢ b) n.ends (flat_map (λ (v : Net). v.ends) nets) p in
    let here = subst (λ (v : Net). Member v.ends e) (sym (same_Some n a at)) m in
    absurd (parts.1 e e here (ends-member nets j b e bt k) refl)
joined_once (n ∷ nets) e p (suc i) zero a b at bt m k =
    let parts = Ascends-parts (λ a b. a ≢ b) n.ends (flat_map (λ (v : Net). v.ends) nets) p in
    let here = subst (λ (v : Net). Member v.ends e) (sym (same_Some n b bt)) k in
    absurd (parts.1 e e here (ends-member nets i a e at m) refl)
joined_once (n ∷ nets) e p (suc i) (suc j) a b at bt m k =
    let parts = Ascends-parts (λ a b. a ≢ b) n.ends (flat_map (λ (v : Net). v.ends) nets) p in
    ap suc (joined_once nets e parts.0 i j a b at bt m k)

-- where an element passes, a place is found
position_from-found : {A : Type 0} (test : A → Bool) (xs : List A) (n k : ℕ) (x : A) → slice_get xs k ≡ Some x → test x ≡ true
    → (i : ℕ) × (position_from test n xs ≡ Some i)
position_from-found test [] n k x at passes = absurd (none-some x at)
position_from-found test (y ∷ ys) n zero x at passes =
    let here : test y ≡ true = subst (λ v. test v ≡ true) (sym (same_Some y x at)) passes in
    (n, cond-true (test y) (Some n) (position_from test (n + 1) ys) here)
position_from-found test (y ∷ ys) n (suc k) x at passes =
    let later = position_from-found test ys (n + 1) k x at passes in
    elim (cases_Bool (test y)) [
      | inl here ↦ (n, cond-true (test y) (Some n) (position_from test (n + 1) ys) here)
      | inr not_here ↦ (later.0, cond-false (test y) (Some n) (position_from test (n + 1) ys) not_here ∙ later.1)
    ]

position-found : {A : Type 0} (test : A → Bool) (xs : List A) (k : ℕ) (x : A) → slice_get xs k ≡ Some x → test x ≡ true
    → (i : ℕ) × (position test xs ≡ Some i)
position-found test xs k x at passes =
    let found = position_from-found test xs 0 k x at passes in (found.0, position_from-zero test xs ∙ found.1)

-- the test by which a net is sought
abbrev seeks : End → Net → Bool
seeks e net = has_end net.ends e

-- what is found joins the end
position-joins : (d : Design) (root c : CellId) (path : List ℕ) (n : ℕ) (e : End) → Reaches d root path c
    → position (seeks e) (nets_at d c) ≡ Some n → Joins d root (at_path path n) e
position-joins d root c path n e at found = there (nets_at d c) refl found
  where
    there : (nets : List Net) → nets_at d c ≡ nets → position (seeks e) nets ≡ Some n → Joins d root (at_path path n) e
    there [] is found = absurd (none-some n found)
    there (first ∷ nets) is found =
        let some = position-Some (seeks e) (first ∷ nets) n first found in
        let net = get_or (first ∷ nets) n first in
        let here : net_of d root (at_path path n) ≡ Some net =
        ap (option_and_then (λ k. slice_get (nets_at d k) n)) at
        ∙ ap (λ v. slice_get v n) is
        ∙ slice_get-get_or (first ∷ nets) n first some.0 in
        subst (λ o. Contains (option_map_or (λ (v : Net). v.ends) o []) e) (sym here) (has_end-true net.ends e some.1)

pub map-parts : {A B : Type 0} (f : A → B) (o : Option A) (y : B) → option_map f o ≡ Some y → (x : A) × (o ≡ Some x) × (f x ≡ y)
map-parts f None y e = absurd (none-some y e)
map-parts f (Some x) y e = (x, refl, same_Some (f x) y e)

map_or-parts : {A B : Type 0} (f : A → Option B) (o : Option A) (y : B) → option_map_or f o None ≡ Some y → (x : A) × (o ≡ Some x) × (f x ≡ Some y)
map_or-parts f None y e = absurd (none-some y e)
map_or-parts f (Some x) y e = (x, refl, e)

pub net_joining-joins : (d : Design) (root : CellId) (path : List ℕ) (e : End) (x : NetAt) → net_joining d root path e ≡ Some x
    → (x.path ≡ path) × Joins d root x e
net_joining-joins d root path e x found =
    let outer = map-parts (at_path path) _ x found in
    let inner = map_or-parts (λ c. position (seeks e) (nets_at d c)) (cell_along d root path) outer.0 outer.1 in
    let joins = position-joins d root inner.0 path outer.0 e inner.1 inner.2 in
    (ap (λ (v : NetAt). v.path) (sym outer.2), subst (λ v. Joins d root v e) outer.2 joins)

net_parts : (d : Design) (root : CellId) (x : NetAt) (e : End) → Joins d root x e
    → (c : CellId) × (net : Net) × Reaches d root x.path c × (slice_get (nets_at d c) x.net ≡ Some net) × Contains net.ends e
net_parts d root x e j = along (cell_along d root x.path) refl j
  where
    within : (c : CellId) → cell_along d root x.path ≡ Some c → (o : Option Net) → slice_get (nets_at d c) x.net ≡ o
        → Contains (option_map_or (λ (v : Net). v.ends) o []) e
        → (c : CellId) × (net : Net) × Reaches d root x.path c × (slice_get (nets_at d c) x.net ≡ Some net) × Contains net.ends e
    within c at None is j = absurd (omega arith)
    within c at (Some net) is j = (c, net, at, is, j)

    along : (o : Option CellId) → cell_along d root x.path ≡ o
        → Contains (option_map_or (λ (v : Net). v.ends) (option_and_then (λ c. slice_get (nets_at d c) x.net) o) []) e
        → (c : CellId) × (net : Net) × Reaches d root x.path c × (slice_get (nets_at d c) x.net ≡ Some net) × Contains net.ends e
    along None at j = absurd (omega arith)
    along (Some c) at j = within c at (slice_get (nets_at d c) x.net) refl j

-- no end stands twice in the nets of a cell
abbrev pub JoinsOnce : Design → Type 0
JoinsOnce d = (c : CellId) → Ascends (λ a b. a ≢ b) (flat_map (λ (n : Net). n.ends) (nets_at d c))

pub nets_at-once : (d : Design) → IsValid d → (c : CellId) → Ascends (λ a b. a ≢ b) (flat_map (λ (n : Net). n.ends) (nets_at d c))
nets_at-once d valid c = there (cell_at d c) refl
  where
    there : (o : Option CellBody) → cell_at d c ≡ o → Ascends (λ a b. a ≢ b) (flat_map (λ (n : Net). n.ends) (option_map_or nets_of o []))
    there None is = tt
    there (Some body) is = AllPairs-ascends (λ a b. a ≢ b) (ends_of body) (valid.cells c body is).joined_once

-- the net that joins the end is found
net_joining-from_once : (d : Design) → JoinsOnce d → (root : CellId) (e : End) (x : NetAt) → Joins d root x e
    → net_joining d root x.path e ≡ Some x
net_joining-from_once d once root e x j =
    let parts = net_parts d root x e j in
    let c = parts.0 in
    let net = parts.1 in
    let found = position-found (seeks e) (nets_at d c) x.net net parts.3 (has_end-from net.ends e parts.4) in
    let other = net_parts d root (at_path x.path found.0) e (position-joins d root c x.path found.0 e parts.2 found.1) in
    let same_cell : other.0 ≡ c = Some-same (cell_along d root x.path) other.2 parts.2 in
    let other_at : slice_get (nets_at d c) found.0 ≡ Some other.1 = subst (λ k. slice_get (nets_at d k) found.0 ≡ Some other.1) same_cell other.3 in
    let one : found.0 ≡ x.net =
    joined_once (nets_at d c) e (once c) found.0 x.net other.1 net other_at parts.3
    (Contains-member other.1.ends e other.4) (Contains-member net.ends e parts.4) in
    ap (λ o. option_map (at_path x.path) (option_map_or (λ k. position (seeks e) (nets_at d k)) o None)) parts.2
    ∙ ap (option_map (at_path x.path)) found.1
    ∙ ap (λ n. Some (at_path x.path n)) one

pub net_at_pin-joins : (d : Design) (root : CellId) (path : List ℕ) (b : Bit) (x : NetAt) → net_at_pin d root path b ≡ Some x → JoinsPin d root x path b
net_at_pin-joins d root [] b x found = net_joining-joins d root [] (own b) x found
net_at_pin-joins d root (i ∷ path) b x found = inside (above (i ∷ path)) refl found
  where
    inside : (o : Option (List ℕ × ℕ)) → above (i ∷ path) ≡ o
        → option_map_or (λ (up : List ℕ × ℕ). net_joining d root up.0 (on up.1 b)) o (net_joining d root [] (own b)) ≡ Some x
        → JoinsPin d root x (i ∷ path) b
    inside None is found = absurd (none-some _ (sym is))
    inside (Some up) is found =
        let joins = net_joining-joins d root up.0 (on up.1 b) x found in
        (up.1, above-some (i ∷ path) up is ∙ ap (λ p. p ++ up.1 ∷ []) (sym joins.0), joins.1)

pub net_at_pin-from_once : (d : Design) → JoinsOnce d → (root : CellId) (path : List ℕ) (b : Bit) (x : NetAt) → JoinsPin d root x path b
    → net_at_pin d root path b ≡ Some x
net_at_pin-from_once d once root [] b x j =
    subst (λ p. net_joining d root p (own b) ≡ Some x) j.0 (net_joining-from_once d once root (own b) x j.1)
net_at_pin-from_once d once root (i ∷ path) b x j =
    let up : above (i ∷ path) ≡ Some (x.path, j.0) = ap above j.1 ∙ above-append x.path j.0 in
    ap (λ o. option_map_or (λ (up : List ℕ × ℕ). net_joining d root up.0 (on up.1 b)) o (net_joining d root [] (own b))) up
    ∙ net_joining-from_once d once root (on j.0 b) x j.2

pub net_joining-from : (d : Design) → IsValid d → (root : CellId) (e : End) (x : NetAt) → Joins d root x e
    → net_joining d root x.path e ≡ Some x
net_joining-from d valid = net_joining-from_once d (nets_at-once d valid)

pub net_at_pin-from : (d : Design) → IsValid d → (root : CellId) (path : List ℕ) (b : Bit) (x : NetAt) → JoinsPin d root x path b
    → net_at_pin d root path b ≡ Some x
net_at_pin-from d valid = net_at_pin-from_once d (nets_at-once d valid)
