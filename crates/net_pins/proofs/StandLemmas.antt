-- Steps from one place among the pins of a net to the next.
use Rattle.std.proofs.Common.{◌≡◌, ◌⊎◌, ◌-◌, ℕ, List, [], ◌∷◌, ◌++◌, length, true, refl, sym, ap, subst, ◌∙◌, inl, inr, arith, Some, None, Option, set, append_assoc, append-nil}
use Rattle.std.proofs.lemmas.Bool.{false≢true}
use Rattle.std.proofs.lemmas.List.{get_or_at, length_push, set_at}
use Rattle.netlist_schema.specs.Types.{CellId}
use Rattle.flat_spec.specs.Flattening.{flattening}
use Rattle.flat_spec.specs.Paths.{Bit, IsNet, Joins, Reaches, at_path, at_root, on, own}
use Rattle.flat_spec.specs.Pins.{JoinsPin, net_at_pin}
use Rattle.flat_spec.specs.Representatives.{representative}
use Rattle.flat_spec.specs.Types.{NetAt}
use Rattle.flat_spec.specs.declared.item.Item.TheVariants.{Pin}
use Rattle.flat_spec.proofs.ListLemmas.{Member, last_cases}
use Rattle.flat_spec.proofs.PathLemmas.{Joins-inward_here, Joins-net, Joins-reaches}
use Rattle.flat_spec.proofs.PinLemmas.{net_at_pin-joins}
use Rattle.flat_spec.proofs.TestLemmas.{same_net-true}
use Rattle.erc_spec.specs.Drives.{is_at}
use Rattle.erc_spec.specs.Told.{PinBefore}
use Rattle.erc_spec.proofs.ItemLemmas.{pin_there}
use Rattle.ask_spec.specs.Nets.{first_of}
use Rattle.ask_spec.specs.Roles.{pins_as, stands_as}
use Rattle.ask_spec.proofs.SideLemmas.{outer_joins, pin_path}
use Rattle.flat_items.specs.Stand.{top_of}
use Rattle.net_pins.specs.Levels.{AreLevels, IsLevel}
use Rattle.net_pins.specs.Moves.{last_step}
use Rattle.net_pins.specs.Order.{PinPlace}
use Rattle.net_pins.specs.Spots.{IsLowest, MayAsk, MayStand, Question, Stand, left, place_of}
use Rattle.net_pins.specs.declared.levels.Level.{Level}
use Rattle.net_pins.proofs.DownLemmas.{rep_front}
use Rattle.net_pins.proofs.LeadLemmas.{some_net}
use Rattle.net_pins.proofs.LeftLemmas.{all_asked, asked_pin, left-all, left-none, left-same, place_in}
use Rattle.net_pins.proofs.OrderLemmas.{PinBefore-strip, none_before_first}

-- the levels along steps, one more at the end
pub levels_split : (q : Question) (start steps : List ℕ) (ls : List Level) (l : Level) → AreLevels q.design q.facts q.cells q.first start steps (ls ++ l ∷ [])
    → (init : List ℕ) × (last : ℕ) × (steps ≡ init ++ last ∷ []) × AreLevels q.design q.facts q.cells q.first start init ls × IsLevel q.design q.facts q.cells q.first (start ++ init) l
levels_split q start [] [] l h = absurd h
levels_split q start [] (f ∷ ls) l h = absurd h
levels_split q start (i ∷ []) [] l h = ([], i, refl, tt, subst (λ p. IsLevel q.design q.facts q.cells q.first p l) (sym (append-nil start)) h.0)
levels_split q start (i ∷ k ∷ steps) [] l h = absurd h.1
levels_split q start (i ∷ steps) (f ∷ ls) l h =
    let more = levels_split q (start ++ i ∷ []) steps ls l h.1 in
    (i ∷ more.0, more.1, ap (λ v. i ∷ v) more.2, (h.0, more.3), subst (λ p. IsLevel q.design q.facts q.cells q.first p l) (append_assoc start (i ∷ []) more.0) more.4)

pub levels_push : (q : Question) (start steps : List ℕ) (ls : List Level) (step : ℕ) (l : Level) → AreLevels q.design q.facts q.cells q.first start steps ls
    → IsLevel q.design q.facts q.cells q.first (start ++ steps) l → AreLevels q.design q.facts q.cells q.first start (steps ++ step ∷ []) (ls ++ l ∷ [])
levels_push q start [] [] step l h is = (subst (λ p. IsLevel q.design q.facts q.cells q.first p l) (append-nil start) is, tt)
levels_push q start (i ∷ steps) (f ∷ ls) step l h is =
    (h.0, levels_push q (start ++ i ∷ []) steps ls step l h.1 (subst (λ p. IsLevel q.design q.facts q.cells q.first p l) (sym (append_assoc start (i ∷ []) steps)) is))
levels_push q start [] (f ∷ ls) step l h is = absurd h
levels_push q start (i ∷ steps) [] step l h is = absurd h

-- levels that stand along steps stand along any others whose last differs
pub levels_same : (q : Question) (start init : List ℕ) (last other : ℕ) (ls : List Level) (l : Level) → AreLevels q.design q.facts q.cells q.first start init ls
    → IsLevel q.design q.facts q.cells q.first (start ++ init) l → AreLevels q.design q.facts q.cells q.first start (init ++ other ∷ []) (ls ++ l ∷ [])
levels_same q start init last other ls l above here = levels_push q start init ls other l above here

pub last_push : (path : List ℕ) (i : ℕ) → last_step (path ++ i ∷ []) ≡ i
last_push path i =
    let long = length_push path i in
    get_or_at path i [] 0 (length (path ++ i ∷ []) - 1) (omega (arith, long))

pub set_push : (path : List ℕ) (i v : ℕ) → set (path ++ i ∷ []) (length (path ++ i ∷ []) - 1) v ≡ path ++ v ∷ []
set_push path i v = let long = length_push path i in set_at path i [] v (length (path ++ i ∷ []) - 1) (omega (arith, long))

module _ (q : Question) (asks : MayAsk q) where
  abbrev root : CellId
  root = (top_of q.design).cell

  -- a pin that is asked of
  pub record IsAsked (path : List ℕ) (port bit : ℕ) : Type 0 where
    pub item : Member (flattening q.design) (Pin path port bit (Some q.first))
    pub stands : stands_as q.role q.design (Pin path port bit (Some q.first)) ≡ true
    pub rest : List ℕ
    pub behind : path ≡ q.first.path ++ rest

  named_first : (path : List ℕ) (port bit : ℕ) (first : Option NetAt) → Member (pins_as q.role q.design q.first) (Pin path port bit first) → first ≡ Some q.first
  named_first path port bit first m = go first (asked_pin q.role q.design q.first (Pin path port bit first) m).1
    where
      go : (o : Option NetAt) → is_at (first_of q.design q.first) (Pin path port bit o) ≡ true → o ≡ Some q.first
      go None e = absurd (false≢true e)
      go (Some y) e = ap Some (same_net-true y (first_of q.design q.first) e ∙ asks.first)

  -- each is at or below the net's own occurrence
  at_or_below : (path : List ℕ) (port bit : ℕ) → Member (flattening q.design) (Pin path port bit (Some q.first)) → (rest : List ℕ) × (path ≡ q.first.path ++ rest)
  at_or_below path port bit m =
      let b : Bit = record { port = port; bit = bit } in
      let told = pin_there q.design (top_of q.design) asks.ground.top asks.ground.valid.no_cycle path port bit (Some q.first) m in
      let net = some_net root q.design q.first (net_at_pin q.design root path b) told.1 in
      let joins = net_at_pin-joins q.design root path b net.0 net.1 in
      elim (last_cases path) [
        | inl empty ↦ at_top b net.0 net.2 empty (subst (λ p. JoinsPin q.design root net.0 p b) empty joins)
        | inr e ↦ inner b net.0 net.2 e.0 e.1 e.2 (subst (λ p. JoinsPin q.design root net.0 p b) e.2 joins)
      ]
    where
      front_of : (z : NetAt) → representative q.design root z ≡ q.first → (n : IsNet q.design root z) → (c : CellId) → Reaches q.design root z.path c → IsNet q.design c (at_root z.net) → (rest : List ℕ) × (z.path ≡ q.first.path ++ rest)
      front_of z rep n c at net =
          let f = rep_front q.design q.facts asks.notes asks.ground z.path c z.net at net in (f.0, f.1 ∙ ap (λ (v : NetAt). v.path ++ f.0) rep)

      at_top : (b : Bit) (z : NetAt) → representative q.design root z ≡ q.first → path ≡ [] → JoinsPin q.design root z [] b → (rest : List ℕ) × (path ≡ q.first.path ++ rest)
      at_top b z rep empty j =
          let there = Joins-reaches q.design root z (own b) j.1 in
          let inside : Joins q.design there.0 (at_root z.net) (own b) = Joins-inward_here q.design root there.0 z.path z.net (own b) there.1 j.1 in
          let f = front_of z rep (Joins-net q.design root z (own b) j.1) there.0 there.1 (Joins-net q.design there.0 (at_root z.net) (own b) inside) in
          (f.0, empty ∙ sym j.0 ∙ f.1)

      inner : (b : Bit) (z : NetAt) → representative q.design root z ≡ q.first → (up : List ℕ) (step : ℕ) → path ≡ up ++ step ∷ [] → JoinsPin q.design root z (up ++ step ∷ []) b
          → (rest : List ℕ) × (path ≡ q.first.path ++ rest)
      inner b z rep up step is j =
          let z_is = pin_path q.design root up step b z j in
          let joins : Joins q.design root (at_path up z.net) (on step b) = outer_joins q.design root up step b z j in
          let there = Joins-reaches q.design root (at_path up z.net) (on step b) joins in
          let inside : Joins q.design there.0 (at_root z.net) (on step b) = Joins-inward_here q.design root there.0 up z.net (on step b) there.1 joins in
          let f = front_of (at_path up z.net) (ap (representative q.design root) (sym z_is) ∙ rep) (Joins-net q.design root (at_path up z.net) (on step b) joins) there.0 there.1
          (Joins-net q.design there.0 (at_root z.net) (on step b) inside) in
          (f.0 ++ step ∷ [], is ∙ ap (λ p. p ++ step ∷ []) f.1 ∙ append_assoc q.first.path f.0 (step ∷ []))

  pub is_asked : (path : List ℕ) (port bit : ℕ) (first : Option NetAt) → Member (pins_as q.role q.design q.first) (Pin path port bit first) → IsAsked path port bit
  is_asked path port bit first m =
      let one = subst (λ o. Member (pins_as q.role q.design q.first) (Pin path port bit o)) (named_first path port bit first m) m in
      let found = asked_pin q.role q.design q.first (Pin path port bit (Some q.first)) one in
      let front = at_or_below path port bit found.0 in
      record { item = found.0; stands = found.2; rest = front.0; behind = front.1 }

  -- two places between which none is asked of leave the same
  pub same_left : (s t : Stand) → ((p : PinPlace) → PinBefore p (place_of s) → PinBefore p (place_of t))
      → ((path : List ℕ) (port bit : ℕ) → IsAsked path port bit → (PinBefore (place_in path port bit) (place_of s) → ⊥) → PinBefore (place_in path port bit) (place_of t) → ⊥)
      → left q s ≡ left q t
  same_left s t upto none =
      left-same (pins_as q.role q.design q.first) (place_of s) (place_of t) upto (λ path port bit first m. none path port bit (is_asked path port bit first m))

  -- where none is asked of at or behind the place, none is left
  pub none_left : (s : Stand) → ((path : List ℕ) (port bit : ℕ) → IsAsked path port bit → (PinBefore (place_in path port bit) (place_of s) → ⊥) → ⊥) → left q s ≡ []
  none_left s none =
      left-none (pins_as q.role q.design q.first) (place_of s) (first_of q.design q.first) (all_asked q.role q.design q.first)
      (λ path port bit first m. none path port bit (is_asked path port bit first m))

  -- at first all are left
  pub all_left : (s : Stand) → s.path ≡ q.first.path → s.port ≡ 0 → s.bit ≡ 0 → left q s ≡ pins_as q.role q.design q.first
  all_left s path_is port_is bit_is =
      left-all (pins_as q.role q.design q.first) (place_of s)
      (λ path port bit first m before.
      let asked = is_asked path port bit first m in
      let place : place_of s ≡ (q.first.path ++ [], record { port = 0; bit = 0 }) = λ k. ((path_is ∙ sym (append-nil q.first.path)) k, record { port = port_is k; bit = bit_is k }) in
      let one : PinBefore (q.first.path ++ asked.rest, record { port = port; bit = bit }) (q.first.path ++ [], record { port = 0; bit = 0 }) =
      subst (λ p. PinBefore (p, record { port = port; bit = bit }) (q.first.path ++ [], record { port = 0; bit = 0 })) asked.behind (subst (PinBefore (place_in path port bit)) place before) in
      not_before_start asked.rest (record { port = port; bit = bit }) (PinBefore-strip q.first.path asked.rest [] (record { port = port; bit = bit }) (record { port = 0; bit = 0 }) one))
    where
      not_before_start : (rest : List ℕ) (b : Bit) → PinBefore (rest, b) ([], record { port = 0; bit = 0 }) → ⊥
      not_before_start [] b h = elim h [ inl less ↦ less | inr same ↦ none_before_first b same.1 ]
      not_before_start (k ∷ rest) b h = elim h [ inl less ↦ less | inr same ↦ cons_not_nil same.0 ]
        where
          cons_not_nil : k ∷ rest ≡ [] → ⊥
          cons_not_nil e = cc e

  -- a level of which one stands at an instance
  pub record IsInside (s : Stand) : Type 0 where
    pub levels : List Level
    pub level : Level
    pub levels_are : s.levels ≡ levels ++ level ∷ []
    pub init : List ℕ
    pub last : ℕ
    pub path_is : s.path ≡ (q.first.path ++ init) ++ last ∷ []
    pub above : AreLevels q.design q.facts q.cells q.first q.first.path init levels
    pub here : IsLevel q.design q.facts q.cells q.first (q.first.path ++ init) level
    pub lowest : ((s.port ≡ 0) × (s.bit ≡ 0)) ⊎ IsLowest q.design s.path

  pub inside_at : (s : Stand) → MayStand q s → (levels : List Level) (level : Level) → s.levels ≡ levels ++ level ∷ [] → (i : IsInside s) × (i.levels ≡ levels) × (i.level ≡ level)
  inside_at s stands levels level is =
      let split = levels_split q q.first.path stands.steps levels level (subst (AreLevels q.design q.facts q.cells q.first q.first.path stands.steps) is stands.levels) in (
        record {
          levels = levels;
          level = level;
          levels_are = is;
          init = split.0;
          last = split.1;
          path_is = stands.path_is ∙ ap (λ v. q.first.path ++ v) split.2 ∙ sym (append_assoc q.first.path split.0 (split.1 ∷ []));
          above = split.3;
          here = split.4;
          lowest = elim stands.lowest [ inl none ↦ absurd (not_empty split.0 split.1 (sym split.2 ∙ none)) | inr low ↦ low ];
        },
        refl,
        refl,
      )
    where
      not_empty : (init : List ℕ) (last : ℕ) → init ++ last ∷ [] ≡ [] → ⊥
      not_empty [] last e = cc e
      not_empty (k ∷ init) last e = cc e
