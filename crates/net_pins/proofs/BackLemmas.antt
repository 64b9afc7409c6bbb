-- Back from an occurrence in which nothing is left.
use Rattle.std.proofs.Common.{◌≡◌, ◌<◌, ◌≤◌, ◌+◌, ◌-◌, ℕ, List, [], ◌∷◌, ◌++◌, length, true, false, refl, sym, ap, subst, ◌∙◌, inl, inr, arith, set, append_assoc, append-nil}
use Rattle.std.specs.List.{Contains}
use Rattle.std.proofs.lemmas.Bool.{cases_order, true≢false}
use Rattle.std.proofs.lemmas.List.{length-append, length_push, same_from_push}
use Rattle.flat_spec.specs.PathOrder.{PathBefore}
use Rattle.flat_spec.specs.Paths.{Reaches}
use Rattle.flat_spec.proofs.ListLemmas.{last_cases}
use Rattle.erc_spec.specs.Told.{PinBefore}
use Rattle.net_classes.specs.declared.joints.Joint.{Joint}
use Rattle.flat_items.specs.Stand.{top_of}
use Rattle.net_pins.specs.Levels.{AreLevels, IsLevel, leads_in}
use Rattle.net_pins.specs.Moves.{CanLeave, HasLeft, NothingHere, bit_at, last_step}
use Rattle.net_pins.specs.Order.{PinPlace, joint_before}
use Rattle.net_pins.specs.Spots.{MayAsk, MayStand, Question, Stand, left, place_of}
use Rattle.net_pins.specs.declared.levels.Level.{Level}
use Rattle.net_pins.proofs.LeftLemmas.{place_in}
use Rattle.net_pins.proofs.MoveLemmas.{first_bit, found}
use Rattle.net_pins.proofs.OrderLemmas.{PathBefore-under, PinBefore-more, PinBefore-under, between, none_before_first}
use Rattle.net_pins.proofs.RoomLemmas.{step_small}
use Rattle.net_pins.proofs.StandLemmas.{IsAsked, IsInside, inside_at, last_push, levels_push, levels_split, none_left, same_left, set_push}

not_before_nil : (p : List ℕ) → PathBefore p [] → ⊥
not_before_nil [] h = h
not_before_nil (k ∷ p) h = h

module _ (q : Question) (asks : MayAsk q) (s : Stand) (inside : IsInside q asks s)
    (none : (j : Joint) → Contains (leads_in q.cells inside.level.cell inside.level.firsts.items) j → joint_before inside.last (bit_at s) j ≡ true) where
  abbrev up : List ℕ
  up = q.first.path ++ inside.init

  -- no pin below the occurrence is at or behind the place
  none_here : (rest : List ℕ) (port bit : ℕ) → IsAsked q asks (up ++ rest) port bit → (PinBefore (rest, record { port = port; bit = bit }) (inside.last ∷ [], bit_at s) → ⊥) → ⊥
  none_here rest port bit asked behind =
      let led = found q asks s inside rest port bit asked behind in
      true≢false (sym (none led.joint led.has) ∙ led.behind)

  place_is : place_of s ≡ (up ++ inside.last ∷ [], bit_at s)
  place_is = λ k. (inside.path_is k, bit_at s)

  -- where it is the net's own occurrence, nothing is left at all
  pub nothing_left : inside.init ≡ [] → left q s ≡ []
  nothing_left own =
      none_left q asks s (λ path port bit asked behind.
      let own_up : up ≡ q.first.path = ap (λ v. q.first.path ++ v) own ∙ append-nil q.first.path in
      let path_is : path ≡ up ++ asked.rest = asked.behind ∙ ap (λ v. v ++ asked.rest) (sym own_up) in
      none_here asked.rest port bit (subst (λ p. IsAsked q asks p port bit) path_is asked)
      (λ h. behind (subst (PinBefore (place_in path port bit)) (sym place_is) (subst (λ p. PinBefore (p, record { port = port; bit = bit }) (up ++ inside.last ∷ [], bit_at s)) (sym path_is)
      (PinBefore-under up asked.rest (inside.last ∷ []) (record { port = port; bit = bit }) (bit_at s) h)))))

  -- and else the next instance of the one above has all that is left
  module _ (front : List ℕ) (step : ℕ) (init_is : inside.init ≡ front ++ step ∷ []) where
    abbrev upper : List ℕ
    upper = q.first.path ++ front

    up_is : up ≡ upper ++ step ∷ []
    up_is = ap (λ v. q.first.path ++ v) init_is ∙ sym (append_assoc q.first.path front (step ∷ []))

    old_place : place_of s ≡ (upper ++ step ∷ inside.last ∷ [], bit_at s)
    old_place = place_is ∙ λ k. ((ap (λ v. v ++ inside.last ∷ []) up_is ∙ append_assoc upper (step ∷ []) (inside.last ∷ [])) k, bit_at s)

    module _ (t : Stand) (place : place_of t ≡ (upper ++ (step + 1) ∷ [], first_bit)) where
      goes_on : (p : PinPlace) → PinBefore p (place_of s) → PinBefore p (place_of t)
      goes_on p h =
          subst (PinBefore p) (sym place)
          (PinBefore-more p (upper ++ step ∷ inside.last ∷ [], bit_at s) (upper ++ (step + 1) ∷ [], first_bit) (subst (PinBefore p) old_place h)
          (inl (PathBefore-under upper (step ∷ inside.last ∷ []) ((step + 1) ∷ []) (inl (omega arith)))))

      none_between : (path : List ℕ) (port bit : ℕ) → IsAsked q asks path port bit → (PinBefore (place_in path port bit) (place_of s) → ⊥) → PinBefore (place_in path port bit) (place_of t) → ⊥
      none_between path port bit asked behind before =
          let mid = between upper (step ∷ inside.last ∷ []) ((step + 1) ∷ []) path (bit_at s) (record { port = port; bit = bit }) first_bit
          (λ h. behind (subst (PinBefore (place_in path port bit)) (sym old_place) h)) (subst (PinBefore (place_in path port bit)) place before) in
          go mid.0 mid.1 mid.2 mid.3
        where
          go : (rest : List ℕ) → path ≡ upper ++ rest → (PinBefore (rest, record { port = port; bit = bit }) (step ∷ inside.last ∷ [], bit_at s) → ⊥) → PinBefore (rest, record { port = port; bit = bit }) ((step + 1) ∷ [], first_bit) → ⊥
          go [] is low high = low (inl tt)
          go (k ∷ rest) is low high = elim (cases_order k step) [
            | inl same ↦
                let path_is : path ≡ up ++ rest = is ∙ ap (λ v. upper ++ v ∷ rest) same ∙ sym (append_assoc upper (step ∷ []) rest) ∙ ap (λ v. v ++ rest) (sym up_is) in
                none_here rest port bit (subst (λ p. IsAsked q asks p port bit) path_is asked)
                (λ h. low (elim h [ inl less ↦ inl (inr (same, less)) | inr one ↦ inr ((λ i. same i ∷ one.0 i), one.1) ]))
            | inr apart ↦ elim apart [
              | inl less ↦ low (inl (inl less))
              | inr more ↦ elim high [
                | inl less ↦ elim less [ inl below ↦ omega (arith, more, below) | inr one ↦ not_before_nil rest one.1 ]
                | inr one ↦ none_before_first (record { port = port; bit = bit }) one.1
              ]
            ]
          ]

      pub back_left : left q t ≡ left q s
      back_left = sym (same_left q asks s t goes_on none_between)

-- what leaving the last occurrence for the instance behind it gives
module _ (q : Question) (asks : MayAsk q) (s : Stand) (stands : MayStand q s) (here : NothingHere q s) (deep : 2 ≤ length s.levels) where
  not_empty : (init : List ℕ) (last : ℕ) → init ++ last ∷ [] ≡ [] → ⊥
  not_empty [] last e = cc e
  not_empty (k ∷ init) last e = cc e

  abbrev inside : IsInside q asks s
  inside = (inside_at q asks s stands here.levels here.level here.levels_are).0

  level_is : inside.level ≡ here.level
  level_is = (inside_at q asks s stands here.levels here.level here.levels_are).2

  last_is : last_step s.path ≡ inside.last
  last_is = ap last_step inside.path_is ∙ last_push (q.first.path ++ inside.init) inside.last

  none : (j : Joint) → Contains (leads_in q.cells inside.level.cell inside.level.firsts.items) j → joint_before inside.last (bit_at s) j ≡ true
  none j has =
      ap (λ v. joint_before v (bit_at s) j) (sym last_is)
      ∙ here.next j (subst (λ (l : Level). Contains (leads_in q.cells l.cell l.firsts.items) j) level_is has)

  -- the levels above
  above_split : (front : List ℕ) × (step : ℕ) × (inside.init ≡ front ++ step ∷ []) × ((ls : List Level) × (l : Level) × (inside.levels ≡ ls ++ l ∷ [])
      × AreLevels q.design q.facts q.cells q.first q.first.path front ls × IsLevel q.design q.facts q.cells q.first (q.first.path ++ front) l)
  above_split = elim (last_cases inside.levels) [
    | inl empty ↦ absurd (let long = ap length (inside.levels_are ∙ ap (λ v. v ++ inside.level ∷ []) empty) in omega (arith, deep, long))
    | inr e ↦
        let split = levels_split q q.first.path inside.init e.0 e.1 (subst (AreLevels q.design q.facts q.cells q.first q.first.path inside.init) e.2 inside.above) in
        (split.0, split.1, split.2, (e.0, e.1, e.2, split.3, split.4))
  ]

  abbrev front : List ℕ
  front = above_split.0

  abbrev step : ℕ
  step = above_split.1

  init_is : inside.init ≡ front ++ step ∷ []
  init_is = above_split.2

  pub can_leave : CanLeave s
  can_leave = record {
    deep = deep;
    long = let two = ap length inside.path_is in
        let one = length_push (q.first.path ++ inside.init) inside.last in
        let more = length-append q.first.path inside.init in
        let some = ap length init_is ∙ length_push front step in
        omega (arith, two, one, more, some);
    room = λ path up last is.
        let whole : (path ++ up ∷ []) ++ last ∷ [] ≡ (q.first.path ++ inside.init) ++ inside.last ∷ [] = append_assoc path (up ∷ []) (last ∷ []) ∙ sym is ∙ inside.path_is in
        let parts = same_from_push (path ++ up ∷ []) (q.first.path ++ inside.init) last inside.last whole in
        let small = step_small q.design asks.ground.valid (top_of q.design).cell inside.level.cell path up (subst (λ p. Reaches q.design (top_of q.design).cell p inside.level.cell) (sym parts.0) inside.here.reached) in
        omega (arith, small);
  }

  module _ (t : Stand) (not_ready : s.ready ≡ false) (gone : HasLeft s t) where
    gone_path : gone.path ≡ q.first.path ++ inside.init
    gone_path = (same_from_push gone.path (q.first.path ++ inside.init) gone.step inside.last (sym gone.path_is ∙ inside.path_is)).0

    gone_levels : gone.levels ≡ inside.levels
    gone_levels = (same_from_push gone.levels inside.levels gone.level inside.level (sym gone.levels_are ∙ inside.levels_are)).0

    whole : gone.path ≡ (q.first.path ++ front) ++ step ∷ []
    whole = gone_path ∙ ap (λ v. q.first.path ++ v) init_is ∙ sym (append_assoc q.first.path front (step ∷ []))

    new_path : t.path ≡ (q.first.path ++ front) ++ (step + 1) ∷ []
    new_path =
        ap (λ (v : Stand). v.path) gone.new_is
        ∙ ap (λ p. set p (length p - 1) (last_step p + 1)) whole
        ∙ set_push (q.first.path ++ front) step (last_step ((q.first.path ++ front) ++ step ∷ []) + 1)
        ∙ ap (λ v. (q.first.path ++ front) ++ (v + 1) ∷ []) (last_push (q.first.path ++ front) step)

    new_place : place_of t ≡ ((q.first.path ++ front) ++ (step + 1) ∷ [], first_bit)
    new_place = λ k. (new_path k, record { port = (ap (λ (v : Stand). v.port) gone.new_is) k; bit = (ap (λ (v : Stand). v.bit) gone.new_is) k })

    pub left_stays : left q t ≡ left q s
    left_stays = back_left q asks s inside none front step init_is t new_place

    pub back_ready : t.ready ≡ false
    back_ready = ap (λ (v : Stand). v.ready) gone.new_is ∙ not_ready

    pub back_stands : MayStand q t
    back_stands = record {
      steps = front ++ (step + 1) ∷ [];
      path_is = new_path ∙ append_assoc q.first.path front ((step + 1) ∷ []);
      levels = subst (AreLevels q.design q.facts q.cells q.first q.first.path (front ++ (step + 1) ∷ [])) (sym (ap (λ (v : Stand). v.levels) gone.new_is ∙ gone_levels ∙ above_split.3.2))
          (levels_push q q.first.path front above_split.3.0 (step + 1) above_split.3.1 above_split.3.3 above_split.3.4);
      lowest = inr (inl (ap (λ (v : Stand). v.port) gone.new_is, ap (λ (v : Stand). v.bit) gone.new_is));
      ready = λ e. absurd (true≢false (sym e ∙ back_ready));
    }

-- in the net's own occurrence nothing is left at all
module _ (q : Question) (asks : MayAsk q) (s : Stand) (stands : MayStand q s) (here : NothingHere q s) where
  abbrev there : IsInside q asks s
  there = (inside_at q asks s stands here.levels here.level here.levels_are).0

  there_last : last_step s.path ≡ there.last
  there_last = ap last_step there.path_is ∙ last_push (q.first.path ++ there.init) there.last

  none_there : (j : Joint) → Contains (leads_in q.cells there.level.cell there.level.firsts.items) j → joint_before there.last (bit_at s) j ≡ true
  none_there j has =
      ap (λ v. joint_before v (bit_at s) j) (sym there_last)
      ∙ here.next j (subst (λ (l : Level). Contains (leads_in q.cells l.cell l.firsts.items) j) (inside_at q asks s stands here.levels here.level here.levels_are).2 has)

  own_only : length s.levels < 2 → (init : List ℕ) (ls : List Level) → s.levels ≡ ls ++ there.level ∷ [] → AreLevels q.design q.facts q.cells q.first q.first.path init ls → init ≡ []
  own_only short [] ls is h = refl
  own_only short (i ∷ init) [] is h = absurd h
  own_only short (i ∷ init) (l ∷ ls) is h = absurd (let long = ap length is in let more = length_push ls there.level in omega (arith, short, long, more))

  pub over : length s.levels < 2 → left q s ≡ []
  over short = nothing_left q asks s there none_there (own_only short there.init there.levels there.levels_are there.above)
