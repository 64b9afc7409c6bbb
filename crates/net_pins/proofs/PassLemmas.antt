-- The pin that is next, and past it.
use Rattle.std.proofs.Common.{◌≡◌, ◌<◌, ◌+◌, ℕ, List, [], ◌∷◌, ◌++◌, true, refl, sym, ap, subst, ◌∙◌, inl, inr, arith, append_assoc, Some}
use Rattle.std.specs.List.{Contains}
use Rattle.std.proofs.lemmas.Bool.{true≢false}
use Rattle.netlist_schema.specs.Types.{CellId}
use Rattle.flat_spec.specs.PathOrder.{PathBefore}
use Rattle.flat_spec.specs.Paths.{Bit}
use Rattle.flat_spec.specs.declared.item.Item.TheVariants.{Pin}
use Rattle.flat_spec.proofs.ListLemmas.{Contains-member, Member, last_cases}
use Rattle.flat_spec.proofs.PathLemmas.{Some-same}
use Rattle.erc_spec.specs.Drives.{is_at}
use Rattle.erc_spec.specs.Told.{BitBefore, PinBefore, pin_bits}
use Rattle.erc_spec.proofs.ItemLemmas.{pin_there}
use Rattle.erc_spec.proofs.PinOrder.{PinBefore-differ}
use Rattle.ask_spec.specs.Roles.{pins_as}
use Rattle.flat_items.specs.Stand.{top_of}
use Rattle.net_pins.specs.Order.{PinPlace}
use Rattle.net_pins.specs.Spots.{IsLowest, MayAsk, MayStand, Question, Stand, left, passed, pin_of, place_of}
use Rattle.net_pins.proofs.LeadLemmas.{shows_leaf}
use Rattle.net_pins.proofs.LeftLemmas.{all_asked, left-first, pins-in_order, place_in}
use Rattle.net_pins.proofs.OrderLemmas.{PathBefore-more, PinBefore-more}
use Rattle.net_pins.proofs.RoomLemmas.{bit_small}
use Rattle.net_pins.proofs.StandLemmas.{IsAsked, is_asked}

not_itself : (p : PinPlace) → PinBefore p p → ⊥
not_itself p h = PinBefore-differ p p h refl

module _ (q : Question) (asks : MayAsk q) (s : Stand) (stands : MayStand q s) (ready : s.ready ≡ true) where
  abbrev here : PinPlace
  here = place_in s.path s.port s.bit

  pin : Member (pins_as q.role q.design q.first) (Pin s.path s.port s.bit (Some q.first))
  pin = Contains-member (pins_as q.role q.design q.first) (Pin s.path s.port s.bit (Some q.first)) (stands.ready ready)

  -- none comes between a bit and the next
  behind_next : (p : PinPlace) → PinBefore here p → PinBefore p (place_of (passed s)) → ⊥
  behind_next p h k = elim h [
    | inl path ↦ elim k [
      | inl back ↦ not_itself here (inl (PathBefore-more s.path p.0 s.path path back))
      | inr same ↦ not_itself here (inl (subst (PathBefore s.path) same.0 path))
    ]
    | inr one ↦ elim k [
      | inl back ↦ not_itself here (inl (subst (λ v. PathBefore v s.path) (sym one.0) back))
      | inr same ↦ between one.1 same.1
    ]
  ]
    where
      between : BitBefore (record { port = s.port; bit = s.bit }) p.1 → BitBefore p.1 (record { port = s.port; bit = s.bit + 1 }) → ⊥
      between a b = elim a [
        | inl port ↦ elim b [ inl back ↦ omega (arith, port, back) | inr same ↦ omega (arith, port, same.0) ]
        | inr bit ↦ elim b [ inl back ↦ omega (arith, bit.0, back) | inr same ↦ omega (arith, bit.1, same.1) ]
      ]

  pub next_is : left q s ≡ pin_of q s ∷ left q (passed s)
  next_is =
      left-first (pins_as q.role q.design q.first) q.first (λ item m. subst (λ v. is_at v item ≡ true) asks.first (all_asked q.role q.design q.first item m))
      (pins-in_order q.role q.design (top_of q.design) q.first asks.ground.valid asks.ground.top) s.path s.port s.bit pin (place_of s) (place_of (passed s))
      (record {
        behind = not_itself here;
        before = ahead;
        upto = λ p h. PinBefore-more p here (place_of (passed s)) h ahead;
        later = λ p h. (λ back. not_itself here (PinBefore-more here p here h back), behind_next p h);
        none = λ path port bit first m low high. low high;
      })
    where
      ahead : PinBefore here (place_of (passed s))
      ahead = inr (refl, inr (refl, omega arith))

  asked : IsAsked q asks s.path s.port s.bit
  asked = is_asked q asks s.path s.port s.bit (Some q.first) pin

  -- one bit more fits
  pub bit_has_room : s.bit < 4294967295
  bit_has_room =
      let told = pin_there q.design (top_of q.design) asks.ground.top asks.ground.valid.no_cycle s.path s.port s.bit (Some q.first) asked.item in
      let less = bit_small q.design asks.ground.valid s.path told.0.0 s.port s.bit told.0.2 in
      omega (arith, less)

  lowest : (up : List ℕ) (step : ℕ) → s.path ≡ up ++ step ∷ [] → IsLowest q.design s.path
  lowest up step is c body at body_is =
      let b : Bit = record { port = s.port; bit = s.bit } in
      let told = pin_there q.design (top_of q.design) asks.ground.top asks.ground.valid.no_cycle s.path s.port s.bit (Some q.first) asked.item in
      let same : told.0.0 ≡ c = Some-same _ told.0.1 at in
      let shown : Contains (pin_bits q.design (up ++ step ∷ []) c) b = subst (λ p. Contains (pin_bits q.design p c) b) is (subst (λ (v : CellId). Contains (pin_bits q.design s.path v) b) same told.0.2) in
      shows_leaf q.design up step c body b body_is shown

  pub passed_stands : MayStand q (passed s)
  passed_stands = record {
    steps = stands.steps;
    path_is = stands.path_is;
    levels = stands.levels;
    lowest = elim (last_cases stands.steps) [
      | inl empty ↦ inl empty
      | inr e ↦ inr (inr (lowest (q.first.path ++ e.0) e.1 (stands.path_is ∙ ap (λ v. q.first.path ++ v) e.2 ∙ sym (append_assoc q.first.path e.0 (e.1 ∷ [])))))
    ];
    ready = λ e. absurd (true≢false (sym e));
  }
