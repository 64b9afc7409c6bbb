-- From one place to the next in an occurrence, into one below, and back.
use Rattle.std.proofs.Common.{◌≡◌, ◌⊎◌, ◌<◌, ◌≤◌, ◌-◌, ℕ, List, [], ◌∷◌, ◌++◌, length, true, false, ◌&&◌, refl, sym, ap, subst, ◌∙◌, inl, inr, arith, Some, set, slice_get, append_assoc, append-nil}
use Rattle.std.specs.Prelude.{is_none, nat_eq, nat_lt}
use Rattle.std.specs.List.{Contains}
use Rattle.std.proofs.lemmas.Bool.{and_from, and_parts, cases_order, eq-eqb, eqb-true, false_from_ne_true, false≢true, lt-ltb, ltb-true, or_cases, or_left, or_right, true≢false}
use Rattle.std.proofs.lemmas.Option.{same_Some}
use Rattle.netlist_schema.specs.Design.{cell_at}
use Rattle.netlist_schema.specs.Hierarchy.{insts_at}
use Rattle.netlist_schema.specs.Types.{CellBody, CellId, Inst}
use Rattle.flat_spec.specs.Flattening.{flattening}
use Rattle.flat_spec.specs.PathOrder.{PathBefore}
use Rattle.flat_spec.specs.Paths.{Bit, Reaches}
use Rattle.flat_spec.specs.declared.item.Item.TheVariants.{Pin}
use Rattle.flat_spec.proofs.ListLemmas.{Member, Member-contains, last_cases}
use Rattle.flat_spec.proofs.PathLemmas.{Reaches-append, Reaches-cons, Reaches-front, Reaches-parts, Some-same}
use Rattle.erc_spec.specs.Told.{BitBefore, PinBefore}
use Rattle.erc_spec.proofs.ItemLemmas.{pin_there}
use Rattle.ask_spec.specs.Roles.{pins_as}
use Rattle.net_classes.specs.declared.joints.Joint.{Joint}
use Rattle.flat_items.specs.Stand.{top_of}
use Rattle.net_pins.specs.Levels.{AreLevels, IsLevel, IsNextOf, LeadsTo, leads_in}
use Rattle.net_pins.specs.Moves.{bit_at, entered, made_ready, moved}
use Rattle.net_rows.specs.Tops.{bit_before}
use Rattle.net_pins.specs.Order.{PinPlace, joint_before}
use Rattle.net_pins.specs.Spots.{IsLowest, MayAsk, MayStand, Question, Stand, left, place_of}
use Rattle.net_pins.specs.declared.levels.Level.{Level}
use Rattle.net_pins.proofs.LeadLemmas.{body_of, body_there, has_contents, lead_is_pin, level_goes_down, pin_has_lead, shows_leaf}
use Rattle.net_pins.proofs.LeftLemmas.{place_in}
use Rattle.net_rows.proofs.BitLemmas.{bit_before-from, bit_before-true}
use Rattle.net_pins.proofs.OrderLemmas.{PathBefore-under, PinBefore-more, between, bits_compare, none_before_first}
use Rattle.net_pins.proofs.StandLemmas.{IsAsked, IsInside, levels_push, same_left, set_push}

abbrev pub first_bit : Bit
first_bit = record { port = 0; bit = 0 }

abbrev pub bit_of : Joint → Bit
bit_of j = record { port = j.port; bit = j.bit }

-- what the test of joints tells
pub before_parts : (inst : ℕ) (b : Bit) (j : Joint) → joint_before inst b j ≡ true → (j.inst < inst) ⊎ ((j.inst ≡ inst) × BitBefore (bit_of j) b)
before_parts inst b j e = elim (or_cases (nat_lt j.inst inst) (nat_eq j.inst inst && bit_before (bit_of j) b) e) [
  | inl less ↦ inl (ltb-true j.inst inst less)
  | inr same ↦
      let parts = and_parts (nat_eq j.inst inst) (bit_before (bit_of j) b) same in inr (eqb-true j.inst inst parts.0, bit_before-true (bit_of j) b parts.1)
]

pub before_from : (inst : ℕ) (b : Bit) (j : Joint) → (j.inst < inst) ⊎ ((j.inst ≡ inst) × BitBefore (bit_of j) b) → joint_before inst b j ≡ true
before_from inst b j h = elim h [
  | inl less ↦ or_left (nat_lt j.inst inst) (nat_eq j.inst inst && bit_before (bit_of j) b) (lt-ltb j.inst inst less)
  | inr same ↦ or_right (nat_lt j.inst inst) (nat_eq j.inst inst && bit_before (bit_of j) b)
      (and_from (nat_eq j.inst inst) (bit_before (bit_of j) b) (eq-eqb j.inst inst same.0) (bit_before-from (bit_of j) b same.1))
]

module _ (q : Question) (asks : MayAsk q) (s : Stand) (inside : IsInside q asks s) where
  abbrev root : CellId
  root = (top_of q.design).cell

  -- the path of the occurrence, the step and the bit
  abbrev up : List ℕ
  up = q.first.path ++ inside.init

  abbrev leads : List Joint
  leads = leads_in q.cells inside.level.cell inside.level.firsts.items

  place_is : place_of s ≡ (up ++ inside.last ∷ [], bit_at s)
  place_is = λ k. (inside.path_is k, bit_at s)

  -- a joint that leads to a pin at or behind the place
  pub record IsFound (rest : List ℕ) (b : Bit) : Type 0 where
    pub step : ℕ
    pub more : List ℕ
    pub rest_is : rest ≡ step ∷ more
    pub joint : Joint
    pub has : Contains leads joint
    pub on_it : joint.inst ≡ step
    pub bits : more ≡ [] → bit_of joint ≡ b
    pub behind : joint_before inside.last (bit_at s) joint ≡ false

  pub found : (rest : List ℕ) (port bit : ℕ) → IsAsked q asks (up ++ rest) port bit → (PinBefore (rest, record { port = port; bit = bit }) (inside.last ∷ [], bit_at s) → ⊥)
      → IsFound rest (record { port = port; bit = bit })
  found [] port bit asked behind = absurd (behind (inl tt))
  found (i ∷ r) port bit asked behind =
      let lead = pin_has_lead q.role q.design q.facts asks.notes asks.ground q.cells asks.kept.below asks.kept.are_below asks.kept.rows q.first up inside.level inside.here (inside.init, refl) i r port bit asked.item asked.stands in
      record {
        step = i;
        more = r;
        rest_is = refl;
        joint = lead.0;
        has = lead.1;
        on_it = lead.2;
        bits = λ e. let two = lead.3 e in λ k. record { port = two.0 k; bit = two.1 k };
        behind = false_from_ne_true (joint_before inside.last (bit_at s) lead.0) (λ e. passed lead.0 lead.2 lead.3 (before_parts inside.last (bit_at s) lead.0 e));
      }
    where
      -- below a leaf there is nothing
      not_below : (k : ℕ) (more : List ℕ) → r ≡ k ∷ more → i ≡ inside.last → IsLowest q.design s.path → ⊥
      not_below k more is same low =
          let told = pin_there q.design (top_of q.design) asks.ground.top asks.ground.valid.no_cycle (up ++ i ∷ r) port bit (Some q.first) asked.item in
          let whole : up ++ i ∷ r ≡ (up ++ i ∷ []) ++ k ∷ more = ap (λ v. up ++ i ∷ v) is ∙ sym (append_assoc up (i ∷ []) (k ∷ more)) in
          let front = Reaches-front q.design root told.0.0 (up ++ i ∷ []) (k ∷ more) (subst (λ p. Reaches q.design root p told.0.0) whole told.0.1) in
          let inst = Reaches-parts q.design front.0 k more told.0.0 front.2 in
          let body = body_there q.design front.0 k inst.0 inst.1 in
          let block = has_contents q.design front.0 body.0 body.1 k inst.0 inst.1 in
          let path : up ++ i ∷ [] ≡ s.path = ap (λ v. up ++ v ∷ []) same ∙ sym inside.path_is in
          false≢true (sym block ∙ low front.0 body.0 (subst (λ p. Reaches q.design root p front.0) path front.1) body.1)

      passed : (j : Joint) → j.inst ≡ i → (r ≡ [] → (j.port ≡ port) × (j.bit ≡ bit)) → (j.inst < inside.last) ⊎ ((j.inst ≡ inside.last) × BitBefore (bit_of j) (bit_at s)) → ⊥
      passed j on_it bits (inl less) = behind (inl (inl (subst (λ v. v < inside.last) on_it less)))
      passed j on_it bits (inr same) = elim (last_cases r) [
        | inl empty ↦
            let two = bits empty in
            let bit_is : bit_of j ≡ record { port = port; bit = bit } = λ k. record { port = two.0 k; bit = two.1 k } in
            behind (inr ((λ k. (sym on_it ∙ same.0) k ∷ empty k), subst (λ v. BitBefore v (bit_at s)) bit_is same.1))
        | inr e ↦ low_or_zero e.0 e.1 e.2
      ]
        where
          head : (init : List ℕ) (last : ℕ) → (k : ℕ) × (more : List ℕ) × (init ++ last ∷ [] ≡ k ∷ more)
          head [] last = (last, [], refl)
          head (k ∷ init) last = (k, init ++ last ∷ [], refl)

          low_or_zero : (init : List ℕ) (last : ℕ) → r ≡ init ++ last ∷ [] → ⊥
          low_or_zero init last is = elim inside.lowest [
            | inl start ↦
                let at_start : bit_at s ≡ first_bit = λ k. record { port = start.0 k; bit = start.1 k } in
                none_before_first (bit_of j) (subst (BitBefore (bit_of j)) at_start same.1)
            | inr low ↦ let h = head init last in not_below h.0 h.1 (is ∙ h.2) (sym on_it ∙ same.0) low
          ]

  -- an asked pin between the place and another of the same front is below the occurrence
  below_up : (low high : List ℕ) (c : Bit) (path : List ℕ) (port bit : ℕ) → IsAsked q asks path port bit → (PinBefore (place_in path port bit) (up ++ low, bit_at s) → ⊥)
      → PinBefore (place_in path port bit) (up ++ high, c)
      → (rest : List ℕ) × IsAsked q asks (up ++ rest) port bit × (PinBefore (rest, record { port = port; bit = bit }) (low, bit_at s) → ⊥) × PinBefore (rest, record { port = port; bit = bit }) (high, c)
  below_up low high c path port bit asked behind before =
      let mid = between up low high path (bit_at s) (record { port = port; bit = bit }) c behind before in
      (mid.0, subst (λ p. IsAsked q asks p port bit) mid.1 asked, mid.2, mid.3)

  module _ (joint : Joint) (next : IsNextOf leads inside.last (bit_at s) (Some joint)) (b : Bit)
      (not_before : inside.last ≡ joint.inst → BitBefore b (bit_at s) → ⊥) (upto : (v : Bit) → BitBefore v b → BitBefore v (bit_of joint)) where
    abbrev goal_place : PinPlace
    goal_place = (up ++ joint.inst ∷ [], b)

    pub moved_place : place_of (moved s joint.inst b.port b.bit) ≡ goal_place
    moved_place = λ k. ((ap (λ p. set p (length p - 1) joint.inst) inside.path_is ∙ set_push up inside.last joint.inst) k, b)

    step_upto : inside.last ≤ joint.inst
    step_upto = elim (cases_order joint.inst inside.last) [
      | inl same ↦ omega (arith, same)
      | inr apart ↦ elim apart [
        | inl less ↦ absurd (true≢false (sym (before_from inside.last (bit_at s) joint (inl less)) ∙ next.1))
        | inr more ↦ omega (arith, more)
      ]
    ]

    goes_on : (p : PinPlace) → PinBefore p (place_of s) → PinBefore p (place_of (moved s joint.inst b.port b.bit))
    goes_on p h = subst (PinBefore p) (sym moved_place) (elim ahead [
      | inl less ↦ PinBefore-more p (up ++ inside.last ∷ [], bit_at s) goal_place (subst (PinBefore p) place_is h) less
      | inr same ↦ subst (PinBefore p) (place_is ∙ same) h
    ])
      where
        ahead : PinBefore (up ++ inside.last ∷ [], bit_at s) goal_place ⊎ ((up ++ inside.last ∷ [], bit_at s) ≡ goal_place)
        ahead = elim (cases_order inside.last joint.inst) [
          | inl same ↦ elim (bits_compare (bit_at s) b) [
            | inl less ↦ inl (inr (ap (λ v. up ++ v ∷ []) same, less))
            | inr more ↦ elim more [ inl one ↦ inr (λ k. (up ++ same k ∷ [], one k)) | inr back ↦ absurd (not_before same back) ]
          ]
          | inr apart ↦ elim apart [
            | inl less ↦ inl (inl (PathBefore-under up (inside.last ∷ []) (joint.inst ∷ []) (inl less)))
            | inr more ↦ let upto_it = step_upto in absurd (omega (arith, more, upto_it))
          ]
        ]

    none_between : (path : List ℕ) (port bit : ℕ) → IsAsked q asks path port bit → (PinBefore (place_in path port bit) (place_of s) → ⊥)
        → PinBefore (place_in path port bit) (place_of (moved s joint.inst b.port b.bit)) → ⊥
    none_between path port bit asked behind before =
        let mid = below_up (inside.last ∷ []) (joint.inst ∷ []) b path port bit asked (λ h. behind (subst (PinBefore (place_in path port bit)) (sym place_is) h)) (subst (PinBefore (place_in path port bit)) moved_place before) in
        let led = found mid.0 port bit mid.1 mid.2 in
        let later = next.2 led.joint led.has led.behind in
        let ahead : PinBefore (led.step ∷ led.more, record { port = port; bit = bit }) (joint.inst ∷ [], b) = subst (λ p. PinBefore (p, record { port = port; bit = bit }) (joint.inst ∷ [], b)) led.rest_is mid.3 in
        elim ahead [
          | inl path ↦ elim path [
            | inl less ↦ true≢false (sym (before_from joint.inst (bit_of joint) led.joint (inl (subst (λ v. v < joint.inst) (sym led.on_it) less))) ∙ later)
            | inr same ↦ not_before_nil led.more same.1
          ]
          | inr same ↦
              let parts = cons_parts led.step joint.inst led.more [] same.0 in
              let earlier : BitBefore (bit_of led.joint) (bit_of joint) = subst (λ v. BitBefore v (bit_of joint)) (sym (led.bits parts.1)) (upto (record { port = port; bit = bit }) same.1) in
              true≢false (sym (before_from joint.inst (bit_of joint) led.joint (inr (led.on_it ∙ parts.0, earlier))) ∙ later)
        ]
      where
        not_before_nil : (p : List ℕ) → PathBefore p [] → ⊥
        not_before_nil [] h = h
        not_before_nil (k ∷ p) h = h

        cons_parts : (i k : ℕ) (p r : List ℕ) → i ∷ p ≡ k ∷ r → (i ≡ k) × (p ≡ r)
        cons_parts i k p r e = (cc e, cc e)

    pub moved_left : left q s ≡ left q (moved s joint.inst b.port b.bit)
    moved_left = same_left q asks s (moved s joint.inst b.port b.bit) goes_on none_between

    levels_there : AreLevels q.design q.facts q.cells q.first q.first.path (inside.init ++ joint.inst ∷ []) s.levels
    levels_there =
        subst (AreLevels q.design q.facts q.cells q.first q.first.path (inside.init ++ joint.inst ∷ [])) (sym inside.levels_are)
        (levels_push q q.first.path inside.init inside.levels joint.inst inside.level inside.above inside.here)

    pub moved_stands : s.ready ≡ false → (((b.port ≡ 0) × (b.bit ≡ 0)) ⊎ IsLowest q.design (up ++ joint.inst ∷ [])) → MayStand q (moved s joint.inst b.port b.bit)
    moved_stands not_ready lowest =
        let path_is : (moved s joint.inst b.port b.bit).path ≡ up ++ joint.inst ∷ [] = ap (λ (p : PinPlace). p.0) moved_place in
        record {
          steps = inside.init ++ joint.inst ∷ [];
          path_is = path_is ∙ append_assoc q.first.path inside.init (joint.inst ∷ []);
          levels = levels_there;
          lowest = inr (elim lowest [ inl start ↦ inl start | inr low ↦ inr (subst (IsLowest q.design) (sym path_is) low) ]);
          ready = λ e. absurd (true≢false (sym e ∙ not_ready));
        }

  -- at a leaf
  module _ (joint : Joint) (next : IsNextOf leads inside.last (bit_at s) (Some joint)) (inst : Inst) (there : slice_get (insts_at q.design inside.level.cell) joint.inst ≡ Some inst)
      (body : CellBody) (body_is : cell_at q.design inst.of ≡ Some body) where
    at_inst : Reaches q.design root (up ++ joint.inst ∷ []) inst.of
    at_inst = Reaches-append q.design root inside.level.cell inst.of up (joint.inst ∷ []) inside.here.reached (Reaches-cons q.design inside.level.cell joint.inst inst [] inst.of there refl)

    only_body : (c : CellId) (v : CellBody) → Reaches q.design root (up ++ joint.inst ∷ []) c → cell_at q.design c ≡ Some v → v ≡ body
    only_body c v at is =
        let same : c ≡ inst.of = Some-same _ at at_inst in
        same_Some v body (sym is ∙ ap (cell_at q.design) same ∙ body_is)

    leaf_not_before : inside.last ≡ joint.inst → BitBefore (bit_of joint) (bit_at s) → ⊥
    leaf_not_before same less = true≢false (sym (before_from inside.last (bit_at s) joint (inr (sym same, less))) ∙ next.1)

    module _ (leaf : is_none body.contents ≡ true) where
      is_lowest : IsLowest q.design (up ++ joint.inst ∷ [])
      is_lowest c v at is = ap (λ (w : CellBody). is_none w.contents) (only_body c v at is) ∙ leaf

      pub leaf_left : left q (made_ready (moved s joint.inst joint.port joint.bit)) ≡ left q s
      leaf_left = sym (moved_left joint next (bit_of joint) leaf_not_before (λ v h. h))

      pub leaf_stands : s.ready ≡ false → MayStand q (made_ready (moved s joint.inst joint.port joint.bit))
      leaf_stands not_ready =
          let h = moved_stands joint next (bit_of joint) leaf_not_before (λ v k. k) not_ready (inr is_lowest) in
          let path_is : (moved s joint.inst joint.port joint.bit).path ≡ up ++ joint.inst ∷ [] = ap (λ (p : PinPlace). p.0) (moved_place joint next (bit_of joint) leaf_not_before (λ v k. k)) in
          let pin = lead_is_pin q.role q.design q.facts asks.notes asks.ground q.cells asks.kept.below asks.kept.are_below asks.kept.rows q.first up inside.level inside.here asks.first joint next.0 inst there body body_is leaf in
          record {
            steps = h.steps;
            path_is = h.path_is;
            levels = h.levels;
            lowest = h.lowest;
            ready = λ e. Member-contains (pins_as q.role q.design q.first) (Pin (moved s joint.inst joint.port joint.bit).path joint.port joint.bit (Some q.first))
                (subst (λ p. Member (pins_as q.role q.design q.first) (Pin p joint.port joint.bit (Some q.first))) (sym path_is) pin);
          }

    -- in a cell with contents
    module _ (block : is_none body.contents ≡ false) (not_ready : s.ready ≡ false) where
      block_not_before : inside.last ≡ joint.inst → BitBefore first_bit (bit_at s) → ⊥
      block_not_before same less = elim inside.lowest [
        | inl start ↦
            let at_start : bit_at s ≡ first_bit = λ k. record { port = start.0 k; bit = start.1 k } in
            none_before_first first_bit (subst (BitBefore first_bit) at_start less)
        | inr low ↦
            let path : up ++ joint.inst ∷ [] ≡ s.path = ap (λ v. up ++ v ∷ []) (sym same) ∙ sym inside.path_is in
            false≢true (sym block ∙ low inst.of body (subst (λ p. Reaches q.design root p inst.of) path at_inst) body_is)
      ]

      block_upto : (v : Bit) → BitBefore v first_bit → BitBefore v (bit_of joint)
      block_upto v h = absurd (none_before_first v h)

      pub block_left : left q (moved s joint.inst 0 0) ≡ left q s
      block_left = sym (moved_left joint next first_bit block_not_before block_upto)

      pub block_stands : MayStand q (moved s joint.inst 0 0)
      block_stands = moved_stands joint next first_bit block_not_before block_upto not_ready (inl (refl, refl))

      path_there : (moved s joint.inst 0 0).path ≡ up ++ joint.inst ∷ []
      path_there = ap (λ (p : PinPlace). p.0) (moved_place joint next first_bit block_not_before block_upto)

      -- and into it
      module _ (made : Level) (cell_is : made.cell ≡ inst.of)
          (firsts : (f : ℕ) → (Contains made.firsts.items f → LeadsTo q.facts inst.of joint.inst leads f) × (LeadsTo q.facts inst.of joint.inst leads f → Contains made.firsts.items f)) where
        abbrev there_now : Stand
        there_now = entered (moved s joint.inst 0 0) made

        level_is : IsLevel q.design q.facts q.cells q.first (up ++ joint.inst ∷ []) made
        level_is =
            level_goes_down q.role q.design q.facts asks.notes asks.ground q.cells asks.kept.below asks.kept.are_below asks.kept.rows q.first up inside.level inside.here (inside.init, refl) joint.inst inst there made cell_is firsts

        pub entered_stands : MayStand q there_now
        entered_stands =
            let steps : List ℕ = inside.init ++ joint.inst ∷ [] in
            let whole : q.first.path ++ steps ≡ up ++ joint.inst ∷ [] = sym (append_assoc q.first.path inside.init (joint.inst ∷ [])) in
            record {
              steps = steps ++ 0 ∷ [];
              path_is = ap (λ p. p ++ 0 ∷ []) (path_there ∙ sym whole) ∙ append_assoc q.first.path steps (0 ∷ []);
              levels = levels_push q q.first.path steps s.levels 0 made (levels_there joint next first_bit block_not_before block_upto) (subst (λ p. IsLevel q.design q.facts q.cells q.first p made) (sym whole) level_is);
              lowest = inr (inl (refl, refl));
              ready = λ e. absurd (true≢false (sym e ∙ not_ready));
            }

        new_place : place_of there_now ≡ ((up ++ joint.inst ∷ []) ++ 0 ∷ [], first_bit)
        new_place = λ k. (path_there k ++ 0 ∷ [], first_bit)

        old_place : place_of (moved s joint.inst 0 0) ≡ ((up ++ joint.inst ∷ []) ++ [], first_bit)
        old_place = λ k. ((path_there ∙ sym (append-nil (up ++ joint.inst ∷ []))) k, first_bit)

        none_inside : (path : List ℕ) (port bit : ℕ) → IsAsked q asks path port bit → (PinBefore (place_in path port bit) (place_of (moved s joint.inst 0 0)) → ⊥)
            → PinBefore (place_in path port bit) (place_of there_now) → ⊥
        none_inside path port bit asked behind before =
            let mid = between (up ++ joint.inst ∷ []) [] (0 ∷ []) path first_bit (record { port = port; bit = bit }) first_bit (λ h. behind (subst (PinBefore (place_in path port bit)) (sym old_place) h)) (subst (PinBefore (place_in path port bit)) new_place before) in
            let here : path ≡ up ++ joint.inst ∷ [] = mid.1 ∙ ap (λ r. (up ++ joint.inst ∷ []) ++ r) (nothing mid.0 mid.3) ∙ append-nil (up ++ joint.inst ∷ []) in
            let told = pin_there q.design (top_of q.design) asks.ground.top asks.ground.valid.no_cycle (up ++ joint.inst ∷ []) port bit (Some q.first) (subst (λ p. Member (flattening q.design) (Pin p port bit (Some q.first))) here asked.item) in
            let shown = body_of q.design (up ++ joint.inst ∷ []) told.0.0 (record { port = port; bit = bit }) told.0.2 in
            let leaf = shows_leaf q.design up joint.inst told.0.0 shown.0 (record { port = port; bit = bit }) shown.1 told.0.2 in
            let one = only_body told.0.0 shown.0 told.0.1 shown.1 in
            true≢false (sym (sym (ap (λ (w : CellBody). is_none w.contents) one) ∙ leaf) ∙ block)
          where
            nothing : (rest : List ℕ) → PinBefore (rest, record { port = port; bit = bit }) (0 ∷ [], first_bit) → rest ≡ []
            nothing [] h = refl
            nothing (k ∷ rest) h = absurd (elim h [
              | inl path ↦ elim path [ inl less ↦ omega (arith, less) | inr same ↦ not_before_nil rest same.1 ]
              | inr same ↦ none_before_first (record { port = port; bit = bit }) same.1
            ])
              where
                not_before_nil : (p : List ℕ) → PathBefore p [] → ⊥
                not_before_nil [] h = h
                not_before_nil (k ∷ p) h = h

        pub entered_left : left q there_now ≡ left q s
        entered_left =
            sym (same_left q asks (moved s joint.inst 0 0) there_now
            (λ p h. subst (PinBefore p) (sym new_place) (PinBefore-more p ((up ++ joint.inst ∷ []) ++ [], first_bit) ((up ++ joint.inst ∷ []) ++ 0 ∷ [], first_bit) (subst (PinBefore p) old_place h)
            (inl (PathBefore-under (up ++ joint.inst ∷ []) [] (0 ∷ []) tt))))
            none_inside)
            ∙ block_left
