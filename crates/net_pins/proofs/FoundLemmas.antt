-- What each step towards the next pin comes to.
use Rattle.std.proofs.Common.{◌≡◌, ◌≢◌, ◌<◌, ◌-◌, ℕ, List, [], ◌∷◌, ◌++◌, length, drop, Bool, true, false, cond, refl, sym, ap, subst, ◌∙◌, inl, inr, arith, Some, None, Option, slice_get, append_assoc, append-nil}
use Rattle.std.specs.Prelude.{◌↔◌, IfOk, IsSome, OnErr, OnOk, Result, Ok, Err}
use Rattle.std.specs.List.{Contains}
use Rattle.std.specs.Option.{option_map_or, option_to_list}
use Rattle.std.proofs.lemmas.Bool.{cases_Bool, false≢true}
use Rattle.std.proofs.lemmas.List.{get_or_at, length_push, same_from_push}
use Rattle.std.proofs.lemmas.Option.{none-some, same_Some, slice_get-get_or}
use Rattle.netlist_schema.specs.Design.{Design, cell_at}
use Rattle.netlist_schema.specs.Hierarchy.{insts_at}
use Rattle.netlist_schema.specs.Types.{CellBody, CellId, Inst}
use Rattle.flat_spec.specs.Paths.{Bit}
use Rattle.flat_spec.specs.Pins.{bits_of, own_bits}
use Rattle.flat_spec.specs.Types.{Item}
use Rattle.flat_spec.proofs.ListLemmas.{Contains-member, last_cases}
use Rattle.net_classes.specs.declared.joints.Joint.{Joint}
use Rattle.net_pins.specs.Levels.{AreInOrder, AreLevels, IsNextOf, LeadsTo, leads_in}
use Rattle.net_pins.specs.Moves.{CanLeave, IsBelowAt, IsBlock, IsDropped, IsLeadAt, IsOwnBit, NothingHere, IsOwnLevel, at_bit, bit_at, entered, last_step, made_ready, moved, passed_by}
use Rattle.net_pins.specs.Spots.{MayAsk, MayStand, Question, Stand, left, passed, pin_of}
use Rattle.net_rows.specs.Tops.{IsNextBit, bits_in}
use Rattle.net_pins.specs.declared.levels.Level.{Level}
use Rattle.net_pins.specs.declared.spot.Below.{Below}
use Rattle.net_rows.specs.declared.tops.OwnBit.{OwnBit}
use Rattle.net_pins.proofs.LeadLemmas.{joint_inst, lead_of_level}
use Rattle.net_pins.proofs.MoveLemmas.{block_left, block_stands, entered_left, entered_stands, leaf_left, leaf_stands}
use Rattle.net_pins.proofs.PassLemmas.{next_is, passed_stands}
use Rattle.net_rows.proofs.RowLemmas.{row_order}
use Rattle.net_pins.proofs.StandLemmas.{IsInside, inside_at, last_push}
use Rattle.net_pins.proofs.StartLemmas.{into_left, into_stands, nowhere_left, own_left, own_level_is, own_stands}

-- a call that worked or did not
pub either_way : {A E : Type 0} {P Q R : Type 0} (r : Result A E) → OnOk r P → OnErr r Q → (P → R) → (Q → R) → R
either_way (Ok a) ok err p q = p ok
either_way (Err e) ok err p q = q err

-- what holds of what a call gave
pub if_ok_more : {A E : Type 0} {P Q : A → Type 0} (r : Result A E) → ((a : A) → P a → Q a) → IfOk r P → IfOk r Q
if_ok_more (Ok a) more is = more a is
if_ok_more (Err e) more is = tt

-- what holds anyway holds where a call did not work
pub on_err_too : {A E : Type 0} {P : Type 0} (r : Result A E) → P → OnErr r P
on_err_too (Ok a) p = tt
on_err_too (Err e) p = p

-- a list with a last element ends in it
pub last_split : {A : Type 0} (xs : List A) (x : A) → slice_get xs (length xs - 1) ≡ Some x → (init : List A) × (xs ≡ init ++ x ∷ [])
last_split xs x at = elim (last_cases xs) [
  | inl empty ↦ absurd (none-some x (sym (ap (λ v. slice_get v (length v - 1)) empty) ∙ at))
  | inr e ↦
      let long = length_push e.0 e.1 in
      let place : length (e.0 ++ e.1 ∷ []) - 1 < length (e.0 ++ e.1 ∷ []) = omega (arith, long) in
      let value = get_or_at e.0 e.1 [] e.1 (length (e.0 ++ e.1 ∷ []) - 1) (omega (arith, long)) in
      let here : slice_get (e.0 ++ e.1 ∷ []) (length (e.0 ++ e.1 ∷ []) - 1) ≡ Some e.1 = slice_get-get_or (e.0 ++ e.1 ∷ []) (length (e.0 ++ e.1 ∷ []) - 1) e.1 place ∙ ap Some value in
      (e.0, e.2 ∙ ap (λ v. e.0 ++ v ∷ []) (same_Some e.1 x (sym here ∙ sym (ap (λ v. slice_get v (length v - 1)) e.2) ∙ at)))
]

pub none_last : {A : Type 0} (xs : List A) → slice_get xs (length xs - 1) ≡ None → xs ≡ []
none_last xs at = elim (last_cases xs) [
  | inl empty ↦ empty
  | inr e ↦
      let long = length_push e.0 e.1 in
      let place : length (e.0 ++ e.1 ∷ []) - 1 < length (e.0 ++ e.1 ∷ []) = omega (arith, long) in
      absurd (none-some _ (sym at ∙ ap (λ v. slice_get v (length v - 1)) e.2 ∙ slice_get-get_or (e.0 ++ e.1 ∷ []) (length (e.0 ++ e.1 ∷ []) - 1) e.1 place))
]

pub no_elements : {A : Type 0} (xs : List A) → length xs ≡ 0 → xs ≡ []
no_elements [] long = refl
no_elements (x ∷ xs) long = absurd (omega (arith, long))

-- there was a last element
pub dropped : {A : Type 0} (old new : List A) (o : Option A) → old ≡ new ++ option_to_list o → IsSome o → IsDropped old new
dropped old new None is some = absurd (false≢true some)
dropped old new (Some x) is some = record { last = x; is = is }

-- the step above is small
pub room_above : (s : Stand) → CanLeave s → (path : List ℕ) (last : ℕ) → s.path ≡ path ++ last ∷ [] → last_step path < 4294967295
room_above s can path last is = elim (last_cases path) [
  | inl empty ↦ absurd (let long = ap length (is ∙ ap (λ v. v ++ last ∷ []) empty) in let two = can.long in omega (arith, long, two))
  | inr e ↦
      let up_is : last_step path ≡ e.1 = ap last_step e.2 ∙ last_push e.0 e.1 in
      let small = can.room e.0 e.1 last (is ∙ ap (λ v. v ++ last ∷ []) e.2 ∙ append_assoc e.0 (e.1 ∷ []) (last ∷ [])) in
      omega (arith, up_is, small)
]

own_body : (d : Design) (c : CellId) (b : Bit) → Contains (own_bits d c) b → (body : CellBody) × (cell_at d c ≡ Some body)
own_body d c b has = go (cell_at d c) refl has
  where
    go : (o : Option CellBody) → cell_at d c ≡ o → Contains (option_map_or bits_of o []) b → (body : CellBody) × (cell_at d c ≡ Some body)
    go None is has = absurd (Contains-member [] b has)
    go (Some body) is has = (body, is)

module _ (q : Question) (asks : MayAsk q) (s : Stand) (stands : MayStand q s) where
  -- the joints of the last level are in order
  pub last_order : (levels : List Level) (level : Level) → s.levels ≡ levels ++ level ∷ [] → AreInOrder q.cells level.cell
  last_order levels level is =
      let at = inside_at q asks s stands levels level is in
      subst (λ (l : Level). AreInOrder q.cells l.cell) at.2
      (λ f. row_order q.role q.design q.facts asks.notes asks.ground q.cells asks.kept.below asks.kept.are_below asks.kept.rows (q.first.path ++ at.0.init) at.0.level.cell at.0.here.reached f)

  module _ (not_ready : s.ready ≡ false) where
    -- at the net's own occurrence
    module _ (own_only : s.levels ≡ []) where
      own_of : (own : OwnBit) → IsOwnBit q s (Some own) → (q.first.path ≡ []) × IsNextBit (bits_in q.tops q.first.net) (bit_at s) (Some own)
      own_of own h = go q.first.path refl
        where
          some_step : (i : ℕ) (p : List ℕ) → q.first.path ≡ i ∷ p → q.first.path ≢ []
          some_step i p e empty = cons_not_nil (sym e ∙ empty)
            where
              cons_not_nil : i ∷ p ≡ [] → ⊥
              cons_not_nil k = cc k

          go : (p : List ℕ) → q.first.path ≡ p → (q.first.path ≡ []) × IsNextBit (bits_in q.tops q.first.net) (bit_at s) (Some own)
          go [] e = (e, h.0 e)
          go (i ∷ p) e = absurd (none-some own (sym (h.1 (some_step i p e))))

      pub own_found : (own : OwnBit) → IsOwnBit q s (Some own)
          → MayStand q (made_ready (at_bit s own.port own.bit)) × (left q (made_ready (at_bit s own.port own.bit)) ≡ left q s)
      own_found own h =
          let o = own_of own h in
          (own_stands q asks s stands not_ready own_only o.0 own o.1.0, own_left q asks s stands not_ready own_only o.0 own o.1.0 o.1.1 o.1.2)

      pub own_nowhere : IsOwnBit q s None → IsOwnLevel q None → left q s ≡ []
      own_nowhere none nowhere = nowhere_left q asks s stands not_ready own_only none.0 nowhere

      pub own_entered : IsOwnBit q s None → (l : Level) → IsOwnLevel q (Some l) → MayStand q (entered s l) × (left q (entered s l) ≡ left q s)
      own_entered none l is =
          let at = own_level_is q asks l is.0 is.1 in
          (into_stands q asks s stands not_ready own_only none.0 l at, into_left q asks s stands not_ready own_only none.0 l at)

    -- at a joint
    module _ (cell : CellId) (joint : Joint) (lead : IsLeadAt q s cell joint) where
      at : (i : IsInside q asks s) × (i.levels ≡ lead.levels) × (i.level ≡ lead.level)
      at = inside_at q asks s stands lead.levels lead.level lead.levels_are

      abbrev inside : IsInside q asks s
      inside = at.0

      abbrev up : List ℕ
      up = q.first.path ++ inside.init

      abbrev all : List Joint
      all = leads_in q.cells inside.level.cell inside.level.firsts.items

      last_is : last_step s.path ≡ inside.last
      last_is = ap last_step inside.path_is ∙ last_push up inside.last

      next : IsNextOf all inside.last (bit_at s) (Some joint)
      next =
          subst (λ n. IsNextOf all n (bit_at s) (Some joint)) last_is
          (subst (λ (l : Level). IsNextOf (leads_in q.cells l.cell l.firsts.items) (last_step s.path) (bit_at s) (Some joint)) (sym at.2) lead.next)

      cell_is : inside.level.cell ≡ cell
      cell_is = ap (λ (l : Level). l.cell) at.2 ∙ lead.cell_is

      there_of : (i : Inst) → slice_get (insts_at q.design cell) joint.inst ≡ Some i → slice_get (insts_at q.design inside.level.cell) joint.inst ≡ Some i
      there_of i is = ap (λ (c : CellId). slice_get (insts_at q.design c) joint.inst) cell_is ∙ is

      pub below_there : IsBelowAt q.design cell joint.inst None → ⊥
      below_there none =
          let b : Bit = record { port = joint.port; bit = joint.bit } in
          let led = lead_of_level q.role q.design q.facts asks.notes asks.ground q.cells asks.kept.below asks.kept.are_below asks.kept.rows q.first up inside.level inside.here joint next.0 in
          let inst = joint_inst q.role q.design q.facts asks.notes asks.ground q.cells asks.kept.below asks.kept.are_below asks.kept.rows q.first up inside.level inside.here joint led.joint in
          let body = own_body q.design inst.0.of b inst.2 in
          none inst.0 body.0 (sym (ap (λ (c : CellId). slice_get (insts_at q.design c) joint.inst) cell_is) ∙ inst.1) body.1

      module _ (below : Below) (is : IsBelowAt q.design cell joint.inst (Some below)) where
        pub leaf_found : below.leaf ≡ true
            → MayStand q (made_ready (moved s joint.inst joint.port joint.bit)) × (left q (made_ready (moved s joint.inst joint.port joint.bit)) ≡ left q s)
        leaf_found leaf =
            let there = there_of is.0 is.2 in (
              leaf_stands q asks s inside joint next is.0 there is.1 is.4 (sym is.5 ∙ leaf) not_ready,
              leaf_left q asks s inside joint next is.0 there is.1 is.4 (sym is.5 ∙ leaf),
            )

        pub is_block : below.leaf ≡ false → IsBlock q.design cell joint.inst below.of
        is_block not_leaf = (is.0, is.1, is.2, is.3, is.4, sym is.5 ∙ not_leaf)

      module _ (of : CellId) (block : IsBlock q.design cell joint.inst of) where
        pub block_found : MayStand q (moved s joint.inst 0 0) × (left q (moved s joint.inst 0 0) ≡ left q s)
        block_found =
            let there = there_of block.0 block.2 in (
              block_stands q asks s inside joint next block.0 there block.1 block.4 block.5 not_ready,
              block_left q asks s inside joint next block.0 there block.1 block.4 block.5 not_ready,
            )

        pub entered_found : (made : Level) → made.cell ≡ of
            → ((f : ℕ) → Contains made.firsts.items f ↔ LeadsTo q.facts of joint.inst (leads_in q.cells lead.level.cell lead.level.firsts.items) f)
            → MayStand q (entered (moved s joint.inst 0 0) made) × (left q (entered (moved s joint.inst 0 0) made) ≡ left q s)
        entered_found made made_is firsts =
            let there = there_of block.0 block.2 in
            let same : made.cell ≡ block.0.of = made_is ∙ sym block.3 in
            let first : (f : ℕ) → Contains made.firsts.items f ↔ LeadsTo q.facts block.0.of joint.inst all f = λ f.
            subst (λ (c : CellId). Contains made.firsts.items f ↔ LeadsTo q.facts c joint.inst all f) (sym block.3)
            (subst (λ (l : Level). Contains made.firsts.items f ↔ LeadsTo q.facts of joint.inst (leads_in q.cells l.cell l.firsts.items) f) (sym at.2) (firsts f)) in (
              entered_stands q asks s inside joint next block.0 there block.1 block.4 block.5 not_ready made same first,
              entered_left q asks s inside joint next block.0 there block.1 block.4 block.5 not_ready made same first,
            )

-- what is known of the bits of the net's own occurrence
pub own_bit_top : (q : Question) (s : Stand) (o : Option OwnBit) → length q.first.path ≡ 0 → IsNextBit (bits_in q.tops q.first.net) (bit_at s) o → IsOwnBit q s o
own_bit_top q s o none next = (λ empty. next, λ below. absurd (below (no_elements q.first.path none)))

pub own_bit_below : (q : Question) (s : Stand) → (length q.first.path ≡ 0 → ⊥) → IsOwnBit q s None
own_bit_below q s long = (λ empty. absurd (long (ap length empty)), λ below. refl)

-- the next joint of the last level
pub lead_at : (q : Question) (s : Stand) (level : Level) → slice_get s.levels (length s.levels - 1) ≡ Some level → (joint : Joint)
    → IsNextOf (leads_in q.cells level.cell level.firsts.items) (last_step s.path) (bit_at s) (Some joint) → IsLeadAt q s level.cell joint
lead_at q s level at joint next =
    let split = last_split s.levels level at in
    record { levels = split.0; level = level; levels_are = split.1; cell_is = refl; next = next }

pub nothing_at : (q : Question) (s : Stand) (level : Level) → slice_get s.levels (length s.levels - 1) ≡ Some level
    → IsNextOf (leads_in q.cells level.cell level.firsts.items) (last_step s.path) (bit_at s) None → NothingHere q s
nothing_at q s level at next = let split = last_split s.levels level at in record { levels = split.0; level = level; levels_are = split.1; next = next }

pub order_at : (q : Question) (asks : MayAsk q) (s : Stand) → MayStand q s → (level : Level) → slice_get s.levels (length s.levels - 1) ≡ Some level → AreInOrder q.cells level.cell
order_at q asks s stands level at = let split = last_split s.levels level at in last_order q asks s stands split.0 level split.1

-- where one stands after a step, with what is left
pub record IsStep (q : Question) (old new : Stand) : Type 0 where
  pub stands : MayStand q new
  pub same : left q new ≡ left q old
  pub over : new.ready ≡ false

pub step_in : (q : Question) (asks : MayAsk q) (s : Stand) (stands : MayStand q s) (looks : s.ready ≡ false) (cell : CellId) (joint : Joint) (lead : IsLeadAt q s cell joint) (of : CellId)
    → IsBlock q.design cell joint.inst of → (level : Level) → slice_get s.levels (length s.levels - 1) ≡ Some level → (made : Level) → made.cell ≡ of
    → ((f : ℕ) → Contains made.firsts.items f ↔ LeadsTo q.facts of joint.inst (leads_in q.cells level.cell level.firsts.items) f)
    → (new : Stand) → new ≡ entered (moved s joint.inst 0 0) made → IsStep q s new
step_in q asks s stands looks cell joint lead of block level at made made_is firsts new is =
    let split = last_split s.levels level at in
    let same : level ≡ lead.level = (same_from_push split.0 lead.levels level lead.level (sym split.1 ∙ lead.levels_are)).1 in
    let found = entered_found q asks s stands looks cell joint lead of block made made_is
    (λ f. subst (λ (l : Level). Contains made.firsts.items f ↔ LeadsTo q.facts of joint.inst (leads_in q.cells l.cell l.firsts.items) f) same (firsts f)) in
    record { stands = subst (MayStand q) (sym is) found.0; same = ap (left q) is ∙ found.1; over = ap (λ (v : Stand). v.ready) is ∙ looks }

pub step_to_it : (q : Question) (asks : MayAsk q) (s : Stand) (stands : MayStand q s) (looks : s.ready ≡ false) (cell : CellId) (joint : Joint) (lead : IsLeadAt q s cell joint) (of : CellId)
    → IsBlock q.design cell joint.inst of → (new : Stand) → new ≡ moved s joint.inst 0 0 → IsStep q s new
step_to_it q asks s stands looks cell joint lead of block new is =
    let found = block_found q asks s stands looks cell joint lead of block in
    record { stands = subst (MayStand q) (sym is) found.0; same = ap (left q) is ∙ found.1; over = ap (λ (v : Stand). v.ready) is ∙ looks }

-- before the first pin
pub begins : (q : Question) (s : Stand) → s.levels ≡ [] → s.path ≡ q.first.path → s.ready ≡ false → MayStand q s
begins q s none path_is not_ready = record {
  steps = [];
  path_is = path_is ∙ sym (append-nil q.first.path);
  levels = subst (AreLevels q.design q.facts q.cells q.first q.first.path []) (sym none) tt;
  lowest = inl refl;
  ready = λ e. absurd (false≢true (sym not_ready ∙ e));
}

-- the next pin is passed, where it is ready
module _ (q : Question) (asks : MayAsk q) (s : Stand) (stands : MayStand q s) where
  same_cond : (b : Bool) → s.ready ≡ b → passed_by s ≡ cond b (passed s) s
  same_cond b e = ap (λ v. cond v (passed s) s) e

  pub passed_on : s.ready ≡ true → (MayStand q (passed_by s)) × (left q (passed_by s) ≡ drop 1 (left q s)) × ((passed_by s).ready ≡ false)
  passed_on ready =
      let same = same_cond true ready in (
        subst (MayStand q) (sym same) (passed_stands q asks s stands ready),
        ap (left q) same ∙ sym (ap (drop 1) (next_is q asks s stands ready)),
        ap (λ (v : Stand). v.ready) same,
      )

  pub passed_none : s.ready ≡ false → (MayStand q (passed_by s)) × (left q (passed_by s) ≡ left q s) × ((passed_by s).ready ≡ false)
  passed_none not_ready =
      let same = same_cond false not_ready in
      (subst (MayStand q) (sym same) stands, ap (left q) same, ap (λ (v : Stand). v.ready) same ∙ not_ready)

  pub passed_may : MayStand q (passed_by s)
  passed_may = elim (cases_Bool s.ready) [ inl ready ↦ (passed_on ready).0 | inr not_ready ↦ (passed_none not_ready).0 ]

  pub passed_over : (passed_by s).ready ≡ false
  passed_over = elim (cases_Bool s.ready) [ inl ready ↦ (passed_on ready).2 | inr not_ready ↦ (passed_none not_ready).2 ]

  pub some_left : s.ready ≡ true → left q s ≡ [] → ⊥
  some_left ready none = cons_not_nil (left q (passed s)) (sym (next_is q asks s stands ready) ∙ none)
    where
      cons_not_nil : (items : List Item) → pin_of q s ∷ items ≡ [] → ⊥
      cons_not_nil items e = cc e

  pub lent_is : s.ready ≡ true → left q s ≡ pin_of q s ∷ drop 1 (left q s)
  lent_is ready = let next = next_is q asks s stands ready in next ∙ ap (λ v. pin_of q s ∷ v) (sym (ap (drop 1) next))
