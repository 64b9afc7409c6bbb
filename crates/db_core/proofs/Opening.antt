-- A database at its opening.
use Rattle.std.proofs.Common.{◌≡◌, ℕ, ◌≤◌, List, [], ◌∷◌, Option, length, ap, sym, ◌∙◌, subst, arith}
use Rattle.std.specs.FinMap.{get-empty, empty}
use Rattle.netlist_schema.specs.Design.{Design}
use Rattle.netlist_schema.specs.Order.{object_cmp}
use Rattle.netlist_schema.specs.Types.{Object}
use Rattle.netlist_schema.specs.Valid.{IsValid}
use Rattle.conflict_check.specs.Commits.{Commits, last_commit}
use Rattle.db_version.specs.Shot.{Shot}
use Rattle.db_spec.specs.declared.event.Event.{Event}
use Rattle.db_spec.specs.State.{IsWritten, opening}
use Rattle.db_core.specs.declared.database.Core.TheInside.{Inside}
use Rattle.db_core.specs.Inside.{IsCore, IsLastWrite, Stands}
use Rattle.db_core.specs.Story.{Story, IsHistory, shot, state}
use Rattle.db_core.proofs.Commits.{wrote_past}

none_wrote : (d : Design) (w : ℕ) (o : Object) → ¬ IsWritten (opening d) w o
none_wrote d w o wrote =
    let low : w ≤ 0 = wrote_past (opening d) w o wrote in
    let at : w ≡ 0 = omega arith in
    subst (λ (v : ℕ). IsWritten (opening d) v o) at wrote

opened : (x : Shot) → x.version ≡ 0 → x ≡ shot (opening x.design) 0
opened x at = λ i. record { version = at i; design = x.design }

pub fresh_core : (c : Inside) → IsValid c.opening.design → c.log.items ≡ [] → c.versions.items ≡ c.opening ∷ [] → c.head ≡ c.opening → c.opening.version ≡ 0 → c.pins.made ≡ 0 → c.pins.live ≡ [] → c.stamps ≡ empty → IsCore c
fresh_core c valid log versions at_head number made live stamps =
    let none : Story = record { opening = c.opening.design; events = [] } in
    let story : none ≡ record { opening = c.opening.design; events = c.log.items } = ap (λ (xs : List Event). record { opening = c.opening.design; events = xs }) (sym log) in
    let history : IsHistory none = record { valid = valid; legal = tt; typed = λ k d less. absurd (omega (arith, less)) } in
    let few : length c.log.items ≡ 0 = ap length log in
    let stands : Stands c (opening c.opening.design) = record {
      versions = versions ∙ ap (λ (k : Shot). k ∷ []) (opened c.opening number);
      head_is = at_head ∙ opened c.opening number;
      made = made;
      live = live;
      stamped = λ o. subst (λ (last : Option ℕ). IsLastWrite (opening c.opening.design) o last) (sym (ap (λ (s : Commits). last_commit s o) stamps ∙ get-empty object_cmp o)) (λ w wrote. none_wrote c.opening.design w o wrote);
      places = omega arith;
    } in
    record {
      first = number;
      history = subst IsHistory story history;
      stands = subst (λ (st : Story). Stands c (state st)) story stands;
    }
