-- The next item of a list.
use Rattle.std.proofs.Common.{◌≡◌, ◌<◌, ◌≤◌, ◌+◌, ℕ, List, [], ◌∷◌, ◌++◌, length, get_or, refl, sym, ap, subst, ◌∙◌, inl, inr, arith, slice_get, Some, None, Option, Result, Ok, Err}
use Rattle.std.specs.Prelude.{IfNone, IfOk, IfSome, OnErr}
use Rattle.std.proofs.lemmas.List.{at_drop_all, at_drop_more}
use Rattle.std.specs.Option.{option_map}
use Rattle.std.proofs.lemmas.Bool.{cases_lt}
use Rattle.std.proofs.lemmas.Option.{none-some, same_Some, slice_get-get_or, slice_get_within}
use Rattle.netlist_schema.specs.Design.{Design}
use Rattle.netlist_schema.specs.Types.{CellId, Inst, Net}
use Rattle.netlist_pages.specs.declared.memory.NoMemory.{NoMemory}
use Rattle.flat_spec.specs.Paths.{at_path}
use Rattle.flat_spec.specs.Types.{Item}
use Rattle.ask_spec.specs.Places.{insts_of, nets_of}
use Rattle.netdb_questions.specs.Items.{inst_items, net_item, net_items, occurrence_item}
use Rattle.netdb_questions.specs.Lists.{Gives, Takes, given_by, insts_left, nets_left}

module _ (d : Design) (path : List ℕ) (place : ℕ) where
  pub inst_step : (o : Option Inst) → slice_get (insts_of d path) place ≡ o → (c : CellId) → option_map (λ (i : Inst). i.of) o ≡ Some c
      → insts_left d path place ≡ occurrence_item d (path ++ place ∷ []) c ∷ insts_left d path (place + 1)
  inst_step None is c of = absurd (none-some c of)
  inst_step (Some inst) is c of =
      let insts = insts_of d path in
      let within = slice_get_within insts place inst is in
      let here : get_or insts place inst ≡ inst = same_Some (get_or insts place inst) inst (sym (slice_get-get_or insts place inst within) ∙ is) in
      at_drop_more (inst_items d path place) insts place inst within
      ∙ ap (λ (i : Inst). occurrence_item d (path ++ place ∷ []) i.of ∷ insts_left d path (place + 1)) here
      ∙ ap (λ (v : CellId). occurrence_item d (path ++ place ∷ []) v ∷ insts_left d path (place + 1)) (same_Some inst.of c of)

  pub inst_none : (o : Option Inst) → slice_get (insts_of d path) place ≡ o → option_map (λ (i : Inst). i.of) o ≡ None → insts_left d path place ≡ []
  inst_none (Some inst) is of = absurd (none-some inst.of (sym of))
  inst_none None is of = elim (cases_lt place (length (insts_of d path))) [
    | inl within ↦ absurd (never (insts_of d path) within is)
    | inr past ↦ at_drop_all (inst_items d path place) (insts_of d path) place past
  ]
    where
      never : (insts : List Inst) → place < length insts → slice_get insts place ≡ None → ⊥
      never [] within none = omega (arith, within)
      never (inst ∷ insts) within none = none-some (get_or (inst ∷ insts) place inst) (sym none ∙ slice_get-get_or (inst ∷ insts) place inst within)

  pub net_next : place < length (nets_of d path) → nets_left d path place ≡ net_item d (at_path path place) ∷ nets_left d path (place + 1)
  net_next within = go (nets_of d path) within refl
    where
      go : (nets : List Net) → place < length nets → nets ≡ nets_of d path → nets_left d path place ≡ net_item d (at_path path place) ∷ nets_left d path (place + 1)
      go [] within is = absurd (omega (arith, within))
      go (net ∷ nets) within is = at_drop_more (net_items d path place) (nets_of d path) place net (subst (λ (v : List Net). place < length v) is within)

  pub nets_end : length (nets_of d path) ≤ place → nets_left d path place ≡ []
  nets_end past = at_drop_all (net_items d path place) (nets_of d path) place past

-- of a list that was begun
pub gives : (old new : List Item) (r : Result (Option Item) NoMemory) → Takes old new r → Gives (Some old) (Some new) (given_by r)
gives old new (Ok (Some item)) takes = (new, ap Some takes, refl)
gives old new (Ok None) takes = (ap Some takes.0, ap Some takes.1)
gives old new (Err error) takes = (λ e. none-some old (sym e), ap Some takes)

-- pins that are given one after another
pub takes : (old new : List Item) (r : Result (Option Item) NoMemory) → IfOk r (λ item. IfNone item ((old ≡ []) × (new ≡ []))) → IfOk r (λ item. IfSome item (λ first. old ≡ first ∷ new))
    → OnErr r (new ≡ old) → Takes old new r
takes old new (Ok (Some item)) none some err = some
takes old new (Ok None) none some err = none
takes old new (Err error) none some err = err
