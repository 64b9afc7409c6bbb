-- Answers of a design with a top, by the cell to which a path leads.
use Rattle.std.proofs.Common.{◌≡◌, ℕ, List, [], ◌∷◌, ◌++◌, length, refl, sym, ap, ◌∙◌, Some, None, slice_get, arith}
use Rattle.std.specs.Prelude.{IfOk, Result, Ok, Err, option_and_then}
use Rattle.std.specs.Option.{option_map}
use Rattle.netlist_schema.specs.Design.{Design}
use Rattle.netlist_schema.specs.Hierarchy.{insts_at}
use Rattle.netlist_schema.specs.Types.{CellId, Inst, Property, TopHead}
use Rattle.flat_spec.specs.Effective.{effective}
use Rattle.flat_spec.specs.Paths.{Reaches, cell_along}
use Rattle.flat_spec.proofs.PathLemmas.{Reaches-append, Reaches-cons}
use Rattle.flat_items.specs.Stand.{top_of}
use Rattle.flat_items.proofs.EnterLemmas.{base_of_inst}
use Rattle.ask_spec.specs.Places.{at, properties_of}
use Rattle.ask_spec.proofs.PlaceLemmas.{properties-at}
use Rattle.ask_spec.specs.declared.role.Role.{Role}
use Rattle.ask_spec.specs.declared.role.Role.TheVariants.{Any, Driver, Load}
use Rattle.net_classes.specs.Facts.{Facts}
use Rattle.net_pins.specs.Spots.{IsKept}
use Rattle.net_pins.specs.declared.kept.Kept.{Kept}
use Rattle.flat_ask.specs.Asks.{IsBase, kept_for}

module _ (d : Design) (has_top : d.top ≡ Some (top_of d)) (path : List ℕ) where
  pub at_is : cell_along d (top_of d).cell path ≡ at d path
  at_is = sym (ap (option_and_then (λ (t : TopHead). cell_along d t.cell path)) has_top)

  pub no_properties : cell_along d (top_of d).cell path ≡ None → None ≡ properties_of d path
  no_properties none =
      sym (ap (option_and_then (λ (t : TopHead). option_map (λ (v : CellId). effective d t path) (cell_along d t.cell path))) has_top
      ∙ ap (option_map (λ (v : CellId). effective d (top_of d) path)) none)

  pub some_properties : (c : CellId) (found : List Property) → Reaches d (top_of d).cell path c → found ≡ effective d (top_of d) path → Some found ≡ properties_of d path
  some_properties c found reached is = ap Some is ∙ sym (properties-at d (top_of d) path c has_top reached)

-- the base of an occurrence below the top, and of the top
module _ (d : Design) where
  pub base_below : (above : List ℕ) (up : CellId) (step : ℕ) (inst : Inst) (base : List Property) → Reaches d (top_of d).cell above up → slice_get (insts_at d up) step ≡ Some inst
      → base ≡ inst.properties → IsBase d (above ++ step ∷ []) (Some base)
  base_below above up step inst base reached is same = (
    (inst.of, Reaches-append d (top_of d).cell up inst.of above (step ∷ []) reached (Reaches-cons d up step inst [] inst.of is refl)),
    same ∙ sym (base_of_inst d (top_of d) above up step inst reached is),
  )

  pub base_of_top : (path : List ℕ) (base : List Property) → length path ≡ 0 → base ≡ (top_of d).properties → IsBase d path (Some base)
  base_of_top [] base none same = (((top_of d).cell, refl), same)
  base_of_top (i ∷ path) base none same = absurd (omega (arith, none))

-- what holds of what a call gave
pub if_ok_more : {A E : Type 0} {P Q : A → Type 0} (r : Result A E) → ((a : A) → P a → Q a) → IfOk r P → IfOk r Q
if_ok_more (Ok a) more is = more a is
if_ok_more (Err e) more is = tt

-- what is kept for a role is so for it
pub kept_is : (role : Role) (d : Design) (facts : Facts) (any drivers loads : Kept) → IsKept Any d facts any.rows any.tops → IsKept Driver d facts drivers.rows drivers.tops
    → IsKept Load d facts loads.rows loads.tops → IsKept role d facts (kept_for role any drivers loads).rows (kept_for role any drivers loads).tops
kept_is Any d facts any drivers loads one two three = one
kept_is Driver d facts any drivers loads one two three = two
kept_is Load d facts any drivers loads one two three = three
