-- Drivers and loads, and what the electrical check says of them.
use Rattle.std.proofs.Common.{◌≡◌, ℕ, List, [], ◌∷◌, Bool, true, false, ◌&&◌, ◌||◌, cond, Option, Some, None, refl, sym, ap, subst, ◌∙◌, inl, inr}
use Rattle.std.specs.Prelude.{filter}
use Rattle.std.specs.List.{Contains, list_any}
use Rattle.std.proofs.lemmas.Bool.{cases_Bool, false≢true, not_from_false, not_from_true, or_left, or_right, true≢false}
use Rattle.netlist_schema.specs.Design.{Design}
use Rattle.netlist_schema.specs.Types.{Direction}
use Rattle.netlist_schema.specs.declared.cell.Direction.TheVariants.{Input, Output, Inout}
use Rattle.flat_spec.specs.Flattening.{flattening}
use Rattle.flat_spec.specs.Types.{Item}
use Rattle.flat_spec.specs.declared.item.Item.TheVariants.{Enter, Net, Pin}
use Rattle.flat_spec.proofs.ListLemmas.{Contains-member, Member, Member-contains, Member-filter, Member-from_filter}
use Rattle.erc_spec.specs.Drives.{direction_at, is_at, is_either, is_strong, is_strong_port, is_weak}
use Rattle.erc_spec.specs.Findings.{findings, first_nets}
use Rattle.erc_spec.specs.declared.finding.Finding.TheVariants.{Undriven}
use Rattle.erc_spec.proofs.ItemLemmas.{first_net_from}
use Rattle.erc_spec.proofs.ToldLemmas.{is_first, undriven_from, undriven_is_not_driven}
use Rattle.ask_spec.specs.Nets.{first_of, pins_of}
use Rattle.ask_spec.specs.Roles.{drivers, is_driver, is_load, loads}
use Rattle.ask_spec.specs.Told.{EachDrivesOrLoads, UndrivenHasNoDrivers}
use Rattle.ask_spec.proofs.ClassLemmas.{first_is}

-- no element passes two tests exactly where nothing is left by both
module _ {A : Type 0} (p q : A → Bool) where
  pub none_pass : (xs : List A) → list_any (λ x. p x && q x) xs ≡ false → filter p (filter q xs) ≡ []
  none_pass [] e = refl
  none_pass (x ∷ xs) e = go (none_pass xs) (q x) (p x) refl e
    where
      go : (list_any (λ v. p v && q v) xs ≡ false → filter p (filter q xs) ≡ []) → (b c : Bool) → p x ≡ c → ((c && b) || list_any (λ v. p v && q v) xs) ≡ false
          → filter p (cond b (x ∷ filter q xs) (filter q xs)) ≡ []
      go more true true is e = absurd (true≢false e)
      go more true false is e = ap (λ v. cond v (x ∷ filter p (filter q xs)) (filter p (filter q xs))) is ∙ more e
      go more false true is e = more e
      go more false false is e = more e

  pub none_left : (xs : List A) → filter p (filter q xs) ≡ [] → list_any (λ x. p x && q x) xs ≡ false
  none_left [] e = refl
  none_left (x ∷ xs) e = go (none_left xs) (q x) (p x) refl e
    where
      not_nil : (v : A) (vs : List A) → v ∷ vs ≡ [] → ⊥
      not_nil v vs h = cc h

      go : (filter p (filter q xs) ≡ [] → list_any (λ v. p v && q v) xs ≡ false) → (b c : Bool) → p x ≡ c → filter p (cond b (x ∷ filter q xs) (filter q xs)) ≡ []
          → ((c && b) || list_any (λ v. p v && q v) xs) ≡ false
      go more true true is e =
          absurd (not_nil x (filter p (filter q xs)) (sym (ap (λ v. cond v (x ∷ filter p (filter q xs)) (filter p (filter q xs))) is) ∙ e))
      go more true false is e = more (sym (ap (λ v. cond v (x ∷ filter p (filter q xs)) (filter p (filter q xs))) is) ∙ e)
      go more false true is e = more e
      go more false false is e = more e

pub undriven_has_no_drivers : UndrivenHasNoDrivers
undriven_has_no_drivers d top x valid is there =
    let first = first_of d x in
    let first_there = is_first d top valid is x there in
    let named = first_is d top is x in (
      λ told. none_pass (is_driver d) (is_at first) (flattening d) (undriven_is_not_driven d (flattening d) first (Contains-member (findings d) (Undriven first) told)),
      λ none.
          Member-contains (findings d) (Undriven first)
          (undriven_from d (flattening d) first (subst (λ v. Member (first_nets (flattening d)) v) (sym named) (first_net_from d top is valid.no_cycle _ first_there))
          (none_left (is_driver d) (is_at first) (flattening d) none)),
    )

-- what drives weakly does not drive strongly
not_both : (d : Design) (item : Item) → is_weak d item ≡ true → is_strong d item ≡ false
not_both d (Enter path cell properties) e = refl
not_both d (Net path net first) e = refl
not_both d (Pin path port bit first) e = go path (direction_at d path port) e
  where
    go : (path : List ℕ) (o : Option Direction) → is_either o ≡ true → is_strong_port path o ≡ false
    go [] None e = refl
    go [] (Some Input) e = absurd (false≢true e)
    go [] (Some Output) e = refl
    go [] (Some Inout) e = refl
    go (i ∷ path) None e = refl
    go (i ∷ path) (Some Input) e = refl
    go (i ∷ path) (Some Output) e = absurd (false≢true e)
    go (i ∷ path) (Some Inout) e = refl

pub each_drives_or_loads : EachDrivesOrLoads
each_drives_or_loads d x item has = elim (cases_Bool (is_strong d item)) [
  | inl strong ↦ (
    inl (in_drivers (or_left (is_strong d item) (is_weak d item) strong)),
    (
      λ both. absurd (true≢false (sym (load_of both.1) ∙ not_from_true (is_strong d item) strong)),
      λ weak. absurd (true≢false (sym strong ∙ not_both d item weak)),
    ),
  )
  | inr weaker ↦ (
    inr (in_loads (not_from_false (is_strong d item) weaker)),
    (
      λ both. sym (ap (λ v. v || is_weak d item) weaker) ∙ driver_of both.0,
      λ weak. (in_drivers (or_right (is_strong d item) (is_weak d item) weak), in_loads (not_from_false (is_strong d item) weaker)),
    ),
  )
]
  where
    m : Member (pins_of d x) item
    m = Contains-member (pins_of d x) item has

    in_drivers : is_driver d item ≡ true → Contains (drivers d x) item
    in_drivers e = Member-contains (drivers d x) item (Member-filter (is_driver d) (pins_of d x) item m e)

    in_loads : is_load d item ≡ true → Contains (loads d x) item
    in_loads e = Member-contains (loads d x) item (Member-filter (is_load d) (pins_of d x) item m e)

    driver_of : Contains (drivers d x) item → is_driver d item ≡ true
    driver_of h = (Member-from_filter (is_driver d) (pins_of d x) item (Contains-member (drivers d x) item h)).1

    load_of : Contains (loads d x) item → is_load d item ≡ true
    load_of h = (Member-from_filter (is_load d) (pins_of d x) item (Contains-member (loads d x) item h)).1
