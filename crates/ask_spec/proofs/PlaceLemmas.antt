-- What stands at a path, by way of the cell that it reaches.
use Rattle.std.proofs.Common.{◌≡◌, ◌<◌, ◌↔◌, ℕ, List, [], ◌∷◌, ◌++◌, length, refl, ap, ◌∙◌, Option, Some, None, arith, slice_get}
use Rattle.std.specs.Prelude.{is_some, option_and_then}
use Rattle.std.specs.List.{Contains}
use Rattle.std.specs.Option.{option_map, option_map_or}
use Rattle.std.proofs.lemmas.Option.{none-some, same_Some}
use Rattle.netlist_schema.specs.Design.{Design, cell_at}
use Rattle.netlist_schema.specs.Hierarchy.{insts_at}
use Rattle.netlist_schema.specs.Types.{CellId, Inst, TopHead}
use Rattle.flat_spec.specs.Effective.{effective}
use Rattle.flat_spec.specs.Paths.{Bit, Reaches, cell_along, nets_at}
use Rattle.flat_spec.specs.Pins.{shown_bits}
use Rattle.flat_spec.proofs.ListLemmas.{Contains-member}
use Rattle.flat_spec.proofs.PathLemmas.{Reaches-append, Reaches-cons, Reaches-front, Reaches-parts, and_then-parts}
use Rattle.erc_spec.specs.Told.{pin_bits}
use Rattle.ask_spec.specs.Places.{at, bits_of, insts_of, nets_of, properties_of}

module _ (d : Design) where
  -- a path that leads from the top to a cell, and the other way round
  pub at-reaches : (path : List ℕ) (c : CellId) → at d path ≡ Some c → (top : TopHead) × (d.top ≡ Some top) × Reaches d top.cell path c
  at-reaches path c is = and_then-parts (λ (t : TopHead). cell_along d t.cell path) d.top c is

  pub reaches-at : (top : TopHead) (path : List ℕ) (c : CellId) → d.top ≡ Some top → Reaches d top.cell path c → at d path ≡ Some c
  reaches-at top path c is there = ap (option_and_then (λ (t : TopHead). cell_along d t.cell path)) is ∙ there

  pub insts-at : (path : List ℕ) (c : CellId) → at d path ≡ Some c → insts_of d path ≡ insts_at d c
  insts-at path c is = ap (λ o. option_map_or (insts_at d) o []) is

  pub nets-at : (path : List ℕ) (c : CellId) → at d path ≡ Some c → nets_of d path ≡ nets_at d c
  nets-at path c is = ap (λ o. option_map_or (nets_at d) o []) is

  pub bits-at : (path : List ℕ) (c : CellId) → at d path ≡ Some c → bits_of d path ≡ pin_bits d path c
  bits-at path c is = ap (λ o. option_map_or (shown_bits path) (option_and_then (cell_at d) o) []) is

  pub properties-at : (top : TopHead) (path : List ℕ) (c : CellId) → d.top ≡ Some top → Reaches d top.cell path c → properties_of d path ≡ Some (effective d top path)
  properties-at top path c is there =
      ap (option_and_then (λ (t : TopHead). option_map (λ (v : CellId). effective d t path) (cell_along d t.cell path))) is
      ∙ ap (option_map (λ (v : CellId). effective d top path)) there

  -- there are properties where there is an occurrence, and nowhere else
  pub properties_are_there : (path : List ℕ) → is_some (properties_of d path) ≡ is_some (at d path)
  properties_are_there path = go d.top
    where
      mapped : (top : TopHead) (o : Option CellId) → is_some (option_map (λ (v : CellId). effective d top path) o) ≡ is_some o
      mapped top None = refl
      mapped top (Some c) = refl

      go : (o : Option TopHead) → is_some (option_and_then (λ (t : TopHead). option_map (λ (v : CellId). effective d t path) (cell_along d t.cell path)) o)
          ≡ is_some (option_and_then (λ (t : TopHead). cell_along d t.cell path) o)
      go None = refl
      go (Some top) = mapped top (cell_along d top.cell path)

  -- where there is something, there is an occurrence
  pub bits-there : (path : List ℕ) (b : Bit) → Contains (bits_of d path) b → (c : CellId) × (at d path ≡ Some c) × Contains (pin_bits d path c) b
  bits-there path b h = go (at d path) refl h
    where
      go : (o : Option CellId) → at d path ≡ o → Contains (option_map_or (shown_bits path) (option_and_then (cell_at d) o) []) b
          → (c : CellId) × (at d path ≡ Some c) × Contains (pin_bits d path c) b
      go None is h = absurd (Contains-member [] b h)
      go (Some c) is h = (c, is, h)

  pub nets-there : (path : List ℕ) (n : ℕ) → n < length (nets_of d path) → (c : CellId) × (at d path ≡ Some c) × (n < length (nets_at d c))
  nets-there path n h = go (at d path) refl h
    where
      go : (o : Option CellId) → at d path ≡ o → n < length (option_map_or (nets_at d) o [])
          → (c : CellId) × (at d path ≡ Some c) × (n < length (nets_at d c))
      go None is h = absurd (omega (arith, h))
      go (Some c) is h = (c, is, h)

  pub insts-there : (path : List ℕ) (step : ℕ) (inst : Inst) → slice_get (insts_of d path) step ≡ Some inst
      → (c : CellId) × (at d path ≡ Some c) × (slice_get (insts_at d c) step ≡ Some inst)
  insts-there path step inst h = go (at d path) refl h
    where
      go : (o : Option CellId) → at d path ≡ o → slice_get (option_map_or (insts_at d) o []) step ≡ Some inst
          → (c : CellId) × (at d path ≡ Some c) × (slice_get (insts_at d c) step ≡ Some inst)
      go None is h = absurd (none-some inst h)
      go (Some c) is h = (c, is, h)

  -- one step down
  pub insts_are_told : (path : List ℕ) (step : ℕ) (c : CellId)
      → (at d (path ++ step ∷ []) ≡ Some c) ↔ ((inst : Inst) × (slice_get (insts_of d path) step ≡ Some inst) × (inst.of ≡ c))
  insts_are_told path step c = (to, from)
    where
      to : at d (path ++ step ∷ []) ≡ Some c → (inst : Inst) × (slice_get (insts_of d path) step ≡ Some inst) × (inst.of ≡ c)
      to is =
          let whole = at-reaches (path ++ step ∷ []) c is in
          let front = Reaches-front d whole.0.cell c path (step ∷ []) whole.2 in
          let last = Reaches-parts d front.0 step [] c front.2 in
          let here = insts-at path front.0 (reaches-at whole.0 path front.0 whole.1 front.1) in
          (last.0, ap (λ v. slice_get v step) here ∙ last.1, same_Some last.0.of c last.2)

      from : ((inst : Inst) × (slice_get (insts_of d path) step ≡ Some inst) × (inst.of ≡ c)) → at d (path ++ step ∷ []) ≡ Some c
      from h =
          let up = insts-there path step h.0 h.1 in
          let whole = at-reaches path up.0 up.1 in
          let last = Reaches-cons d up.0 step h.0 [] c up.2 (ap Some h.2) in
          reaches-at whole.0 (path ++ step ∷ []) c whole.1 (Reaches-append d whole.0.cell up.0 c path (step ∷ []) whole.2 last)
