-- How many items stand at and below an occurrence.
use Rattle.std.proofs.Common.{◌≡◌, ◌+◌, ◌-◌, ◌^◌, ℕ, List, [], ◌∷◌, ◌++◌, length, map, min, refl, sym, ap, ◌∙◌, arith, inl, inr, Some, None, Option, length-append}
use Rattle.std.specs.List.{enumerate_from, flat_map, range_with_len, sum_by}
use Rattle.std.specs.Option.{option_map_or}
use Rattle.std.proofs.lemmas.List.{length-map}
use Rattle.std.proofs.lemmas.List.FromFn.{length-range_with_len}
use Rattle.std.proofs.lemmas.List.Sums.{sum_by-cons}
use Rattle.netlist_schema.specs.Design.{Design, cell_at, nets_of}
use Rattle.netlist_schema.specs.Hierarchy.{insts_at, NoCellIsBelowItself}
use Rattle.netlist_schema.specs.Types.{CellBody, CellId, Contents, Inst, TopHead}
use Rattle.flat_spec.specs.Below.{items_under}
use Rattle.flat_spec.specs.Flattening.{items_of, net_item, pin_item}
use Rattle.flat_spec.specs.Occurrences.{Occurrence, own_nets}
use Rattle.flat_spec.specs.Paths.{Bit, at_path, nets_at}
use Rattle.flat_spec.specs.Pins.{shown_bits}
use Rattle.flat_spec.specs.Types.{Item}
use Rattle.flat_spec.proofs.BelowLemmas.{items_go_down}
use Rattle.flat_spec.proofs.BitLemmas.{bits_from-length}
use Rattle.flat_spec.proofs.ListLemmas.{Member}
use Rattle.par_parts.specs.Own.{body_count, inner_bits, own_count, top_bits}

-- as many nets as the contents has
nets_long : (d : Design) (o : Occurrence) → length (own_nets d o) ≡ length (nets_at d o.cell)
nets_long d o = length-map (range_with_len 0 (length (nets_at d o.cell))) (at_path o.path) ∙ length-range_with_len 0 (length (nets_at d o.cell))

-- the occurrence, its nets, and the pins that it shows
own_long : (d : Design) (top : TopHead) (o : Occurrence)
    → length (items_of d top o) ≡ 1 + length (nets_at d o.cell) + length (option_map_or (shown_bits o.path) (cell_at d o.cell) [])
own_long d top o =
    let bits : List Bit = option_map_or (shown_bits o.path) (cell_at d o.cell) [] in
    let nets : List Item = map (net_item d top.cell) (own_nets d o) in
    let pins : List Item = map (pin_item d top.cell o.path) bits in
    let both = length-append nets pins in
    let many_nets : length nets ≡ length (nets_at d o.cell) = length-map (own_nets d o) (net_item d top.cell) ∙ nets_long d o in
    let many_pins : length pins ≡ length bits = length-map bits (pin_item d top.cell o.path) in
    omega (arith, both, many_nets, many_pins)

own_below : (d : Design) (c : CellId) (step : ℕ) (path : List ℕ)
    → 1 + length (nets_at d c) + length (option_map_or (shown_bits (step ∷ path)) (cell_at d c) []) ≡ own_count d c
own_below d c step path = go (cell_at d c)
  where
    with_contents : (body : CellBody) (o : Option Contents)
        → 1 + length (nets_of (record body { contents = o })) + length (shown_bits (step ∷ path) (record body { contents = o })) ≡ body_count (record body { contents = o }) + 1
    with_contents body None = let bits = bits_from-length 0 body.ports in omega (arith, bits)
    with_contents body (Some contents) = omega arith

    go : (o : Option CellBody) → 1 + length (option_map_or nets_of o []) + length (option_map_or (shown_bits (step ∷ path)) o []) ≡ option_map_or body_count o 0 + 1
    go None = refl
    go (Some body) = with_contents body body.contents

own_at_top : (d : Design) (c : CellId) → 1 + length (nets_at d c) + length (option_map_or (shown_bits []) (cell_at d c) []) ≡ top_bits d c + own_count d c
own_at_top d c = go (cell_at d c)
  where
    with_contents : (body : CellBody) (o : Option Contents)
        → 1 + length (nets_of (record body { contents = o })) + length (shown_bits [] (record body { contents = o }))
        ≡ inner_bits (record body { contents = o }) + (body_count (record body { contents = o }) + 1)
    with_contents body None = let bits = bits_from-length 0 body.ports in omega (arith, bits)
    with_contents body (Some contents) = let bits = bits_from-length 0 body.ports in omega (arith, bits)

    go : (o : Option CellBody) → 1 + length (option_map_or nets_of o []) + length (option_map_or (shown_bits []) o []) ≡ option_map_or inner_bits o 0 + (option_map_or body_count o 0 + 1)
    go None = refl
    go (Some body) = with_contents body body.contents

-- a sum that stands still at the end of its numbers may stand still on the way
still : (most own size rest : ℕ) → min (own + (min size most + rest)) most ≡ min ((own + size) + rest) most
still most own size rest = omega arith

-- what stands below the instances from one on
abbrev pub below_long : Design → TopHead → List ℕ → ℕ → List Inst → ℕ
below_long d top path i insts = length (flat_map (λ (p : ℕ × Inst). items_under d top (path ++ p.0 ∷ []) p.1.of) (enumerate_from i insts))

module _ (d : Design) (top : TopHead) (kept : Inst → ℕ) where
  -- the counts of the instances' cells, where these are told of each occurrence with that path
  each_counted : (path : List ℕ) (i : ℕ) (insts : List Inst)
      → ((inst : Inst) (step : ℕ) → Member insts inst → kept inst ≡ min (length (items_under d top (path ++ step ∷ []) inst.of)) (2 ^ 64 - 1)) → (own : ℕ)
      → min (own + sum_by kept insts) (2 ^ 64 - 1) ≡ min (own + below_long d top path i insts) (2 ^ 64 - 1)
  each_counted path i [] told own = refl
  each_counted path i (inst ∷ insts) told own = go (2 ^ 64 - 1) (told inst i (inl refl)) (each_counted path (i + 1) insts (λ v step m. told v step (inr m)) (own + size))
    where
      here : List Item
      here = items_under d top (path ++ i ∷ []) inst.of

      size : ℕ
      size = length here

      go : (most : ℕ) → kept inst ≡ min size most → min ((own + size) + sum_by kept insts) most ≡ min ((own + size) + below_long d top path (i + 1) insts) most
          → min (own + sum_by kept (inst ∷ insts)) most ≡ min (own + below_long d top path i (inst ∷ insts)) most
      go most one more =
          let all : sum_by kept (inst ∷ insts) ≡ kept inst + sum_by kept insts = sum_by-cons kept inst insts in
          let both : below_long d top path i (inst ∷ insts) ≡ size + below_long d top path (i + 1) insts =
          length-append here (flat_map (λ (p : ℕ × Inst). items_under d top (path ++ p.0 ∷ []) p.1.of) (enumerate_from (i + 1) insts)) in
          omega (arith, all, both, one, more)

  module _ (acyclic : NoCellIsBelowItself d) (c : CellId) where
    -- an occurrence that is not the top
    pub counted_below : (step : ℕ) (path : List ℕ)
        → ((inst : Inst) (at : ℕ) → Member (insts_at d c) inst → kept inst ≡ min (length (items_under d top ((step ∷ path) ++ at ∷ []) inst.of)) (2 ^ 64 - 1))
        → min (own_count d c + sum_by kept (insts_at d c)) (2 ^ 64 - 1) ≡ min (length (items_under d top (step ∷ path) c)) (2 ^ 64 - 1)
    counted_below step path told =
        let o : Occurrence = record { path = step ∷ path; cell = c } in
        let own = own_long d top o ∙ own_below d c step path in
        let all = ap length (items_go_down d top (step ∷ path) c acyclic) ∙ length-append (items_of d top o) _ ∙ ap (λ v. v + below_long d top (step ∷ path) 0 (insts_at d c)) own in
        each_counted (step ∷ path) 0 (insts_at d c) told (own_count d c) ∙ ap (λ v. min v (2 ^ 64 - 1)) (sym all)

    -- the top
    pub counted_at_top : ((inst : Inst) (at : ℕ) → Member (insts_at d c) inst → kept inst ≡ min (length (items_under d top (at ∷ []) inst.of)) (2 ^ 64 - 1))
        → min (top_bits d c + own_count d c + sum_by kept (insts_at d c)) (2 ^ 64 - 1) ≡ min (length (items_under d top [] c)) (2 ^ 64 - 1)
    counted_at_top told =
        let o : Occurrence = record { path = []; cell = c } in
        let own = own_long d top o ∙ own_at_top d c in
        let all = ap length (items_go_down d top [] c acyclic) ∙ length-append (items_of d top o) _ ∙ ap (λ v. v + below_long d top [] 0 (insts_at d c)) own in
        each_counted [] 0 (insts_at d c) told (top_bits d c + own_count d c) ∙ ap (λ v. min v (2 ^ 64 - 1)) (sym all)
