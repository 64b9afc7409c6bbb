-- The items of occurrences, one after another.
use Rattle.std.proofs.Common.{◌≡◌, ◌<◌, ◌+◌, ℕ, zero, suc, List, [], ◌∷◌, ◌++◌, map, length, get_or, drop, sym, ap, subst, ◌∙◌, inl, inr, arith, append_assoc, Some}
use Rattle.std.specs.List.{flat_map, range_with_len}
use Rattle.std.specs.Option.{option_map_or}
use Rattle.std.proofs.lemmas.List.{map-append}
use Rattle.netlist_schema.specs.Design.{Design, cell_at, port_width}
use Rattle.netlist_schema.specs.Hierarchy.{NoCellIsBelowItself}
use Rattle.netlist_schema.specs.Types.{CellId, Port, TopHead}
use Rattle.flat_spec.specs.Effective.{effective}
use Rattle.flat_spec.specs.Flattening.{flattening, items_of, net_item, pin_item}
use Rattle.flat_spec.specs.Occurrences.{Occurrence, occurrences, own_nets}
use Rattle.flat_spec.specs.Paths.{Bit, Reaches}
use Rattle.flat_spec.specs.Pins.{shown_bits}
use Rattle.flat_spec.specs.declared.item.Item.{Item}
use Rattle.flat_spec.specs.declared.item.Item.TheVariants.{Enter}
use Rattle.flat_spec.proofs.ListLemmas.{Member}
use Rattle.flat_spec.proofs.OccurrenceLemmas.{occurrences-reaches}
use Rattle.design_model.specs.Items.{bit_at, bits_from, items_below}
use Rattle.flat_spec.proofs.RunLemmas.{drop-first, part_more}

-- one port more
pub port_more : (make : Bit → Item) (ports : List Port) (i : ℕ) (port : Port) (found added whole : List Item) → i < length ports → port ≡ get_or ports i port
    → added ≡ found ++ map make (map (bit_at i) (range_with_len 0 (port_width port)))
    → found ++ map make (bits_from i (drop i ports)) ≡ whole
    → added ++ map make (bits_from (i + 1) (drop (i + 1) ports)) ≡ whole
port_more make ports i port found added whole within is added_is so_far =
    let bits = map (bit_at i) (range_with_len 0 (port_width port)) in
    let rest = bits_from (i + 1) (drop (i + 1) ports) in
    let opened : map make (bits_from i (drop i ports)) ≡ map make bits ++ map make rest =
    ap (λ v. map make (bits_from i v)) (drop-first ports i port within is) ∙ map-append make bits rest in
    part_more (map make bits) (map make rest) found added whole added_is (sym (ap (λ v. found ++ v) opened) ∙ so_far)

-- three parts, one after another
pub three_added : {B : Type 0} (old entered netted done : List B) (e : B) (nets pins : List B) → entered ≡ old ++ e ∷ [] → netted ≡ entered ++ nets
    → done ≡ netted ++ pins → done ≡ old ++ (e ∷ nets ++ pins)
three_added old entered netted done e nets pins first second third =
    third ∙ ap (λ v. v ++ pins) (second ∙ ap (λ v. v ++ nets) first)
    ∙ ap (λ v. v ++ pins) (append_assoc old (e ∷ []) nets) ∙ append_assoc old (e ∷ nets) pins

get_or-member : {A : Type 0} (xs : List A) (i : ℕ) (x : A) → i < length xs → x ≡ get_or xs i x → Member xs x
get_or-member [] i x within is = absurd (omega arith)
get_or-member (y ∷ ys) zero x within is = inl (sym is)
get_or-member (y ∷ ys) (suc i) x within is = let less : i < length ys = omega arith in inr (get_or-member ys i x less is)

-- a listed occurrence is at the end of its path
pub listed-reaches : (d : Design) → NoCellIsBelowItself d → (root : CellId) (os : List Occurrence) (i : ℕ) (o : Occurrence) → os ≡ occurrences d root
    → i < length os → o ≡ get_or os i o → Reaches d root o.path o.cell
listed-reaches d acyclic root os i o are within is =
    occurrences-reaches d acyclic root o (subst (λ v. Member v o) are (get_or-member os i o within is))

-- the flattening below the design's top
pub flattening-top : (d : Design) (top : TopHead) → d.top ≡ Some top → flat_map (items_below d top.cell) (occurrences d top.cell) ≡ flattening d
flattening-top d top is =
    let pins = λ (o : Occurrence). map (pin_item d top.cell o.path) (option_map_or (shown_bits o.path) (cell_at d o.cell) []) in
    ap
    (λ t. flat_map
    (λ (o : Occurrence). Enter o.path o.cell (option_map_or (λ (v : TopHead). effective d v o.path) t []) ∷ map (net_item d top.cell) (own_nets d o) ++ pins o)
    (occurrences d top.cell))
    is
    ∙ sym (ap (λ t. option_map_or (λ (v : TopHead). flat_map (items_of d v) (occurrences d v.cell)) t []) is)
