-- Alike designs have the same items, up to the names of blocks.
use Rattle.std.proofs.Common.{◌≡◌, ℕ, List, [], ◌∷◌, ◌++◌, map, refl, sym, ap, ◌∙◌, Option, Some, None}
use Rattle.std.specs.Prelude.{Bool, if◌then◌else◌, option_map, option_and_then, is_none, IfSome}
use Rattle.std.specs.List.{enumerate_from, flat_map, range_with_len}
use Rattle.std.specs.Option.{option_map_or}
use Rattle.std.proofs.lemmas.List.{map-append}
use Rattle.netlist_schema.specs.Design.{Design, cell_at, port_width}
use Rattle.netlist_schema.specs.Hierarchy.{NoCellIsBelowItself}
use Rattle.netlist_schema.specs.Types.{CellBody, CellId, Contents, Port, Property, TopHead}
use Rattle.edit_rules_spec.specs.declared.reply.CellName.{CellName}
use Rattle.flat_spec.specs.Effective.{effective}
use Rattle.flat_spec.specs.Flattening.{net_item, pin_item, items_of}
use Rattle.flat_spec.specs.Occurrences.{Occurrence, occurrences, own_nets}
use Rattle.flat_spec.specs.Paths.{Bit, nets_at, cell_along}
use Rattle.flat_spec.specs.Pins.{shown_bits, net_at_pin}
use Rattle.flat_spec.specs.Representatives.{representative}
use Rattle.flat_spec.specs.declared.item.Item.TheVariants.{Net, Pin}
use Rattle.flat_spec.specs.declared.item.NetAt.{NetAt}
use Rattle.flat_spec.specs.Types.{Item}
use Rattle.uniquify_spec.specs.Alike.{all_unplaced, Inside, inside_of, AreAlikeBelow, AreAlike}
use Rattle.uniquify_spec.specs.Erased.{Erased, entered, other, leaf_name, erased, erased_flattening}
use Rattle.uniquify_spec.proofs.AlikeNets.{nets_by, flat_map-by_path, at_occurrence, nets_along_same, representative_same, pin_same}
use Rattle.uniquify_spec.proofs.AlikePaths.{AreSameInside, path_of, paths_same, effective_same}
use Rattle.flat_spec.proofs.ListLemmas.{Member}

-- ---- the bits that are shown

abbrev bits_by : List Port → List Bit
bits_by ports =
    flat_map (λ (p : ℕ × Port). map (λ bit. record { port = p.0; bit = bit }) (range_with_len 0 (port_width p.1))) (enumerate_from 0 ports)

abbrev shown_by : List ℕ → Bool → List Port → List Bit
shown_by [] leaf ports = bits_by ports
shown_by (i ∷ path) leaf ports = if leaf then bits_by ports else []

abbrev bits_inside : List ℕ → Option Inside → List Bit
bits_inside path o = option_map_or (λ (s : Inside). shown_by path (is_none s.contents) s.ports) o []

leaf_unplaced : (o : Option Contents) → is_none (option_map all_unplaced o) ≡ is_none o
leaf_unplaced None = refl
leaf_unplaced (Some contents) = refl

bits_seen : (path : List ℕ) (o : Option CellBody) → bits_inside path (option_map inside_of o) ≡ option_map_or (shown_bits path) o []
bits_seen path None = refl
bits_seen [] (Some body) = refl
bits_seen (i ∷ path) (Some body) = ap (λ leaf. shown_by (i ∷ path) leaf body.ports) (leaf_unplaced body.contents)

abbrev shown_at : Design → List ℕ → CellId → List Bit
shown_at d path id = option_map_or (shown_bits path) (cell_at d id) []

bits_reached : (d : Design) (path : List ℕ) (k : Option CellId) → bits_inside path (option_map inside_of (option_and_then (cell_at d) k)) ≡ option_map_or (shown_at d path) k []
bits_reached d path None = refl
bits_reached d path (Some id) = bits_seen path (cell_at d id)

shown_same : (d e : Design) (c k : CellId) → AreSameInside d e c k → (path : List ℕ)
    → option_map_or (shown_at d path) (cell_along d c path) [] ≡ option_map_or (shown_at e path) (cell_along e k path) []
shown_same d e c k same path = sym (bits_reached d path (cell_along d c path)) ∙ ap (bits_inside path) (same path) ∙ bits_reached e path (cell_along e k path)

-- ---- the items of an occurrence, by its path

abbrev net_by : (NetAt → NetAt) → NetAt → Erased
net_by first x = other (Net x.path x.net (first x))

abbrev pin_by : (NetAt → NetAt) → List ℕ → (Bit → Option NetAt) → Bit → Erased
pin_by first path at b = other (Pin path b.port b.bit (option_map first (at b)))

-- what is seen of an occurrence
record Seen : Type 0 where
  pub leaf : Option CellName
  pub properties : List Property
  pub nets : List NetAt
  pub bits : List Bit
  pub first : NetAt → NetAt
  pub at : Bit → Option NetAt

abbrev items_by : List ℕ → Seen → List Erased
items_by path s = entered path s.leaf s.properties ∷ map (net_by s.first) s.nets ++ map (pin_by s.first path s.at) s.bits

erased_nets : (d : Design) (c : CellId) (xs : List NetAt) → map (erased d) (map (net_item d c) xs) ≡ map (net_by (representative d c)) xs
erased_nets d c [] = refl
erased_nets d c (x ∷ xs) = ap (λ ys. net_by (representative d c) x ∷ ys) (erased_nets d c xs)

erased_pins : (d : Design) (c : CellId) (path : List ℕ) (bs : List Bit)
    → map (erased d) (map (pin_item d c path) bs) ≡ map (pin_by (representative d c) path (net_at_pin d c path)) bs
erased_pins d c path [] = refl
erased_pins d c path (b ∷ bs) = ap (λ ys. pin_by (representative d c) path (net_at_pin d c path) b ∷ ys) (erased_pins d c path bs)

abbrev seen_of : Design → TopHead → Occurrence → Seen
seen_of d top o = record {
  leaf = leaf_name d o.cell;
  properties = effective d top o.path;
  nets = own_nets d o;
  bits = shown_at d o.path o.cell;
  first = representative d top.cell;
  at = net_at_pin d top.cell o.path;
}

erased_items : (d : Design) (top : TopHead) (o : Occurrence) → map (erased d) (items_of d top o) ≡ items_by o.path (seen_of d top o)
erased_items d top o =
    let s = seen_of d top o in
    ap (λ ys. entered o.path s.leaf s.properties ∷ ys)
    (map-append (erased d) (map (net_item d top.cell) (own_nets d o)) (map (pin_item d top.cell o.path) s.bits)
    ∙ (λ i. erased_nets d top.cell s.nets i ++ erased_pins d top.cell o.path s.bits i))

abbrev seen_at : Design → TopHead → List ℕ → Seen
seen_at d top path = record {
  leaf = option_map_or (leaf_name d) (cell_along d top.cell path) None;
  properties = effective d top path;
  nets = nets_by (option_map_or (nets_at d) (cell_along d top.cell path) []) path;
  bits = option_map_or (shown_at d path) (cell_along d top.cell path) [];
  first = representative d top.cell;
  at = net_at_pin d top.cell path;
}

seen_by_path : (d : Design) → NoCellIsBelowItself d → (top : TopHead) (o : Occurrence) → Member (occurrences d top.cell) o → seen_of d top o ≡ seen_at d top o.path
seen_by_path d acyclic top o m =
    let leaf = at_occurrence d acyclic top.cell (leaf_name d) None o m in
    let own = at_occurrence d acyclic top.cell (nets_at d) [] o m in
    let bits = at_occurrence d acyclic top.cell (shown_at d o.path) [] o m in
    λ i. record {
      leaf = leaf i;
      properties = effective d top o.path;
      nets = nets_by (own i) o.path;
      bits = bits i;
      first = representative d top.cell;
      at = net_at_pin d top.cell o.path;
    }

map-flat_map : {A B C : Type 0} (f : B → C) (g : A → List B) (xs : List A) → map f (flat_map g xs) ≡ flat_map (λ x. map f (g x)) xs
map-flat_map f g [] = refl
map-flat_map f g (x ∷ xs) = map-append f (g x) (flat_map g xs) ∙ ap (λ ys. map f (g x) ++ ys) (map-flat_map f g xs)

abbrev flattened : Design → TopHead → List Item
flattened d top = flat_map (items_of d top) (occurrences d top.cell)

flattened_by_path : (d : Design) → NoCellIsBelowItself d → (top : TopHead)
    → map (erased d) (flattened d top) ≡ flat_map (λ path. items_by path (seen_at d top path)) (map path_of (occurrences d top.cell))
flattened_by_path d acyclic top =
    map-flat_map (erased d) (items_of d top) (occurrences d top.cell)
    ∙ flat_map-by_path (λ o. map (erased d) (items_of d top o)) (λ path. items_by path (seen_at d top path)) (occurrences d top.cell)
    (λ o m. erased_items d top o ∙ ap (items_by o.path) (seen_by_path d acyclic top o m))

leaf_along : (d : Design) (k : Option CellId) → option_map_or (leaf_name d) k None ≡ option_map_or (λ (name : Option CellName). name) (option_map (leaf_name d) k) None
leaf_along d None = refl
leaf_along d (Some id) = refl

seen_same : (d e : Design) → NoCellIsBelowItself d → NoCellIsBelowItself e → (top : TopHead) → d.notes ≡ e.notes → AreAlikeBelow d e top.cell top.cell
    → (path : List ℕ) → seen_at d top path ≡ seen_at e top path
seen_same d e acyclic acyclic' top notes alike path =
    let leaf = leaf_along d (cell_along d top.cell path) ∙ ap (λ (o : Option (Option CellName)). option_map_or (λ name. name) o None) (alike.leaves path) ∙ sym (leaf_along e (cell_along e top.cell path)) in
    let properties = effective_same d e top notes alike.inside path in
    let own = nets_along_same d e top.cell top.cell alike.inside path in
    let bits = shown_same d e top.cell top.cell alike.inside path in
    λ i. record {
      leaf = leaf i;
      properties = properties i;
      nets = nets_by (own i) path;
      bits = bits i;
      first = λ x. representative_same d e acyclic acyclic' top.cell top.cell alike.inside x i;
      at = λ b. pin_same d e top.cell top.cell alike.inside path b i;
    }

flattened_same : (d e : Design) → NoCellIsBelowItself d → NoCellIsBelowItself e → (top : TopHead) → d.notes ≡ e.notes → AreAlikeBelow d e top.cell top.cell
    → map (erased d) (flattened d top) ≡ map (erased e) (flattened e top)
flattened_same d e acyclic acyclic' top notes alike =
    let paths = paths_same d e acyclic acyclic' top.cell top.cell alike.inside in
    flattened_by_path d acyclic top
    ∙ (λ i. flat_map (λ path. items_by path (seen_same d e acyclic acyclic' top notes alike path i)) (paths i))
    ∙ sym (flattened_by_path e acyclic' top)

pub alike_flatten_alike : (d e : Design) → NoCellIsBelowItself d → NoCellIsBelowItself e → AreAlike d e → erased_flattening d ≡ erased_flattening e
alike_flatten_alike d e acyclic acyclic' alike =
    at_top d.top alike.below
    ∙ ap (λ (o : Option TopHead). map (erased e) (option_map_or (flattened e) o [])) alike.top
  where
    at_top : (o : Option TopHead) → IfSome o (λ top. AreAlikeBelow d e top.cell top.cell)
        → map (erased d) (option_map_or (flattened d) o []) ≡ map (erased e) (option_map_or (flattened e) o [])
    at_top None below = refl
    at_top (Some top) below = flattened_same d e acyclic acyclic' top alike.notes below
