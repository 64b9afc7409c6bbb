-- Designs that differ in the cells behind their paths alone have the same items, where cells have names that are the same along each path.
use Rattle.std.proofs.Common.{◌≡◌, ℕ, List, [], ◌∷◌, ◌++◌, map, refl, sym, ap, ◌∙◌, Option, Some, None}
use Rattle.std.specs.Prelude.{Bool, if◌then◌else◌, option_map, option_and_then, is_none}
use Rattle.std.specs.List.{enumerate_from, flat_map, last_or, range_with_len}
use Rattle.std.specs.Option.{option_map_or}
use Rattle.std.proofs.lemmas.List.{map-append}
use Rattle.netlist_schema.specs.Design.{Design, cell_at, port_width}
use Rattle.netlist_schema.specs.Hierarchy.{NoCellIsBelowItself}
use Rattle.netlist_schema.specs.Types.{CellBody, CellId, Contents, Inst, Port, Property, TopHead}
use Rattle.edit_rules_spec.specs.Objects.{cell_name_at}
use Rattle.edit_rules_spec.specs.declared.reply.CellName.{CellName}
use Rattle.flat_spec.specs.Effective.{effective, insts_along, merged, notes_for}
use Rattle.flat_spec.specs.Flattening.{net_item, pin_item, items_of}
use Rattle.flat_spec.specs.Occurrences.{Occurrence, occurrences, own_nets}
use Rattle.flat_spec.specs.Paths.{Bit, nets_at, cell_along}
use Rattle.flat_spec.specs.Pins.{shown_bits, net_at_pin}
use Rattle.flat_spec.specs.Representatives.{representative}
use Rattle.flat_spec.specs.declared.item.Item.TheVariants.{Net, Pin}
use Rattle.flat_spec.specs.declared.item.NetAt.{NetAt}
use Rattle.flat_spec.specs.Types.{Item}
use Rattle.uniquify_spec.specs.Alike.{all_unplaced, Inside, inside_of, unplaced}
use Rattle.uniquify_spec.specs.Erased.{Erased, entered, other}
use Rattle.uniquify_spec.proofs.AlikeNets.{nets_by, flat_map-by_path, at_occurrence, nets_along_same, representative_same, pin_same}
use Rattle.uniquify_spec.proofs.AlikePaths.{AreSameInside, along_same, path_of, paths_same}
use Rattle.flat_spec.proofs.ListLemmas.{Member}
use Rattle.used_spec.specs.Named.{named}

-- ---- the bits that are shown

abbrev bits_by : List Port → List Bit
bits_by ports =
    flat_map (λ (p : ℕ × Port). map (λ bit. record { port = p.0; bit = bit }) (range_with_len 0 (port_width p.1))) (enumerate_from 0 ports)

abbrev shown_by : List ℕ → Bool → List Port → List Bit
shown_by [] leaf ports = bits_by ports
shown_by (i ∷ path) leaf ports = if leaf then bits_by ports else []

abbrev bits_inside : List ℕ → Option Inside → List Bit
bits_inside path o = option_map_or (λ (s : Inside). shown_by path (is_none s.contents) s.ports) o []

leaf_unplaced : (o : Option Contents) → is_none (option_map all_unplaced o) ≡ is_none o
leaf_unplaced None = refl
leaf_unplaced (Some contents) = refl

bits_seen : (path : List ℕ) (o : Option CellBody) → bits_inside path (option_map inside_of o) ≡ option_map_or (shown_bits path) o []
bits_seen path None = refl
bits_seen [] (Some body) = refl
bits_seen (i ∷ path) (Some body) = ap (λ leaf. shown_by (i ∷ path) leaf body.ports) (leaf_unplaced body.contents)

abbrev shown_at : Design → List ℕ → CellId → List Bit
shown_at d path id = option_map_or (shown_bits path) (cell_at d id) []

bits_reached : (d : Design) (path : List ℕ) (k : Option CellId) → bits_inside path (option_map inside_of (option_and_then (cell_at d) k)) ≡ option_map_or (shown_at d path) k []
bits_reached d path None = refl
bits_reached d path (Some id) = bits_seen path (cell_at d id)

shown_same : (d e : Design) (c k : CellId) → AreSameInside d e c k → (path : List ℕ)
    → option_map_or (shown_at d path) (cell_along d c path) [] ≡ option_map_or (shown_at e path) (cell_along e k path) []
shown_same d e c k same path = sym (bits_reached d path (cell_along d c path)) ∙ ap (bits_inside path) (same path) ∙ bits_reached e path (cell_along e k path)

-- ---- properties

abbrev properties_of : Inst → List Property
properties_of inst = inst.properties

last_properties : (o : Option Inst) (xs : List Inst) (base : List Property)
    → option_map_or properties_of (last_or (option_map unplaced o) (map unplaced xs)) base ≡ option_map_or properties_of (last_or o xs) base
last_properties None [] base = refl
last_properties (Some x) [] base = refl
last_properties o (x ∷ xs) base = last_properties (Some x) xs base

names_unplaced : (xs : List Inst) → map (λ (inst : Inst). inst.name.id) (map unplaced xs) ≡ map (λ (inst : Inst). inst.name.id) xs
names_unplaced [] = refl
names_unplaced (x ∷ xs) = ap (λ ns. x.name.id ∷ ns) (names_unplaced xs)

effective_alike : (d e : Design) (t u : TopHead) → d.notes ≡ e.notes → t.properties ≡ u.properties → AreSameInside d e t.cell u.cell → (path : List ℕ) → effective d t path ≡ effective e u path
effective_alike d e t u notes own same path =
    let along = along_same d e path t.cell u.cell same in
    let base = sym (last_properties None (insts_along d t.cell path) t.properties)
    ∙ (λ i. option_map_or properties_of (last_or None (along i)) (own i))
    ∙ last_properties None (insts_along e u.cell path) u.properties in
    let names = sym (names_unplaced (insts_along d t.cell path)) ∙ ap (map (λ (inst : Inst). inst.name.id)) along ∙ names_unplaced (insts_along e u.cell path) in
    λ i. merged (base i) (notes_for (names i) (notes i))

-- ---- the items of an occurrence, by its path

abbrev net_by : (NetAt → NetAt) → NetAt → Erased
net_by first x = other (Net x.path x.net (first x))

abbrev pin_by : (NetAt → NetAt) → List ℕ → (Bit → Option NetAt) → Bit → Erased
pin_by first path at b = other (Pin path b.port b.bit (option_map first (at b)))

-- what is seen of an occurrence
record Seen : Type 0 where
  pub name : Option CellName
  pub properties : List Property
  pub nets : List NetAt
  pub bits : List Bit
  pub first : NetAt → NetAt
  pub at : Bit → Option NetAt

abbrev items_by : List ℕ → Seen → List Erased
items_by path s = entered path s.name s.properties ∷ map (net_by s.first) s.nets ++ map (pin_by s.first path s.at) s.bits

named_nets : (d : Design) (c : CellId) (xs : List NetAt) → map (named d) (map (net_item d c) xs) ≡ map (net_by (representative d c)) xs
named_nets d c [] = refl
named_nets d c (x ∷ xs) = ap (λ ys. net_by (representative d c) x ∷ ys) (named_nets d c xs)

named_pins : (d : Design) (c : CellId) (path : List ℕ) (bs : List Bit)
    → map (named d) (map (pin_item d c path) bs) ≡ map (pin_by (representative d c) path (net_at_pin d c path)) bs
named_pins d c path [] = refl
named_pins d c path (b ∷ bs) = ap (λ ys. pin_by (representative d c) path (net_at_pin d c path) b ∷ ys) (named_pins d c path bs)

abbrev seen_of : Design → TopHead → Occurrence → Seen
seen_of d top o = record {
  name = cell_name_at d o.cell;
  properties = effective d top o.path;
  nets = own_nets d o;
  bits = shown_at d o.path o.cell;
  first = representative d top.cell;
  at = net_at_pin d top.cell o.path;
}

named_items : (d : Design) (top : TopHead) (o : Occurrence) → map (named d) (items_of d top o) ≡ items_by o.path (seen_of d top o)
named_items d top o =
    let s = seen_of d top o in
    ap (λ ys. entered o.path s.name s.properties ∷ ys)
    (map-append (named d) (map (net_item d top.cell) (own_nets d o)) (map (pin_item d top.cell o.path) s.bits)
    ∙ (λ i. named_nets d top.cell s.nets i ++ named_pins d top.cell o.path s.bits i))

abbrev seen_at : Design → TopHead → List ℕ → Seen
seen_at d top path = record {
  name = option_map_or (cell_name_at d) (cell_along d top.cell path) None;
  properties = effective d top path;
  nets = nets_by (option_map_or (nets_at d) (cell_along d top.cell path) []) path;
  bits = option_map_or (shown_at d path) (cell_along d top.cell path) [];
  first = representative d top.cell;
  at = net_at_pin d top.cell path;
}

seen_by_path : (d : Design) → NoCellIsBelowItself d → (top : TopHead) (o : Occurrence) → Member (occurrences d top.cell) o → seen_of d top o ≡ seen_at d top o.path
seen_by_path d acyclic top o m =
    let name = at_occurrence d acyclic top.cell (cell_name_at d) None o m in
    let own = at_occurrence d acyclic top.cell (nets_at d) [] o m in
    let bits = at_occurrence d acyclic top.cell (shown_at d o.path) [] o m in
    λ i. record {
      name = name i;
      properties = effective d top o.path;
      nets = nets_by (own i) o.path;
      bits = bits i;
      first = representative d top.cell;
      at = net_at_pin d top.cell o.path;
    }

map-flat_map : {A B C : Type 0} (f : B → C) (g : A → List B) (xs : List A) → map f (flat_map g xs) ≡ flat_map (λ x. map f (g x)) xs
map-flat_map f g [] = refl
map-flat_map f g (x ∷ xs) = map-append f (g x) (flat_map g xs) ∙ ap (λ ys. map f (g x) ++ ys) (map-flat_map f g xs)

abbrev pub flattened : Design → TopHead → List Item
flattened d top = flat_map (items_of d top) (occurrences d top.cell)

flattened_by_path : (d : Design) → NoCellIsBelowItself d → (top : TopHead)
    → map (named d) (flattened d top) ≡ flat_map (λ path. items_by path (seen_at d top path)) (map path_of (occurrences d top.cell))
flattened_by_path d acyclic top =
    map-flat_map (named d) (items_of d top) (occurrences d top.cell)
    ∙ flat_map-by_path (λ o. map (named d) (items_of d top o)) (λ path. items_by path (seen_at d top path)) (occurrences d top.cell)
    (λ o m. named_items d top o ∙ ap (items_by o.path) (seen_by_path d acyclic top o m))

-- what the two have alike
pub record IsNamedAlike (d e : Design) (t u : TopHead) : Type 0 where
  pub notes : d.notes ≡ e.notes
  pub own : t.properties ≡ u.properties
  pub inside : AreSameInside d e t.cell u.cell
  pub names : (path : List ℕ) → option_map_or (cell_name_at d) (cell_along d t.cell path) None ≡ option_map_or (cell_name_at e) (cell_along e u.cell path) None

seen_same : (d e : Design) → NoCellIsBelowItself d → NoCellIsBelowItself e → (t u : TopHead) → IsNamedAlike d e t u → (path : List ℕ) → seen_at d t path ≡ seen_at e u path
seen_same d e acyclic acyclic' t u alike path =
    let properties = effective_alike d e t u alike.notes alike.own alike.inside path in
    let own = nets_along_same d e t.cell u.cell alike.inside path in
    let bits = shown_same d e t.cell u.cell alike.inside path in
    λ i. record {
      name = alike.names path i;
      properties = properties i;
      nets = nets_by (own i) path;
      bits = bits i;
      first = λ x. representative_same d e acyclic acyclic' t.cell u.cell alike.inside x i;
      at = λ b. pin_same d e t.cell u.cell alike.inside path b i;
    }

pub flattened_same : (d e : Design) → NoCellIsBelowItself d → NoCellIsBelowItself e → (t u : TopHead) → IsNamedAlike d e t u → map (named d) (flattened d t) ≡ map (named e) (flattened e u)
flattened_same d e acyclic acyclic' t u alike =
    let paths = paths_same d e acyclic acyclic' t.cell u.cell alike.inside in
    flattened_by_path d acyclic t
    ∙ (λ i. flat_map (λ path. items_by path (seen_same d e acyclic acyclic' t u alike path i)) (paths i))
    ∙ sym (flattened_by_path e acyclic' u)
