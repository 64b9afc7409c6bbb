-- Alike designs have the same nets, and these the same representatives.
use Rattle.std.proofs.Common.{◌≡◌, ℕ, List, [], ◌∷◌, ◌++◌, map, length, refl, sym, ap, ◌∙◌, inl, inr, Option, Some, None}
use Rattle.std.specs.Prelude.{Bool, false, ◌&&◌, ◌||◌, nat_eq, find, unwrap_or, slice_get, option_map, option_and_then, position}
use Rattle.std.specs.Cmp.Lexicographic.{pointwise}
use Rattle.std.specs.List.{flat_map, range_with_len}
use Rattle.std.specs.Option.{option_map_or}
use Rattle.netlist_schema.specs.Design.{Design, cell_at, nets_in, nets_of}
use Rattle.netlist_schema.specs.Hierarchy.{NoCellIsBelowItself}
use Rattle.netlist_schema.specs.Types.{CellBody, CellId, Contents, End, Net}
use Rattle.flat_spec.specs.ConnectionTest.{above, share_bit, leads_through, same_net, has_end}
use Rattle.flat_spec.specs.Occurrences.{Occurrence, occurrences, own_nets, nets}
use Rattle.flat_spec.specs.Paths.{Bit, own, on, nets_at, at_path, cell_along, ends_at}
use Rattle.flat_spec.specs.Pins.{net_joining, net_at_pin}
use Rattle.flat_spec.specs.Representatives.{representative}
use Rattle.flat_spec.specs.declared.item.NetAt.{NetAt}
use Rattle.flat_spec.proofs.ListLemmas.{Member}
use Rattle.flat_spec.proofs.OccurrenceLemmas.{occurrences-reaches}
use Rattle.uniquify_spec.specs.Alike.{all_unplaced, Inside, inside_of}
use Rattle.uniquify_spec.proofs.AlikePaths.{AreSameInside, path_of, paths_same}

abbrev pub nets_inside : Option Inside → List Net
nets_inside o = option_map_or (λ (s : Inside). nets_in s.contents) o []

nets_unplaced : (o : Option Contents) → nets_in (option_map all_unplaced o) ≡ nets_in o
nets_unplaced None = refl
nets_unplaced (Some contents) = refl

nets_seen : (o : Option CellBody) → nets_inside (option_map inside_of o) ≡ option_map_or nets_of o []
nets_seen None = refl
nets_seen (Some body) = nets_unplaced body.contents

nets_reached : (d : Design) (k : Option CellId) → nets_inside (option_map inside_of (option_and_then (cell_at d) k)) ≡ option_map_or (nets_at d) k []
nets_reached d None = refl
nets_reached d (Some id) = nets_seen (cell_at d id)

-- the nets at the end of a path
pub nets_along_same : (d e : Design) (c k : CellId) → AreSameInside d e c k → (path : List ℕ)
    → option_map_or (nets_at d) (cell_along d c path) [] ≡ option_map_or (nets_at e) (cell_along e k path) []
nets_along_same d e c k same path = sym (nets_reached d (cell_along d c path)) ∙ ap nets_inside (same path) ∙ nets_reached e (cell_along e k path)

one_of : (d : Design) (n : ℕ) (k : Option CellId) → option_and_then (λ c. slice_get (nets_at d c) n) k ≡ slice_get (option_map_or (nets_at d) k []) n
one_of d n None = refl
one_of d n (Some id) = refl

ends_same : (d e : Design) (c k : CellId) → AreSameInside d e c k → (x : NetAt) → ends_at d c x ≡ ends_at e k x
ends_same d e c k same x =
    ap (λ (o : Option Net). option_map_or (λ net. net.ends) o [])
    (one_of d x.net (cell_along d c x.path) ∙ ap (λ ns. slice_get ns x.net) (nets_along_same d e c k same x.path) ∙ sym (one_of e x.net (cell_along e k x.path)))

-- ---- the list of nets

pub flat_map-by_path : {B : Type 0} (f : Occurrence → List B) (g : List ℕ → List B) (os : List Occurrence) → ((o : Occurrence) → Member os o → f o ≡ g o.path)
    → flat_map f os ≡ flat_map g (map path_of os)
flat_map-by_path f g [] h = refl
flat_map-by_path f g (o ∷ os) h =
    let here = h o (inl refl) in
    let later = flat_map-by_path f g os (λ q m. h q (inr m)) in
    λ i. here i ++ later i

abbrev pub nets_by : List Net → List ℕ → List NetAt
nets_by ns path = map (at_path path) (range_with_len 0 (length ns))

-- what is at the end of the path of an occurrence is its cell
pub at_occurrence : (d : Design) → NoCellIsBelowItself d → (c : CellId) {B : Type 0} (f : CellId → B) (none : B) (o : Occurrence) → Member (occurrences d c) o
    → f o.cell ≡ option_map_or f (cell_along d c o.path) none
at_occurrence d acyclic c f none o m = sym (ap (λ k. option_map_or f k none) (occurrences-reaches d acyclic c o m))

nets_by_path : (d : Design) → NoCellIsBelowItself d → (c : CellId)
    → nets d c ≡ flat_map (λ path. nets_by (option_map_or (nets_at d) (cell_along d c path) []) path) (map path_of (occurrences d c))
nets_by_path d acyclic c =
    flat_map-by_path (own_nets d) (λ path. nets_by (option_map_or (nets_at d) (cell_along d c path) []) path) (occurrences d c)
    (λ o m. ap (λ ns. nets_by ns o.path) (at_occurrence d acyclic c (nets_at d) [] o m))

pub nets_same : (d e : Design) → NoCellIsBelowItself d → NoCellIsBelowItself e → (c k : CellId) → AreSameInside d e c k → nets d c ≡ nets e k
nets_same d e acyclic acyclic' c k same =
    let paths = paths_same d e acyclic acyclic' c k same in
    nets_by_path d acyclic c
    ∙ (λ i. flat_map (λ path. nets_by (nets_along_same d e c k same path i) path) (paths i))
    ∙ sym (nets_by_path e acyclic' k)

-- ---- representatives

-- the test of connection and the representative see no more than the ends and the nets
abbrev meets_by : (NetAt → List End) → NetAt → NetAt → Bool
meets_by ends upper lower = option_map_or (λ up. pointwise nat_eq up.0 upper.path && share_bit up.1 (ends upper) (ends lower)) (above lower.path) false

abbrev neighbours_by : (NetAt → List End) → NetAt → NetAt → Bool
neighbours_by ends x y = meets_by ends x y || meets_by ends y x

abbrev representative_by : (NetAt → List End) → List NetAt → NetAt → NetAt
representative_by ends ns x = unwrap_or (find (λ y. same_net x y || leads_through (neighbours_by ends) ns x y) ns) x

representative_seen : (d : Design) (c : CellId) (x : NetAt) → representative d c x ≡ representative_by (ends_at d c) (nets d c) x
unfolding representative
representative_seen d c x = refl

pub representative_same : (d e : Design) → NoCellIsBelowItself d → NoCellIsBelowItself e → (c k : CellId) → AreSameInside d e c k → (x : NetAt)
    → representative d c x ≡ representative e k x
representative_same d e acyclic acyclic' c k same x =
    let all = nets_same d e acyclic acyclic' c k same in
    representative_seen d c x
    ∙ (λ i. representative_by (λ y. ends_same d e c k same y i) (all i) x)
    ∙ sym (representative_seen e k x)

-- ---- pins

joining_reached : (d : Design) (e : End) (k : Option CellId)
    → option_map_or (λ c. position (λ (net : Net). has_end net.ends e) (nets_at d c)) k None ≡ position (λ (net : Net). has_end net.ends e) (option_map_or (nets_at d) k [])
joining_reached d e None = refl
joining_reached d e (Some id) = refl

joining_same : (d e : Design) (c k : CellId) → AreSameInside d e c k → (path : List ℕ) (end : End) → net_joining d c path end ≡ net_joining e k path end
joining_same d e c k same path end =
    ap (option_map (at_path path))
    (joining_reached d end (cell_along d c path)
    ∙ ap (position (λ (net : Net). has_end net.ends end)) (nets_along_same d e c k same path)
    ∙ sym (joining_reached e end (cell_along e k path)))

pub pin_same : (d e : Design) (c k : CellId) → AreSameInside d e c k → (path : List ℕ) (b : Bit) → net_at_pin d c path b ≡ net_at_pin e k path b
pin_same d e c k same path b =
    let here = joining_same d e c k same [] (own b) in
    λ i. option_map_or (λ up. joining_same d e c k same up.0 (on up.1 b) i) (above path) (here i)
