-- The ports of an interface as they are read, and their limits.
use Rattle.std.proofs.Common.{◌≡◌, ◌≤◌, ◌<◌, ◌+◌, ℕ, List, [], ◌∷◌, ◌++◌, map, length, refl, sym, ap, ◌∙◌, subst, ◌⊎◌, inl, inr, Some, arith, zero-add, length-append}
use Rattle.std.specs.Prelude.{sum_by, slice_get}
use Rattle.std.specs.List.{AllZip, fold}
use Rattle.std.proofs.lemmas.List.Elements.{All-from_recursion}
use Rattle.std.proofs.lemmas.List.Sums.{sum_by-append}
use Rattle.edif_spelling_spec.specs.Tree.{Placed, bare}
use Rattle.netlist_schema.specs.Design.{port_width}
use Rattle.netlist_schema.specs.Names.{HasDistinctKeys}
use Rattle.netlist_schema.specs.Typed.{IsTypedPort}
use Rattle.netlist_schema.specs.Types.{Port}
use Rattle.edif_spec.specs.Faults.{Beyond, BeyondBits, those_of, place_of, declared_width}
use Rattle.edif_spec.specs.Means.{MeansPort}
use Rattle.edif_spec.specs.declared.fault.MeaningFault.{MeaningFault}
use Rattle.edif_spec.specs.declared.fault.MeaningFault.TheVariants.{OverLimit}
use Rattle.edif_spec.specs.declared.keyword.Keyword.TheVariants as keywords
use Rattle.edif_spec.proofs.CellPlaces.{get_after}
use Rattle.edif_spec.proofs.FaultForms.{each_with}
use Rattle.edif_spec.proofs.FaultPlaces.{Widths, bits_later}
use Rattle.edif_spec.proofs.FaultsApart.{port_declares}
use Rattle.edif_spec.proofs.KnownRows.{each_count, first_all, second_all}
use Rattle.edif_parts.specs.Interfaces.{PassesLimit, ReadPorts}
use Rattle.edif_parts.specs.declared.interface.Ports.{Ports}
use Rattle.edif_parts.proofs.NamedForms.{NamedForms, forms_each, forms_distinct}

-- what holds of each port
abbrev pub IsFinePort : Port → Type 0
IsFinePort p = IsTypedPort p × HasDistinctKeys p.properties

abbrev pub port_id : Port → List ℕ
port_id p = p.name.id

-- the ports so far
abbrev pub PortForms : List Placed → List Port → List (List ℕ × ℕ) → Type 0
PortForms ts ps ns = NamedForms MeansPort IsFinePort port_id keywords.Port ts ps ns

-- their number
ports_count : (ts : List Placed) (ps : List Port) (ns : List (List ℕ × ℕ)) → PortForms ts ps ns → length (those_of keywords.Port ts) ≡ length ps
ports_count ts ps ns f = each_count MeansPort (those_of keywords.Port ts) (map bare (those_of keywords.Port ts)) ps refl f.means

-- their bits
widths_of : (n : ℕ) (ts : List Placed) (ps : List Port) → AllZip (λ t p. declared_width t ≡ port_width p) ts ps → Widths n ts (fold (λ s p. s + port_width p) n ps)
widths_of n [] [] h = refl
widths_of n [] (p ∷ ps) h = absurd h
widths_of n (t ∷ ts) [] h = absurd h
widths_of n (t ∷ ts) (p ∷ ps) h =
    let P : ℕ → Type 0 = λ v. Widths (n + v) ts (fold (λ s p. s + port_width p) (n + port_width p) ps) in
    subst P (sym h.0) (widths_of (n + port_width p) ts ps h.1)

ports_widths : (ts : List Placed) (ps : List Port) (ns : List (List ℕ × ℕ)) → PortForms ts ps ns → Widths 0 (those_of keywords.Port ts) (sum_by port_width ps)
ports_widths ts ps ns f = widths_of 0 (those_of keywords.Port ts) ps (each_with MeansPort (λ u p. declared_width u ≡ port_width p) port_declares (those_of keywords.Port ts) (map bare (those_of keywords.Port ts)) ps refl f.means)

pub bits_push : (ps : List Port) (p : Port) → sum_by port_width (ps ++ p ∷ []) ≡ sum_by port_width ps + port_width p
bits_push ps p = sum_by-append port_width ps (p ∷ []) ∙ ap (λ v. sum_by port_width ps + v) (zero-add (port_width p))

-- a further port beyond a limit
pub passes : (ts before rest : List Placed) (t : Placed) (ps : List Port) (ns : List (List ℕ × ℕ)) (p : Port) (n b place : ℕ) (f : MeaningFault)
    → n ≡ length ps → b ≡ sum_by port_width ps + port_width p → those_of keywords.Port ts ≡ those_of keywords.Port before ++ t ∷ those_of keywords.Port rest → MeansPort (bare t) p → place ≡ place_of t → PortForms before ps ns → length ps ≤ 65536 → sum_by port_width ps ≤ 1048576
    → PassesLimit n b place f → Beyond 65536 (those_of keywords.Port ts) f ⊎ BeyondBits 1048576 0 (those_of keywords.Port ts) f
passes ts before rest t ps ns p n b place f u v h m e r l y (inl x) =
    let us : List Placed = those_of keywords.Port before in
    let others : List Placed = those_of keywords.Port rest in
    let z : length us ≡ 65536 = omega (arith, ports_count before ps ns r, x.0, l, u) in
    let P : List Placed → Type 0 = λ v. slice_get v 65536 ≡ Some t in
    let Q : ℕ → Type 0 = λ v. slice_get (us ++ t ∷ others) v ≡ Some t in
    inl (t, subst P (sym h) (subst Q z (get_after us t others)), x.1 ∙ ap (OverLimit 65536) e)
passes ts before rest t ps ns p n b place f u v h m e r l y (inr x) =
    let us : List Placed = those_of keywords.Port before in
    let others : List Placed = those_of keywords.Port rest in
    let P : List Placed → Type 0 = λ v. BeyondBits 1048576 0 v f in
    let w : declared_width t ≡ port_width p = port_declares t p m in
    let k : 1048576 < sum_by port_width ps + declared_width t = (let j = x.0 in omega arith) in
    inr (subst P (sym h) (bits_later 1048576 0 (sum_by port_width ps) us (t ∷ others) f (ports_widths before ps ns r) (inl (y, k, x.1 ∙ ap (OverLimit 1048576) e))))

-- a further port within the limits
pub within : (ps qs : List Port) (p : Port) (n b x : ℕ) → qs ≡ ps ++ p ∷ [] → n ≡ length ps → n < 65536 → b ≡ sum_by port_width ps → x ≡ port_width p → (length qs ≤ 65536) × (b + x ≡ sum_by port_width qs)
within ps qs p n b x e l m s w = (
  omega (arith, ap length e, length-append ps (p ∷ []), l, m),
  ap (λ v. v + x) s ∙ (ap (λ v. sum_by port_width ps + v) w ∙ sym (ap (sum_by port_width) e ∙ bits_push ps p)),
)

-- all ports
pub ports_read : (ts : List Placed) (p : Ports) → PortForms ts p.ports p.names → length p.ports ≤ 65536 → sum_by port_width p.ports ≤ 1048576 → ReadPorts ts p
ports_read ts p f l b = record {
  ports = forms_each MeansPort IsFinePort port_id keywords.Port ts p.ports p.names f;
  typed = All-from_recursion IsTypedPort p.ports (first_all IsTypedPort (λ (p : Port). HasDistinctKeys p.properties) p.ports f.valid);
  port_keys = All-from_recursion (λ (p : Port). HasDistinctKeys p.properties) p.ports (second_all IsTypedPort (λ (p : Port). HasDistinctKeys p.properties) p.ports f.valid);
  distinct = forms_distinct MeansPort IsFinePort port_id keywords.Port ts p.ports p.names f;
  count = l;
  bits = b;
  names = f.named;
}
