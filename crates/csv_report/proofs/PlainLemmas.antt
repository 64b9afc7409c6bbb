-- Fields that stand as they are: no byte of a path, of an identifier or of a number calls for quotes.
use Rattle.std.proofs.Common.{◌≡◌, ◌≤◌, ◌+◌, ◌∙◌, ℕ, zero, suc, Bool, true, false, List, [], ◌∷◌, ◌++◌, map, Option, Some, None, refl, sym, ap, arith, if◌then◌else◌, slice_get, append_assoc}
use Rattle.std.specs.Prelude.{◌==◌, ◌||◌, ◌/◌, ◌%◌, codes, nat_lt, option_and_then}
use Rattle.std.specs.Fmt.{decimal, digit_glyph, digits, digits_onto}
use Rattle.std.specs.List.{AllByRecursion, flat_map, list_any}
use Rattle.std.specs.Option.{option_map_or}
use Rattle.std.proofs.lemmas.Bool.{ne_eqb, or_from}
use Rattle.std.proofs.lemmas.List.Elements.{recursion_from_All}
use Rattle.std.proofs.lemmas.List.Folds.{list_any-append}
use Rattle.std.proofs.lemmas.Option.{none-some}
use Rattle.netlist_schema.specs.Design.{Design, cell_at, insts_of, nets_of}
use Rattle.netlist_schema.specs.Hierarchy.{insts_at}
use Rattle.netlist_schema.specs.Ident.{IsIdentifier, is_identifier_byte}
use Rattle.netlist_schema.specs.Typed.{IsTypedCell, IsTypedInst, IsTypedNet, IsTypedPort}
use Rattle.netlist_schema.specs.Types.{CellBody, CellId, Inst, Net, Port, TopHead}
use Rattle.netlist_schema.specs.Valid.{IsValid}
use Rattle.netlist_schema.proofs.Cells.{All-cell_at, All-slice_get}
use Rattle.flat_spec.specs.Effective.{insts_along, names_along}
use Rattle.flat_spec.specs.Paths.{cell_along, cell_below_top, nets_at}
use Rattle.flat_spec.specs.Types.{NetAt}
use Rattle.flat_lines_spec.specs.Lines.{names_text, net_text, path_text, port_text}
use Rattle.flat_csv_spec.specs.Fields.{calls_for_quotes, field_text, row, separated}
use Rattle.flat_csv_spec.specs.PinTable.{net_fields}
use Rattle.csv_report.specs.Parts.{plain_row}

abbrev pub IsPlain : List ℕ → Type 0
IsPlain field = list_any calls_for_quotes field ≡ false

-- plain fields are a row as they are
all_plain : (fields : List (List ℕ)) → AllByRecursion IsPlain fields → map field_text fields ≡ fields
all_plain [] h = refl
all_plain (field ∷ fields) h = rw (h.0, all_plain fields h.1) refl

pub in_no_quotes : (fields : List (List ℕ)) → AllByRecursion IsPlain fields → row fields ≡ plain_row fields
in_no_quotes fields h = ap (λ texts. separated texts ++ 10 ∷ []) (all_plain fields h)

-- ---- bytes

-- a byte that is none of the four
other_byte : (b : ℕ) → (b ≡ 44 → ⊥) → (b ≡ 34 → ⊥) → (b ≡ 13 → ⊥) → (b ≡ 10 → ⊥) → calls_for_quotes b ≡ false
other_byte b comma quote return feed =
    or_from ((b == 44) || (b == 34) || (b == 13)) (b == 10)
    (or_from ((b == 44) || (b == 34)) (b == 13) (or_from (b == 44) (b == 34) (ne_eqb b 44 comma) (ne_eqb b 34 quote)) (ne_eqb b 13 return)) (ne_eqb b 10 feed)

high_byte : (b : ℕ) → 48 ≤ b → calls_for_quotes b ≡ false
high_byte b high = other_byte b (λ e. omega (arith, high, e)) (λ e. omega (arith, high, e)) (λ e. omega (arith, high, e)) (λ e. omega (arith, high, e))

not_in_name : (b k : ℕ) → is_identifier_byte k ≡ false → is_identifier_byte b ≡ true → b ≡ k → ⊥
not_in_name b k free h e = let w : true ≡ false = sym h ∙ ap is_identifier_byte e ∙ free in cc w

name_byte : (b : ℕ) → is_identifier_byte b ≡ true → calls_for_quotes b ≡ false
name_byte b h = other_byte b (not_in_name b 44 refl h) (not_in_name b 34 refl h) (not_in_name b 13 refl h) (not_in_name b 10 refl h)

-- ---- texts

plain_append : (a b : List ℕ) → IsPlain a → IsPlain b → IsPlain (a ++ b)
plain_append a b first second = list_any-append calls_for_quotes a b ∙ or_from (list_any calls_for_quotes a) (list_any calls_for_quotes b) first second

plain_bytes : (bytes : List ℕ) → AllByRecursion (λ b. is_identifier_byte b ≡ true) bytes → IsPlain bytes
plain_bytes [] h = refl
plain_bytes (b ∷ bytes) h = or_from (calls_for_quotes b) (list_any calls_for_quotes bytes) (name_byte b h.0) (plain_bytes bytes h.1)

plain_name : (name : List ℕ) → IsIdentifier name → IsPlain name
plain_name name h = plain_bytes name (recursion_from_All (λ b. is_identifier_byte b ≡ true) name h.1)

plain_behind : (names : List (List ℕ)) → AllByRecursion IsIdentifier names → IsPlain (flat_map (λ n. codes "/" ++ n) names)
plain_behind [] h = refl
plain_behind (name ∷ names) h =
    plain_append (codes "/" ++ name) (flat_map (λ n. codes "/" ++ n) names) (plain_append (codes "/") name refl (plain_name name h.0)) (plain_behind names h.1)

plain_names : (names : List (List ℕ)) → AllByRecursion IsIdentifier names → IsPlain (names_text names)
plain_names [] h = refl
plain_names (name ∷ names) h = plain_behind (name ∷ names) h

-- ---- numbers

plain_glyph : (d : ℕ) → calls_for_quotes (digit_glyph false d) ≡ false
plain_glyph d = go (nat_lt d 10)
  where
    go : (low : Bool) → calls_for_quotes (if low then 48 + d else 87 + d) ≡ false
    go true = high_byte (48 + d) (omega arith)
    go false = high_byte (87 + d) (omega arith)

plain_step : (k n : ℕ) (acc : List ℕ) → IsPlain acc → ((m : ℕ) (more : List ℕ) → IsPlain more → IsPlain (digits_onto k 10 false m more)) → IsPlain (digits_onto (suc k) 10 false n acc)
plain_step k n acc h rest = go (n / 10 == 0)
  where
    one : IsPlain (digit_glyph false (n % 10) ∷ acc)
    one = or_from (calls_for_quotes (digit_glyph false (n % 10))) (list_any calls_for_quotes acc) (plain_glyph (n % 10)) h

    go : (last : Bool) → IsPlain (if last then digit_glyph false (n % 10) ∷ acc else digits_onto k 10 false (n / 10) (digit_glyph false (n % 10) ∷ acc))
    go true = one
    go false = rest (n / 10) (digit_glyph false (n % 10) ∷ acc) one

plain_digits : (k n : ℕ) (acc : List ℕ) → IsPlain acc → IsPlain (digits_onto k 10 false n acc)
plain_digits zero n acc h = h
plain_digits (suc k) n acc h = plain_step k n acc h (plain_digits k)

pub decimal_is_plain : (n : ℕ) → IsPlain (decimal n)
unfolding digits
decimal_is_plain n = plain_digits 64 n [] refl

-- ---- what stands in a valid design

typed_cell : (d : Design) (c : CellId) (body : CellBody) → IsValid d → cell_at d c ≡ Some body → IsTypedCell body
typed_cell d c body valid is = All-cell_at IsTypedCell d c body valid.typed.cells is

name_of_inst : (d : Design) (c : CellId) (i : ℕ) (inst : Inst) → IsValid d → slice_get (insts_at d c) i ≡ Some inst → IsIdentifier inst.name.id
name_of_inst d c i inst valid got = of_cell (cell_at d c) refl got
  where
    of_cell : (o : Option CellBody) → cell_at d c ≡ o → slice_get (option_map_or insts_of o []) i ≡ Some inst → IsIdentifier inst.name.id
    of_cell None is there = absurd (none-some inst there)
    of_cell (Some body) is there = (All-slice_get IsTypedInst (insts_of body) i inst (typed_cell d c body valid is).insts there).name.id

names_are : (d : Design) (c : CellId) (path : List ℕ) → IsValid d → AllByRecursion IsIdentifier (names_along d c path)
names_are d c [] valid = tt
names_are d c (i ∷ path) valid = of_step (slice_get (insts_at d c) i) refl (λ e. names_are d e path valid)
  where
    of_step : (o : Option Inst) → slice_get (insts_at d c) i ≡ o → ((e : CellId) → AllByRecursion IsIdentifier (names_along d e path))
        → AllByRecursion IsIdentifier (map (λ (v : Inst). v.name.id) (option_map_or (λ (v : Inst). v ∷ insts_along d v.of path) o []))
    of_step None is below = tt
    of_step (Some inst) is below = (name_of_inst d c i inst valid is, below inst.of)

pub path_is_plain : (d : Design) (path : List ℕ) → IsValid d → IsPlain (path_text d path)
path_is_plain d path valid = of_top d.top
  where
    of_top : (o : Option TopHead) → IsPlain (names_text (option_map_or (λ (top : TopHead). names_along d top.cell path) o []))
    of_top None = refl
    of_top (Some top) = plain_names (names_along d top.cell path) (names_are d top.cell path valid)

port_of : (d : Design) (c : Option CellId) (port : ℕ) → IsValid d
    → IsPlain (option_map_or (λ (p : Port). p.name.id) (option_and_then (λ (body : CellBody). slice_get body.ports port) (option_and_then (cell_at d) c)) [])
port_of d None port valid = refl
port_of d (Some c) port valid = of_cell (cell_at d c) refl
  where
    of_port : (body : CellBody) → cell_at d c ≡ Some body → (o : Option Port) → slice_get body.ports port ≡ o → IsPlain (option_map_or (λ (p : Port). p.name.id) o [])
    of_port body is None there = refl
    of_port body is (Some p) there = plain_name p.name.id (All-slice_get IsTypedPort body.ports port p (typed_cell d c body valid is).ports there).name.id

    of_cell : (o : Option CellBody) → cell_at d c ≡ o → IsPlain (option_map_or (λ (p : Port). p.name.id) (option_and_then (λ (body : CellBody). slice_get body.ports port) o) [])
    of_cell None is = refl
    of_cell (Some body) is = of_port body is (slice_get body.ports port) refl

pub port_is_plain : (d : Design) (path : List ℕ) (port : ℕ) → IsValid d → IsPlain (port_text d path port)
port_is_plain d path port valid = port_of d (cell_below_top d path) port valid

net_of_cell : (d : Design) (c : Option CellId) (net : ℕ) → IsValid d
    → IsPlain (option_map_or (λ (n : Net). n.name.id) (option_and_then (λ (id : CellId). slice_get (nets_at d id) net) c) [])
net_of_cell d None net valid = refl
net_of_cell d (Some c) net valid = of_net (slice_get (nets_at d c) net) refl
  where
    of_cell : (n : Net) (o : Option CellBody) → cell_at d c ≡ o → slice_get (option_map_or nets_of o []) net ≡ Some n → IsIdentifier n.name.id
    of_cell n None is there = absurd (none-some n there)
    of_cell n (Some body) is there = (All-slice_get IsTypedNet (nets_of body) net n (typed_cell d c body valid is).nets there).name.id

    of_net : (o : Option Net) → slice_get (nets_at d c) net ≡ o → IsPlain (option_map_or (λ (n : Net). n.name.id) o [])
    of_net None there = refl
    of_net (Some n) there = plain_name n.name.id (of_cell n (cell_at d c) refl there)

net_at_is_plain : (d : Design) (x : NetAt) → IsValid d → IsPlain (net_text d x)
net_at_is_plain d x valid = of_top d.top
  where
    of_top : (o : Option TopHead) → IsPlain (option_map_or (λ (n : Net). n.name.id)
        (option_and_then (λ (top : TopHead). option_and_then (λ (c : CellId). slice_get (nets_at d c) x.net) (cell_along d top.cell x.path)) o) [])
    of_top None = refl
    of_top (Some top) = net_of_cell d (cell_along d top.cell x.path) x.net valid

pub net_is_plain : (d : Design) (first : Option NetAt) → IsValid d → AllByRecursion IsPlain (net_fields d first)
net_is_plain d None valid = (refl, (refl, tt))
net_is_plain d (Some net) valid = (path_is_plain d net.path valid, (net_at_is_plain d net valid, tt))

-- ---- pieces

-- fields with a comma behind each, and others behind them
pub ended_fields : (fields : List (List ℕ)) (last : List ℕ) → flat_map (λ field. field ++ 44 ∷ []) fields ++ (last ++ 10 ∷ []) ≡ plain_row (fields ++ last ∷ [])
ended_fields [] last = refl
ended_fields (field ∷ []) last = append_assoc (field ++ 44 ∷ []) [] (last ++ 10 ∷ []) ∙ (append_assoc field (44 ∷ []) (last ++ 10 ∷ []) ∙ sym (append_assoc field (44 ∷ last) (10 ∷ [])))
ended_fields (field ∷ next ∷ fields) last =
    append_assoc (field ++ 44 ∷ []) (flat_map (λ f. f ++ 44 ∷ []) (next ∷ fields)) (last ++ 10 ∷ [])
    ∙ (append_assoc field (44 ∷ []) (flat_map (λ f. f ++ 44 ∷ []) (next ∷ fields) ++ (last ++ 10 ∷ []))
    ∙ (ap (λ text. field ++ 44 ∷ text) (ended_fields (next ∷ fields) last)
    ∙ sym (append_assoc field (44 ∷ separated ((next ∷ fields) ++ last ∷ [])) (10 ∷ []))))
