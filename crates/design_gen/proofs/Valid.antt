-- The generated design is valid.
use Rattle.std.proofs.Common.{◌≡◌, ℕ, zero, suc, ◌+◌, ◌*◌, ◌<◌, ◌≤◌, ◌^◌, true, cond, List, [], ◌∷◌, map, length, refl, sym, ap, subst, ◌∙◌, arith, Option, Some, None, get_or, inl, inr}
use Rattle.std.specs.Prelude.{nat_eq, slice_get, IsSomeAnd, codes}
use Rattle.std.specs.List.{All, AllByRecursion, range_with_len, flat_map}
use Rattle.std.proofs.lemmas.Bool.{cases_eq, eq-eqb, ne_eqb, cond-true, cond-false}
use Rattle.std.proofs.lemmas.List.{length-map}
use Rattle.std.proofs.lemmas.List.Elements.{All-from_recursion}
use Rattle.std.proofs.lemmas.List.FromFn.{length-map-range_with_len, length-range_with_len}
use Rattle.netlist_schema.specs.Design.{cell_at, ends_of, insts_of, nets_of}
use Rattle.netlist_schema.specs.Hierarchy.{IsCell, NoCellIsBelowItself}
use Rattle.netlist_schema.specs.Ident.{is_identifier_byte}
use Rattle.netlist_schema.specs.Names.{AreDistinct, HasDistinctKeys}
use Rattle.netlist_schema.specs.Typed.{IsTyped, IsTypedCell, IsTypedInst, IsTypedName, IsTypedNet, IsTypedPort}
use Rattle.netlist_schema.specs.Types.{CellBody, CellId, Contents, End, Inst, Lib, Net, Port}
use Rattle.netlist_schema.specs.Valid.{HasBit, IsEndOf, IsValid, IsValidCell}
use Rattle.netlist_schema.proofs.Cells.{cell_of_inst, ranked_has_no_cycle}
use Rattle.flat_spec.specs.ExampleParts.{named, own_port, on_port}
use Rattle.gen_spec.specs.Generated.{cell, generated, inverter_at, inverters, left_end, right_end, net_at, numbered, pair, ports, row, row_nets}
use Rattle.design_gen.specs.Letters.{are_letters}
use Rattle.design_gen.proofs.Numbers.{letters_are_identifier, numbered_is_identifier, numbered_injective, all_in_row, apart_in_row, map_in_row, distinct_by, row_is_distinct, passes_by}

-- ---- names and ports

typed : (bs : List ℕ) → are_letters bs ≡ true → IsTypedName (named bs)
typed bs h = record { id = letters_are_identifier bs h; shown = tt }

typed_number : (letter k : ℕ) → is_identifier_byte letter ≡ true → k < 2 ^ 64 → IsTypedName (named (numbered letter k))
typed_number letter k passes small = record { id = numbered_is_identifier letter k passes small; shown = tt }

none : {X : Type 0} (P : X → Type 0) → All P []
none P = λ k d within. absurd (omega arith)

no_pairs : {X : Type 0} → AreDistinct {X = X} []
no_pairs = λ i j d below within. absurd (omega arith)

ports_typed : All IsTypedPort ports
ports_typed = All-from_recursion IsTypedPort ports (record { name = typed (codes "A") refl; array = tt; designator = tt; properties = none _ }, (record { name = typed (codes "Y") refl; array = tt; designator = tt; properties = none _ }, tt))

abbrev first_byte : List ℕ → ℕ
first_byte bs = get_or bs 0 0

abbrev second_byte : List ℕ → ℕ
second_byte bs = get_or bs 1 0

port_names : AreDistinct (map (λ (p : Port). p.name.id) ports)
port_names = passes_by first_byte (map (λ (p : Port). p.name.id) ports) refl

port_keys : All (λ (p : Port). HasDistinctKeys p.properties) ports
port_keys = All-from_recursion (λ (p : Port). HasDistinctKeys p.properties) ports (no_pairs, (no_pairs, tt))

-- ---- what the nets of the row join

-- the number of an end, from the input of the row on
abbrev end_code : ℕ → Option ℕ → ℕ → ℕ
end_code n None port = cond (nat_eq port 0) 0 (2 * n + 1)
end_code n (Some i) port = 2 * i + 1 + port

abbrev code : ℕ → End → ℕ
code n e = end_code n e.inst e.port

left_code : (n k : ℕ) → code n (left_end k) ≡ 2 * k
left_code n zero = refl
left_code n (suc k) = omega arith

right_code : (n k : ℕ) → k ≤ n → code n (right_end n k) ≡ 2 * k + 1
right_code n k within = elim (cases_eq k n) [
  | inl last ↦
      let is : right_end n k ≡ own_port 1 = cond-true _ _ _ (eq-eqb k n last) in
      ap (code n) is ∙ omega (arith, last)
  | inr other ↦
      let is : right_end n k ≡ on_port k 0 = cond-false _ _ _ (ne_eqb k n other) in
      ap (code n) is ∙ omega arith
]

ends_in_row : (n a m : ℕ) → a + m ≡ n + 1 → map (code n) (flat_map (λ (net : Net). net.ends) (map (net_at n) (range_with_len a m))) ≡ range_with_len (2 * a) (2 * m)
ends_in_row n a zero all = refl
ends_in_row n a (suc m) all =
    let left = left_code n a in
    let right = right_code n a (omega (arith, all)) in
    let rest = ends_in_row n (a + 1) m (omega (arith, all)) in
    let next : 2 * (a + 1) ≡ 2 * a + 1 + 1 = omega arith in
    let long : suc (suc (2 * m)) ≡ 2 * suc m = omega arith in
    ap (λ (x : ℕ). x ∷ code n (right_end n a) ∷ map (code n) (flat_map (λ (net : Net). net.ends) (map (net_at n) (range_with_len (a + 1) m)))) left
    ∙ ap (λ (x : ℕ). 2 * a ∷ x ∷ map (code n) (flat_map (λ (net : Net). net.ends) (map (net_at n) (range_with_len (a + 1) m)))) right
    ∙ ap (λ (xs : List ℕ). 2 * a ∷ (2 * a + 1) ∷ xs) (rest ∙ ap (λ x. range_with_len x (2 * m)) next)
    ∙ ap (range_with_len (2 * a)) long

row_ends : (n : ℕ) → map (code n) (ends_of (row n)) ≡ range_with_len 0 (2 * (n + 1))
row_ends n = ends_in_row n 0 (n + 1) (omega arith)

ends_apart : (n : ℕ) → AreDistinct (ends_of (row n))
ends_apart n = distinct_by (code n) (ends_of (row n)) (subst AreDistinct (sym (row_ends n)) (row_is_distinct 0 (2 * (n + 1))))

ends_count : (n : ℕ) → length (ends_of (row n)) ≡ 2 * (n + 1)
ends_count n = sym (length-map (ends_of (row n)) (code n)) ∙ ap length (row_ends n) ∙ length-range_with_len 0 (2 * (n + 1))

found_in_row : {X : Type 0} (f : ℕ → X) (a n k : ℕ) → k < n → slice_get (map f (range_with_len a n)) k ≡ Some (f (a + k))
found_in_row f a zero k below = absurd (omega (arith, below))
found_in_row f a (suc n) zero below = let same : a ≡ a + 0 = omega arith in ap (λ x. Some (f x)) same
found_in_row f a (suc n) (suc k) below =
    let same : a + 1 + k ≡ a + suc k = omega arith in
    found_in_row f (a + 1) n k (omega (arith, below)) ∙ ap (λ x. Some (f x)) same

on_inverter : (n k port : ℕ) → k < n → HasBit ports port 0 → IsEndOf (generated n) (row n) (on_port k port)
on_inverter n k port below has =
    subst (λ (o : Option Inst). IsSomeAnd o (λ inst. IsSomeAnd (cell_at (generated n) inst.of) (λ (of : CellBody). HasBit of.ports port 0)))
    (sym (found_in_row inverter_at 0 n k below)) has

left_there : (n k : ℕ) → k ≤ n → IsEndOf (generated n) (row n) (left_end k)
left_there n zero within = omega arith
left_there n (suc k) within = on_inverter n k 1 (omega (arith, within)) (omega arith)

right_there : (n k : ℕ) → k ≤ n → IsEndOf (generated n) (row n) (right_end n k)
right_there n k within = elim (cases_eq k n) [
  | inl last ↦
      let own : IsEndOf (generated n) (row n) (own_port 1) = omega arith in
      subst (IsEndOf (generated n) (row n)) (sym (cond-true _ _ _ (eq-eqb k n last))) own
  | inr other ↦
      subst (IsEndOf (generated n) (row n)) (sym (cond-false _ _ _ (ne_eqb k n other))) (on_inverter n k 0 (omega (arith, within, other)) (omega arith))
]

ends_there : (n a m : ℕ) → a + m ≡ n + 1 → AllByRecursion (IsEndOf (generated n) (row n)) (flat_map (λ (net : Net). net.ends) (map (net_at n) (range_with_len a m)))
ends_there n a zero all = tt
ends_there n a (suc m) all =
    let within : a ≤ n = omega (arith, all) in
    (left_there n a within, (right_there n a within, ends_there n (a + 1) m (omega (arith, all))))

-- ---- the cells

inverters_typed : (n : ℕ) → n ≤ 4096 → All IsTypedInst (inverters n)
inverters_typed n few = all_in_row IsTypedInst inverter_at n (λ k below. record { name = typed_number 105 k refl (omega (arith, below, few)); designator = tt; properties = none _ })

nets_typed : (n : ℕ) → n ≤ 4096 → All IsTypedNet (row_nets n)
nets_typed n few = all_in_row IsTypedNet (net_at n) (n + 1) (λ k below. record { name = typed_number 110 k refl (omega (arith, below, few)); properties = none _ })

numbers_apart : (letter n : ℕ) → n ≤ 4097 → AreDistinct (map (numbered letter) (range_with_len 0 n))
numbers_apart letter n few = apart_in_row (numbered letter) n (λ i j below within same.
    let equal = numbered_injective letter i j (omega (arith, below, within, few)) (omega (arith, within, few)) same in
    absurd (omega (arith, below, equal)))

inverter_names : (n : ℕ) → n ≤ 4096 → AreDistinct (map (λ (i : Inst). i.name.id) (inverters n))
inverter_names n few = subst AreDistinct (sym (map_in_row (λ (i : Inst). i.name.id) inverter_at 0 n)) (numbers_apart 105 n (omega (arith, few)))

net_names : (n : ℕ) → n ≤ 4096 → AreDistinct (map (λ (net : Net). net.name.id) (row_nets n))
net_names n few = subst AreDistinct (sym (map_in_row (λ (net : Net). net.name.id) (net_at n) 0 (n + 1))) (numbers_apart 110 (n + 1) (omega (arith, few)))

typed_cell : (bs : List ℕ) (contents : Option Contents) → are_letters bs ≡ true → All IsTypedInst (insts_of (cell bs contents)) → All IsTypedNet (nets_of (cell bs contents)) → IsTypedCell (cell bs contents)
typed_cell bs contents h insts nets = record {
  name = typed bs h;
  properties = none _;
  view = typed (codes "netlist") refl;
  view_properties = none _;
  interface_properties = none _;
  ports = ports_typed;
  insts = insts;
  nets = nets;
}

inverter_valid : (n : ℕ) → IsValidCell (generated n) (record { lib = record { 0 = 0 }; slot = 0 }) (cell (codes "INV") None)
inverter_valid n = record {
  limits = record { ports = omega arith; bits = omega arith; insts = omega arith; nets = omega arith; ends = omega arith };
  names = record {
    ports = port_names;
    insts = no_pairs;
    nets = no_pairs;
    properties = no_pairs;
    view_properties = no_pairs;
    interface_properties = no_pairs;
    port_properties = port_keys;
    inst_properties = none _;
    net_properties = none _;
  };
  placed = none _;
  not_later = none _;
  ends = none _;
  joined_once = no_pairs;
}

row_valid : (n : ℕ) → n ≤ 4096 → IsValidCell (generated n) (record { lib = record { 0 = 1 }; slot = 0 }) (row n)
row_valid n few =
    let insts = length-map-range_with_len inverter_at 0 n in
    let nets = length-map-range_with_len (net_at n) 0 (n + 1) in
    let ends = ends_count n in
    record {
      limits = record { ports = omega arith; bits = omega arith; insts = omega (arith, insts, few); nets = omega (arith, nets, few); ends = omega (arith, ends, few) };
      names = record {
        ports = port_names;
        insts = inverter_names n few;
        nets = net_names n few;
        properties = no_pairs;
        view_properties = no_pairs;
        interface_properties = no_pairs;
        port_properties = port_keys;
        inst_properties = all_in_row (λ (i : Inst). HasDistinctKeys i.properties) inverter_at n (λ k below. no_pairs);
        net_properties = all_in_row (λ (net : Net). HasDistinctKeys net.properties) (net_at n) (n + 1) (λ k below. no_pairs);
      };
      placed = all_in_row (λ (i : Inst). IsCell (generated n) i.of) inverter_at n (λ k below. refl);
      not_later = all_in_row (λ (i : Inst). i.of.lib.0 ≤ 1) inverter_at n (λ k below. omega arith);
      ends = All-from_recursion (IsEndOf (generated n) (row n)) (ends_of (row n)) (ends_there n 0 (n + 1) (omega arith));
      joined_once = ends_apart n;
    }

abbrev inst_code : Option ℕ → ℕ
inst_code None = 0
inst_code (Some i) = suc i

abbrev pair_code : End → ℕ
pair_code e = 2 * inst_code e.inst + e.port

pair_valid : (n : ℕ) → IsValidCell (generated n) (record { lib = record { 0 = 1 }; slot = 1 }) pair
pair_valid n = record {
  limits = record { ports = omega arith; bits = omega arith; insts = omega arith; nets = omega arith; ends = omega arith };
  names = record {
    ports = port_names;
    insts = passes_by second_byte (map (λ (i : Inst). i.name.id) (insts_of pair)) refl;
    nets = passes_by first_byte (map (λ (net : Net). net.name.id) (nets_of pair)) refl;
    properties = no_pairs;
    view_properties = no_pairs;
    interface_properties = no_pairs;
    port_properties = port_keys;
    inst_properties = All-from_recursion (λ (i : Inst). HasDistinctKeys i.properties) (insts_of pair) (no_pairs, (no_pairs, tt));
    net_properties = All-from_recursion (λ (net : Net). HasDistinctKeys net.properties) (nets_of pair) (no_pairs, (no_pairs, (no_pairs, tt)));
  };
  placed = All-from_recursion (λ (i : Inst). IsCell (generated n) i.of) (insts_of pair) (refl, (refl, tt));
  not_later = All-from_recursion (λ (i : Inst). i.of.lib.0 ≤ 1) (insts_of pair) (omega arith, (omega arith, tt));
  ends = All-from_recursion (IsEndOf (generated n) pair) (ends_of pair) (omega arith, (omega arith, (omega arith, (omega arith, (omega arith, (omega arith, tt))))));
  joined_once = passes_by pair_code (ends_of pair) refl;
}

-- ---- the design

-- what holds of each of the three cells holds of the cell at an id
by_cell : (n : ℕ) (P : CellId → CellBody → Type 0) → P (record { lib = record { 0 = 0 }; slot = 0 }) (cell (codes "INV") None) → P (record { lib = record { 0 = 1 }; slot = 0 }) (row n) → P (record { lib = record { 0 = 1 }; slot = 1 }) pair
    → (id : CellId) (body : CellBody) → cell_at (generated n) id ≡ Some body → P id body
by_cell n P inverter first second id body = at id.lib.0 id.slot body
  where
    at : (own slot : ℕ) (body : CellBody) → cell_at (generated n) (record { lib = record { 0 = own }; slot = slot }) ≡ Some body → P (record { lib = record { 0 = own }; slot = slot }) body
    at zero zero body e = let same : cell (codes "INV") None ≡ body = cc e in subst (P (record { lib = record { 0 = 0 }; slot = 0 })) same inverter
    at zero (suc slot) body e = absurd (cc e)
    at (suc zero) zero body e = let same : row n ≡ body = cc e in subst (P (record { lib = record { 0 = 1 }; slot = 0 })) same first
    at (suc zero) (suc zero) body e = let same : pair ≡ body = cc e in subst (P (record { lib = record { 0 = 1 }; slot = 1 })) same second
    at (suc zero) (suc (suc slot)) body e = absurd (cc e)
    at (suc (suc own)) slot body e = absurd (cc e)

abbrev rank : CellId → ℕ
rank id = id.lib.0 + id.slot

abbrev Lower : CellId → CellBody → Type 0
Lower id body = All (λ (inst : Inst). rank inst.of < rank id) (insts_of body)

all_lower : (n : ℕ) (id : CellId) (body : CellBody) → cell_at (generated n) id ≡ Some body → Lower id body
all_lower n = by_cell n Lower (none _) (all_in_row (λ (inst : Inst). rank inst.of < 1) inverter_at n (λ k below. omega arith)) (All-from_recursion (λ (inst : Inst). rank inst.of < 2) (insts_of pair) (omega arith, (omega arith, tt)))

no_cycle : (n : ℕ) → NoCellIsBelowItself (generated n)
no_cycle n = ranked_has_no_cycle (generated n) rank (λ id inst has.
    let c = cell_of_inst (generated n) id inst has in
    subst (λ (x : Inst). rank x.of < rank id) c.2.2 (all_lower n id c.0 c.1 c.2.0 inst c.2.1))

typed_parts : (n : ℕ) → n ≤ 4096 → IsTyped (generated n)
typed_parts n few = record {
  title = typed (codes "gen") refl;
  libs = All-from_recursion (λ (l : Lib). IsTypedName l.head.name) (generated n).libs (typed (codes "prims") refl, (typed (codes "work") refl, tt));
  cells = All-from_recursion (λ (l : Lib). All IsTypedCell l.cells) (generated n).libs (
    All-from_recursion IsTypedCell (cell (codes "INV") None ∷ []) (typed_cell (codes "INV") None refl (none _) (none _), tt),
    (
      All-from_recursion IsTypedCell (row n ∷ pair ∷ []) (
        typed_cell (codes "row") _ refl (inverters_typed n few) (nets_typed n few),
        (
          typed_cell (codes "top") _ refl
              (All-from_recursion IsTypedInst (insts_of pair) (record { name = typed (codes "r0") refl; designator = tt; properties = none _ }, (record { name = typed (codes "r1") refl; designator = tt; properties = none _ }, tt)))
              (All-from_recursion IsTypedNet (nets_of pair) (record { name = typed (codes "a") refl; properties = none _ }, (record { name = typed (codes "m") refl; properties = none _ }, (record { name = typed (codes "y") refl; properties = none _ }, tt)))),
          tt,
        ),
      ),
      tt,
    ),
  );
  top = (typed (codes "gen") refl, none _);
  notes = none _;
}

pub generated_is_valid : (n : ℕ) → n ≤ 4096 → IsValid (generated n)
generated_is_valid n few = record {
  typed = typed_parts n few;
  limits = record { libs = omega arith; cells = All-from_recursion (λ (l : Lib). length l.cells ≤ 65536) (generated n).libs (omega arith, (omega arith, tt)); notes = omega arith };
  names = record {
    libs = passes_by first_byte (map (λ (l : Lib). l.head.name.id) (generated n).libs) refl;
    cells = All-from_recursion (λ (l : Lib). AreDistinct (map (λ (c : CellBody). c.name.id) l.cells)) (generated n).libs (passes_by first_byte (codes "INV" ∷ []) refl, (passes_by first_byte (codes "row" ∷ codes "top" ∷ []) refl, tt));
  };
  cells = by_cell n (IsValidCell (generated n)) (inverter_valid n) (row_valid n few) (pair_valid n);
  no_cycle = no_cycle n;
  top = (refl, no_pairs);
  notes = none _;
  notes_need_top = tt;
  notes_differ = no_pairs;
}
