-- Adding a cell keeps a design valid.
use Rattle.std.proofs.Common.{◌≡◌, ◌≢◌, ℕ, ◌<◌, ◌≤◌, Bool, true, false, arith, List, [], ◌∷◌, map, length, Option, Some, None, refl, sym, ap, subst, ◌∙◌}
use Rattle.std.proofs.lemmas.List.{length-map}
use Rattle.std.proofs.lemmas.List.Elements.{recursion_from_All, All-from_recursion}
use Rattle.std.specs.List.{All, AllByRecursion, list_any}
use Rattle.std.specs.Option.{option_map, option_map_or, option_to_list}
use Rattle.std.specs.Prelude.{sum_by, codes, flat_map}
use Rattle.std.proofs.lemmas.Bool.{or_parts}
use Rattle.netlist_schema.specs.Design.{Design, insts_of, nets_of, ends_of, port_width}
use Rattle.netlist_schema.specs.Hierarchy.{IsCell}
use Rattle.netlist_schema.specs.Ident.{IsIdentifier, is_identifier_byte}
use Rattle.netlist_schema.specs.Names.{AreDistinct, HasDistinctKeys, cell_names}
use Rattle.netlist_schema.specs.Typed.{IsTypedInst, IsTypedNet, IsTypedPort}
use Rattle.netlist_schema.specs.Types.{CellBody, End, Inst, Lib, LibId, Net, Port}
use Rattle.netlist_schema.specs.Valid.{IsValid, IsEndOf}
use Rattle.edit_rules_spec.specs.Edit.{fresh, edited, with_more_cell}
use Rattle.edit_rules_spec.specs.Find.{is_same}
use Rattle.edit_spec.specs.AddCell.{names_in, new_port, new_cell, has_twice}
use Rattle.edit_spec.specs.Typed.{IsTypedPortDecl}
use Rattle.edit_spec.specs.declared.ops.PortDecl.{PortDecl}
use Rattle.edit_rules_spec.proofs.Lists.{Apart, distinct_of}
use Rattle.edit_rules_spec.proofs.MoreCell.{IsGoodCell, more_cell_valid}
use Rattle.edit_rules_spec.proofs.Refusals.{is_same-refl}

pub nothing_inside : (name : List ℕ) (leaf : Bool) (ports : List PortDecl) → insts_of (new_cell name leaf ports) ≡ []
nothing_inside name true ports = refl
nothing_inside name false ports = refl

-- the new cell of the operation
vacuous : {X : Type 0} (P : X → Type 0) → All P []
vacuous P = λ k x h. absurd (omega arith)

distinct_none : {X : Type 0} → AreDistinct {X = X} []
distinct_none {X = X} = λ i j x h k. absurd (omega arith)

each_port_typed : (ports : List PortDecl) → AllByRecursion IsTypedPortDecl ports → AllByRecursion IsTypedPort (map new_port ports)
each_port_typed [] all = tt
each_port_typed (port ∷ ports) all =
    (record { name = record { id = all.0.name; shown = tt }; array = all.0.array; designator = tt; properties = λ k x h. absurd (omega arith) }, each_port_typed ports all.1)

port_names : (ports : List PortDecl) → map (λ (port : Port). port.name.id) (map new_port ports) ≡ map (λ (port : PortDecl). port.name) ports
port_names [] = refl
port_names (port ∷ ports) = ap (λ (names : List (List ℕ)). port.name ∷ names) (port_names ports)

none_same : (name : List ℕ) (names : List (List ℕ)) → list_any (is_same name) names ≡ false → AllByRecursion (λ other. name ≢ other) names
none_same name [] none = tt
none_same name (other ∷ names) none =
    let both = or_parts (is_same name other) (list_any (is_same name) names) none in
    (λ same. let there : is_same name other ≡ true = is_same-refl name other same in let never : true ≡ false = sym there ∙ both.0 in cc, none_same name names both.1)

once_each : (names : List (List ℕ)) → has_twice names ≡ false → Apart names
once_each [] none = tt
once_each (name ∷ names) none =
    let both = or_parts (list_any (is_same name) names) (has_twice names) none in
    (none_same name names both.0, once_each names both.1)

not_taken : (name : List ℕ) (names : List (List ℕ)) → list_any (λ other. is_same other name) names ≡ false → AllByRecursion (λ other. other ≢ name) names
not_taken name [] none = tt
not_taken name (other ∷ names) none =
    let both = or_parts (is_same other name) (list_any (λ o. is_same o name) names) none in
    (λ same. let there : is_same other name ≡ true = is_same-refl other name same in let never : true ≡ false = sym there ∙ both.0 in cc, not_taken name names both.1)

no_nets : (name : List ℕ) (leaf : Bool) (ports : List PortDecl) → nets_of (new_cell name leaf ports) ≡ []
no_nets name true ports = refl
no_nets name false ports = refl

each_plain : (ports : List PortDecl) → AllByRecursion (λ (port : Port). HasDistinctKeys port.properties) (map new_port ports)
each_plain [] = tt
each_plain (port ∷ ports) = ((λ i j x h k. absurd (omega arith)), each_plain ports)

netlist_is_identifier : IsIdentifier (codes "netlist")
netlist_is_identifier = (omega arith, All-from_recursion (λ b. is_identifier_byte b ≡ true) (codes "netlist") (refl, (refl, (refl, (refl, (refl, (refl, (refl, tt))))))))

pub new_valid : (d : Design) (lib : LibId) (name : List ℕ) (leaf : Bool) (ports : List PortDecl) → IsIdentifier name → All IsTypedPortDecl ports → has_twice (map (λ port. port.name) ports) ≡ false → length ports ≤ 65536 → sum_by port_width (map new_port ports) ≤ 1048576 → length (names_in d (Some lib)) < 65536 → list_any (λ other. is_same other name) (names_in d (Some lib)) ≡ false → IsGoodCell d lib (new_cell name leaf ports)
new_valid d lib name leaf ports identifier typed once few bits room free =
    let body = new_cell name leaf ports in
    let none : insts_of body ≡ [] = nothing_inside name leaf ports in
    let nets : nets_of body ≡ [] = no_nets name leaf ports in
    let ends : ends_of body ≡ [] = ap (λ (ns : List Net). flat_map (λ (net : Net). net.ends) ns) nets in
    let count : length (map new_port ports) ≡ length ports = length-map ports new_port in
    record {
      typed = record {
        name = record { id = identifier; shown = tt };
        properties = vacuous _;
        view = record { id = netlist_is_identifier; shown = tt };
        view_properties = vacuous _;
        interface_properties = vacuous _;
        ports = All-from_recursion IsTypedPort (map new_port ports) (each_port_typed ports (recursion_from_All IsTypedPortDecl ports typed));
        insts = subst (All IsTypedInst) (sym none) (vacuous IsTypedInst);
        nets = subst (All IsTypedNet) (sym nets) (vacuous IsTypedNet);
      };
      valid = λ id here. record {
        limits = record {
          ports = rw count few;
          bits = bits;
          insts = rw none (omega arith);
          nets = rw nets (omega arith);
          ends = rw ends (omega arith);
        };
        names = record {
          ports = subst (λ (names : List (List ℕ)). AreDistinct names) (sym (port_names ports)) (distinct_of (map (λ (port : PortDecl). port.name) ports) (once_each (map (λ (port : PortDecl). port.name) ports) once));
          insts = rw none distinct_none;
          nets = rw nets distinct_none;
          properties = distinct_none;
          view_properties = distinct_none;
          interface_properties = distinct_none;
          port_properties = All-from_recursion (λ (port : Port). HasDistinctKeys port.properties) (map new_port ports) (each_plain ports);
          inst_properties = subst (All (λ (inst : Inst). HasDistinctKeys inst.properties)) (sym none) (vacuous _);
          net_properties = subst (All (λ (net : Net). HasDistinctKeys net.properties)) (sym nets) (vacuous _);
        };
        placed = subst (All (λ (inst : Inst). IsCell (with_more_cell d lib body) inst.of)) (sym none) (vacuous _);
        not_later = subst (All (λ (inst : Inst). inst.of.lib.0 ≤ id.lib.0)) (sym none) (vacuous _);
        ends = subst (All (IsEndOf (with_more_cell d lib body) body)) (sym ends) (vacuous _);
        joined_once = subst (λ (es : List End). AreDistinct es) (sym ends) distinct_none;
      };
      old = subst (All (λ (inst : Inst). IsCell d inst.of)) (sym none) (vacuous _);
      room = λ l at.
          let cells : names_in d (Some lib) ≡ cell_names l.cells = ap (λ (o : Option Lib). cell_names (option_map_or (λ (x : Lib). x.cells) o [])) at in
          let many : length (cell_names l.cells) ≡ length l.cells = length-map l.cells (λ (c : CellBody). c.name.id) in
          let same = ap (λ (names : List (List ℕ)). length names) cells in
          omega arith;
      free = λ l at.
          let cells : names_in d (Some lib) ≡ cell_names l.cells = ap (λ (o : Option Lib). cell_names (option_map_or (λ (x : Lib). x.cells) o [])) at in
          not_taken name (cell_names l.cells) (subst (λ (names : List (List ℕ)). list_any (λ other. is_same other name) names ≡ false) cells free);
    }

pub new_edit : (d : Design) (lib : Option LibId) (slot : ℕ) (body : CellBody) → IsValid d → ((l : LibId) → lib ≡ Some l → IsGoodCell d l body) → IsValid (edited d (option_to_list (option_map (λ l. fresh (record { lib = l; slot = slot }) body) lib)))
new_edit d None slot body valid good = valid
new_edit d (Some lib) slot body valid good = more_cell_valid d (record { lib = lib; slot = slot }) body valid (good lib refl)
