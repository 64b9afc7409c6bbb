-- The canonical tree of a design means the design.
use Rattle.std.proofs.Common.{◌≡◌, ℕ, pos, List, [], ◌∷◌, map, refl, inl, inr, Bool, true, false, Option, Some, None, arith}
use Rattle.std.specs.Prelude.{IsTrue, IfSome, codes}
use Rattle.std.specs.List.{list_all, AllByRecursion}
use Rattle.edif_spelling_spec.specs.Tree.{Bare, word, integer, string}
use Rattle.edif_spec.specs.Keyword.{spelling_of, same, row, Follower, Many, One, AnIdentifier, AnInteger, AForm, name_definition}
use Rattle.edif_spec.specs.Rows.{has_keyword, is_follower, is_one_of, FitsRow, Each, Perhaps}
use Rattle.edif_spec.specs.Canonical.{zero_tree, interface_tree, contents_tree, view_tree, kind_word, cell_tree, make, perhaps, name_tree, name_with, number_tree, boolean_tree, value_tree, text_tree, property_tree, direction_word, direction_tree, port_name_tree, port_tree}
use Rattle.edif_spec.specs.Means.{IsLevel, MeansName, MeansText, MeansBoolean, MeansNumber, MeansValue, MeansProperty, MeansDirection, MeansBusName, MeansPort, MeansInterface, MeansContents, MeansView, MeansKind, MeansCell}
use Rattle.netlist_schema.specs.Typed.{IsTypedNum, IsTypedValue, IsTypedProperty}
use Rattle.netlist_schema.specs.Width.{IsWidth}
use Rattle.netlist_schema.specs.declared.cell.Direction.TheVariants as directions
use Rattle.netlist_schema.specs.declared.cell.CellKind.TheVariants as kinds
use Rattle.netlist_schema.specs.declared.property.Num.TheVariants as numbers
use Rattle.netlist_schema.specs.declared.property.Value.TheVariants as values
use Rattle.edif_spec.proofs.ValidForms.{ValidProperties, ValidPort}
use Rattle.edif_spec.specs.declared.keyword.Keyword.{Keyword}
use Rattle.edif_spec.specs.declared.keyword.Keyword.TheVariants as keywords
use Rattle.edif_spec.specs.Design as design
use Rattle.edif_spec.proofs.Groups.{joined, Grouped, those_joined, joined_follows}
use Rattle.edif_spec.proofs.Followers.{one_kept, all_pass, one_passes, at_most_one, each_map, perhaps_one}

-- a name definition's tree is one of its choices, and means the name
pub name_fits : (id : List ℕ) (shown : Option (List ℕ)) → IsTrue (is_one_of name_definition (name_with id shown))
name_fits id None = refl
name_fits id (Some text) = refl

pub name_meant : (id : List ℕ) (shown : Option (List ℕ)) → MeansName (name_with id shown) (record { id = id; shown = shown })
name_meant id None = inl (refl, refl)
name_meant id (Some text) = inr (text, record { spelled = codes "rename"; is = refl; keyword = refl; fits = ((refl, (refl, tt)), refl, tt) }, refl)

pub text_form : (k : Keyword) (text : List ℕ) → IsTrue (same (spelling_of k) (spelling_of k)) → FitsRow (row k) (string text ∷ []) [] → MeansText k (text_tree k text) text
text_form k text h f = record { spelled = spelling_of k; is = refl; keyword = h; fits = f }

number_meant : (n : design.Num) → IsTypedNum n → MeansNumber (number_tree n) n
number_meant (numbers.Int z) h = refl
number_meant (numbers.Scaled m x) h = (record { spelled = codes "e"; is = refl; keyword = refl; fits = ((refl, (refl, tt)), refl, tt) }, h.1)

number_fits : (n : design.Num) → IsTrue (is_one_of (AnInteger ∷ AForm keywords.E ∷ []) (number_tree n))
number_fits (numbers.Int z) = refl
number_fits (numbers.Scaled m x) = refl

boolean_meant : (b : Bool) → MeansBoolean (boolean_tree b) b
boolean_meant true = record { spelled = codes "true"; is = refl; keyword = refl; fits = (tt, refl, tt) }
boolean_meant false = record { spelled = codes "false"; is = refl; keyword = refl; fits = (tt, refl, tt) }

boolean_fits : (b : Bool) → IsTrue (is_one_of (AForm keywords.True ∷ AForm keywords.False ∷ []) (boolean_tree b))
boolean_fits true = refl
boolean_fits false = refl

value_meant : (v : design.Value) → IsTypedValue v → MeansValue (value_tree v) v
value_meant (values.Boolean b) h = (boolean_tree b, record { spelled = codes "boolean"; is = refl; keyword = refl; fits = ((boolean_fits b, tt), refl, tt) }, boolean_meant b)
value_meant (values.Integer z) h = record { spelled = codes "integer"; is = refl; keyword = refl; fits = ((refl, tt), refl, tt) }
value_meant (values.Number n) h = (number_tree n, record { spelled = codes "number"; is = refl; keyword = refl; fits = ((number_fits n, tt), refl, tt) }, number_meant n h)
value_meant (values.Text text) h = record { spelled = codes "string"; is = refl; keyword = refl; fits = ((refl, tt), refl, tt) }

value_fits : (v : design.Value) → IsTrue (is_one_of (AForm keywords.Boolean ∷ AForm keywords.Integer ∷ AForm keywords.Number ∷ AForm keywords.String ∷ []) (value_tree v))
value_fits (values.Boolean b) = refl
value_fits (values.Integer z) = refl
value_fits (values.Number n) = refl
value_fits (values.Text text) = refl

pub property_meant : (p : design.Property) → IsTypedProperty p → MeansProperty (property_tree p) p
property_meant p h = record {
  key_part = name_tree p.key;
  value_part = value_tree p.value;
  inner = perhaps (text_tree keywords.Owner) p.owner;
  form = record {
    spelled = codes "property";
    is = refl;
    keyword = refl;
    fits = (
      (name_fits p.key.id p.key.shown, (value_fits p.value, tt)),
      one_passes (is_follower (One keywords.Owner ∷ Many keywords.Comment ∷ [])) (text_tree keywords.Owner) p.owner (λ x. refl),
      (rw (one_kept (has_keyword keywords.Owner) (text_tree keywords.Owner) p.owner (λ x. refl)) (at_most_one (text_tree keywords.Owner) p.owner), tt),
    );
  };
  key = name_meant p.key.id p.key.shown;
  value = value_meant p.value h.value;
  owner = rw (one_kept (has_keyword keywords.Owner) (text_tree keywords.Owner) p.owner (λ x. refl)) (perhaps_one (MeansText keywords.Owner) (text_tree keywords.Owner) p.owner (λ x. text_form keywords.Owner x refl ((refl, tt), refl, tt)));
}

direction_meant : (d : design.Direction) → MeansDirection (direction_tree d) d
direction_meant d = (direction_word d, record { spelled = codes "direction"; is = refl; keyword = refl; fits = ((refl, tt), refl, tt) }, same_word d)
  where
    same_word : (d : design.Direction) → IsTrue (same (direction_word d) (direction_word d))
    same_word directions.Input = refl
    same_word directions.Output = refl
    same_word directions.Inout = refl

pub port_name_meant : (name : design.Name) (array : Option ℕ) → IfSome array IsWidth → MeansBusName (port_name_tree name array) name array
port_name_meant name None h = name_meant name.id name.shown
port_name_meant name (Some n) h = (name_tree name, record { spelled = codes "array"; is = refl; keyword = refl; fits = ((name_fits name.id name.shown, (refl, tt)), refl, tt) }, name_meant name.id name.shown, h)

pub port_name_fits : (id : List ℕ) (shown : Option (List ℕ)) (array : Option ℕ) → IsTrue (is_one_of (AnIdentifier ∷ AForm keywords.Rename ∷ AForm keywords.Array ∷ []) (port_name_tree (record { id = id; shown = shown }) array))
port_name_fits id None None = refl
port_name_fits id (Some text) None = refl
port_name_fits id shown (Some n) = refl

pub properties_meant : (ps : List design.Property) → ValidProperties ps → Each MeansProperty (map property_tree ps) ps
properties_meant ps h = each_map IsTypedProperty MeansProperty property_tree ps h property_meant

-- a list of trees made by one function, as a group
pub group_of : {A : Type 0} (k : Keyword) (f : A → Bare) (xs : List A) → ((x : A) → has_keyword k (f x) ≡ true) → IsTrue (list_all (has_keyword k) (map f xs))
group_of k f xs h = all_pass (has_keyword k) f xs h

pub option_group : {A : Type 0} (k : Keyword) (f : A → Bare) (o : Option A) → ((x : A) → has_keyword k (f x) ≡ true) → IsTrue (list_all (has_keyword k) (perhaps f o))
option_group k f o h = one_passes (has_keyword k) f o h

port_meant : (p : design.Port) → ValidPort p → MeansPort (port_tree p) p
port_meant p h =
    let fs : List Follower = One keywords.Direction ∷ One keywords.Designator ∷ Many keywords.Property ∷ Many keywords.Comment ∷ Many keywords.UserData ∷ [] in
    let gs : List (Keyword × List Bare) = (keywords.Direction, perhaps direction_tree p.direction) ∷ (keywords.Designator, perhaps (text_tree keywords.Designator) p.designator) ∷ (keywords.Property, map property_tree p.properties) ∷ [] in
    let grouped : Grouped gs = (
      option_group keywords.Direction direction_tree p.direction (λ x. refl),
      (option_group keywords.Designator (text_tree keywords.Designator) p.designator (λ x. refl), (group_of keywords.Property property_tree p.properties (λ x. refl), tt)),
    ) in
    record {
      name_part = port_name_tree p.name p.array;
      inner = joined gs;
      form = record {
        spelled = codes "port";
        is = refl;
        keyword = refl;
        fits = (
          (port_name_fits p.name.id p.name.shown p.array, tt),
          joined_follows fs gs refl grouped,
          (
            rw (those_joined keywords.Direction gs grouped) (at_most_one direction_tree p.direction),
            (rw (those_joined keywords.Designator gs grouped) (at_most_one (text_tree keywords.Designator) p.designator), tt),
          ),
        );
      };
      name = port_name_meant p.name p.array h.array;
      direction = rw (those_joined keywords.Direction gs grouped) (perhaps_one MeansDirection direction_tree p.direction direction_meant);
      designator = rw (those_joined keywords.Designator gs grouped) (perhaps_one (MeansText keywords.Designator) (text_tree keywords.Designator) p.designator (λ x. text_form keywords.Designator x refl ((refl, tt), refl, tt)));
      properties = rw (those_joined keywords.Property gs grouped) (properties_meant p.properties h.properties);
    }

interface_meant : (c : design.CellBody) → AllByRecursion ValidPort c.ports → ValidProperties c.interface_properties → MeansInterface (interface_tree c) c
interface_meant c h k =
    let gs : List (Keyword × List Bare) = (keywords.Port, map port_tree c.ports) ∷ (keywords.Property, map property_tree c.interface_properties) ∷ [] in
    let grouped : Grouped gs = (group_of keywords.Port port_tree c.ports (λ x. refl), (group_of keywords.Property property_tree c.interface_properties (λ x. refl), tt)) in
    record {
      inner = joined gs;
      form = record { spelled = codes "interface"; is = refl; keyword = refl; fits = (tt, joined_follows (Many keywords.Port ∷ Many keywords.Property ∷ Many keywords.Comment ∷ Many keywords.UserData ∷ []) gs refl grouped, tt) };
      ports = rw (those_joined keywords.Port gs grouped) (each_map ValidPort MeansPort port_tree c.ports h port_meant);
      properties = rw (those_joined keywords.Property gs grouped) (properties_meant c.interface_properties k);
    }

-- The canonical tree of a contents means it in a scope.
abbrev pub ContentsMeant : List design.Lib → List design.Lib → Option ℕ → design.CellBody → Type 0
ContentsMeant all libs own c = Perhaps (MeansContents libs own c.ports) (perhaps (contents_tree all c.ports) c.contents) c.contents

view_meant : (all libs : List design.Lib) (own : Option ℕ) (c : design.CellBody) → AllByRecursion ValidPort c.ports → ValidProperties c.interface_properties → ValidProperties c.view_properties → ContentsMeant all libs own c → MeansView libs own (view_tree all c) c
view_meant all libs own c h k p e =
    let gs : List (Keyword × List Bare) = (keywords.Property, map property_tree c.view_properties) ∷ (keywords.Contents, perhaps (contents_tree all c.ports) c.contents) ∷ [] in
    let grouped : Grouped gs = (group_of keywords.Property property_tree c.view_properties (λ x. refl), (option_group keywords.Contents (contents_tree all c.ports) c.contents (λ x. refl), tt)) in
    record {
      name_part = name_tree c.view;
      type_part = make keywords.ViewType (word (codes "NETLIST") ∷ []);
      interface_part = interface_tree c;
      inner = joined gs;
      form = record {
        spelled = codes "view";
        is = refl;
        keyword = refl;
        fits = (
          (name_fits c.view.id c.view.shown, (refl, (refl, tt))),
          joined_follows (Many keywords.Status ∷ One keywords.Contents ∷ Many keywords.Property ∷ Many keywords.Comment ∷ Many keywords.UserData ∷ []) gs refl grouped,
          (rw (those_joined keywords.Contents gs grouped) (at_most_one (contents_tree all c.ports) c.contents), tt),
        );
      };
      name = name_meant c.view.id c.view.shown;
      netlist = (codes "NETLIST", record { spelled = codes "viewType"; is = refl; keyword = refl; fits = ((refl, tt), refl, tt) }, refl);
      interface = interface_meant c h k;
      contents = rw (those_joined keywords.Contents gs grouped) e;
      properties = rw (those_joined keywords.Property gs grouped) (properties_meant c.view_properties p);
    }

kind_meant : (k : design.CellKind) → MeansKind (make keywords.CellType (word (kind_word k) ∷ [])) k
kind_meant k = (kind_word k, record { spelled = codes "cellType"; is = refl; keyword = refl; fits = ((refl, tt), refl, tt) }, same_kind k)
  where
    same_kind : (k : design.CellKind) → IsTrue (same (kind_word k) (kind_word k))
    same_kind kinds.Generic = refl
    same_kind kinds.Tie = refl
    same_kind kinds.Ripper = refl

-- what a cell's parts are, whatever its contents
pub record ValidFace (c : design.CellBody) : Type 0 where
  pub properties : ValidProperties c.properties
  pub view_properties : ValidProperties c.view_properties
  pub interface_properties : ValidProperties c.interface_properties
  pub ports : AllByRecursion ValidPort c.ports

pub cell_meant : (all libs : List design.Lib) (own : Option ℕ) (c : design.CellBody) → ValidFace c → ContentsMeant all libs own c → MeansCell libs own (cell_tree all c) c
cell_meant all libs own c h e =
    let gs : List (Keyword × List Bare) = (keywords.Property, map property_tree c.properties) ∷ (keywords.View, view_tree all c ∷ []) ∷ [] in
    let grouped : Grouped gs = (group_of keywords.Property property_tree c.properties (λ x. refl), (refl, tt)) in
    record {
      name_part = name_tree c.name;
      kind_part = make keywords.CellType (word (kind_word c.kind) ∷ []);
      inner = joined gs;
      form = record {
        spelled = codes "cell";
        is = refl;
        keyword = refl;
        fits = (
          (name_fits c.name.id c.name.shown, (refl, tt)),
          joined_follows (Many keywords.Status ∷ One keywords.View ∷ Many keywords.Property ∷ Many keywords.Comment ∷ Many keywords.UserData ∷ []) gs refl grouped,
          (rw (those_joined keywords.View gs grouped) (omega arith), tt),
        );
      };
      name = name_meant c.name.id c.name.shown;
      kind = kind_meant c.kind;
      view = rw (those_joined keywords.View gs grouped) (view_meant all libs own c h.ports h.interface_properties h.view_properties e);
      properties = rw (those_joined keywords.Property gs grouped) (properties_meant c.properties h.properties);
    }

-- a level's tree
pub zero_level : (k : Keyword) → IsTrue (same (spelling_of k) (spelling_of k)) → FitsRow (row k) (integer (pos 0) ∷ []) [] → IsLevel k (zero_tree k)
zero_level k h f = record { spelled = spelling_of k; is = refl; keyword = h; fits = f }
