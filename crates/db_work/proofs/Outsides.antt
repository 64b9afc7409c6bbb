-- Bodies with the same outside.
use Rattle.std.proofs.Common.{◌≡◌, ◌+◌, ◌<◌, ℕ, suc, arith, List, ◌∷◌, [], ◌++◌, length, take, get_or, Option, Some, sym, ap, ◌∙◌}
use Rattle.std.proofs.lemmas.List.{take_all}
use Rattle.netlist_schema.specs.Types.{CellBody, Port}
use Rattle.netlist_schema.proofs.Lists.{take_next}
use Rattle.db_version.proofs.Places.{got_item}
use Rattle.db_work.specs.Becomes.{joined, put_together}

pub same_port : (a b : Port) → a.name ≡ b.name → a.array ≡ b.array → a.direction ≡ b.direction → a.designator ≡ b.designator → a.properties ≡ b.properties → a ≡ b
same_port a b name array direction designator properties = λ i. record { name = name i; array = array i; direction = direction i; designator = designator i; properties = properties i }

-- the items up to the next one
pub items_next : {A : Type 0} (a b : List A) (k : ℕ) (x y : A) → take k a ≡ take k b → k < length a → k < length b → x ≡ get_or a k x → y ≡ get_or b k y → x ≡ y → take (k + 1) a ≡ take (k + 1) b
items_next a b k x y before in_a in_b x_is y_is same =
    let one : k + 1 ≡ suc k = omega arith in
    ap (λ n. take n a) one ∙ take_next a k x (got_item a k x in_a x_is) ∙ (λ i. before i ++ same i ∷ []) ∙ sym (ap (λ n. take n b) one ∙ take_next b k y (got_item b k y in_b y_is))

pub items_all : {A : Type 0} (a b : List A) (n : ℕ) → n ≡ length a → length a ≡ length b → take n a ≡ take n b → a ≡ b
items_all a b n long both same = sym (take_all n a (omega arith)) ∙ same ∙ take_all n b (omega arith)

pub same_outside : (a b : CellBody) → (a.name ≡ b.name) × (a.kind ≡ b.kind) × (a.view ≡ b.view) → (a.properties ≡ b.properties) × (a.view_properties ≡ b.view_properties) × (a.interface_properties ≡ b.interface_properties)
    → a.ports ≡ b.ports → put_together a b ≡ b
same_outside a b head properties ports = λ i. record {
  name = head.0 i;
  kind = head.1 i;
  properties = properties.0 i;
  view = head.2 i;
  view_properties = properties.1 i;
  interface_properties = properties.2 i;
  ports = ports i;
  contents = b.contents;
}

-- where the outsides are the same, the second cell is what the two come to
pub joined_same : (a b : CellBody) (outer inner : Option CellBody) → Some a ≡ outer → Some b ≡ inner → put_together a b ≡ b → inner ≡ joined outer inner
joined_same a b outer inner first second same = sym second ∙ ap (λ (c : CellBody). Some c) (sym same) ∙ λ i. joined (first i) (second i)
