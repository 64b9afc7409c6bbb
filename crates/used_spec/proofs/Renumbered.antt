-- A cell whose instances are renumbered: what stays.
use Rattle.std.proofs.Common.{◌≡◌, ◌≢◌, ℕ, zero, suc, ◌<◌, ◌≤◌, List, [], ◌∷◌, map, length, refl, ap, sym, ◌∙◌, subst, ◌⊎◌, ⊎_elim, Bool, true, false, Option, Some, None, arith, slice_get, slice_index_or}
use Rattle.std.specs.Prelude.{◌||◌, cond, option_map, nat_eq}
use Rattle.std.specs.List.{All, AllByRecursion, Contains, list_any, flat_map}
use Rattle.std.proofs.lemmas.Bool.{eq-eqb, eqb-true, cases_order, or_parts, or_right}
use Rattle.std.proofs.lemmas.List.{length-map}
use Rattle.std.proofs.lemmas.List.Elements.{All-from_recursion, All-map, All-weaker}
use Rattle.std.proofs.lemmas.Option.{get_or_from_slice_get, slice_get-map, slice_get_within}
use Rattle.std.proofs.Math.ListN.{get_or-map}
use Rattle.netlist_schema.specs.Design.{insts_of, nets_in, nets_of, ends_of}
use Rattle.netlist_schema.specs.Limits.{IsCellWithinLimits}
use Rattle.netlist_schema.specs.Names.{AreDistinct, HasDistinctKeys, HasDistinctNamesInCell, cell_names}
use Rattle.netlist_schema.specs.Typed.{IsTypedCell, IsTypedInst, IsTypedNet}
use Rattle.netlist_schema.specs.Types.{CellBody, Contents, End, Inst, Net}
use Rattle.edif_spec.specs.Arranged.{new_inst, new_contents, new_cell, new_cells, place_in}
use Rattle.edif_spec.proofs.Arrange.{AllThere, insts_new}
use Rattle.netlist_order_spec.proofs.WholeOrder.{IsNew}

nets_new : (orders : List (List ℕ)) (c : CellBody) → nets_of (new_cell orders c) ≡ nets_of c
nets_new orders c = go c.contents
  where
    go : (o : Option Contents) → nets_in (option_map (new_contents orders) o) ≡ nets_in o
    go None = refl
    go (Some x) = refl

pub ends_new : (orders : List (List ℕ)) (c : CellBody) → ends_of (new_cell orders c) ≡ ends_of c
ends_new orders c = ap (λ (nets : List Net). flat_map (λ net. net.ends) nets) (nets_new orders c)

inst_names_new : (orders : List (List ℕ)) (is : List Inst) → map (λ (i : Inst). i.name.id) (map (new_inst orders) is) ≡ map (λ (i : Inst). i.name.id) is
inst_names_new orders [] = refl
inst_names_new orders (i ∷ is) = ap (λ v. i.name.id ∷ v) (inst_names_new orders is)

-- what holds of each instance holds of each that is renumbered
pub all_insts : (P : Inst → Type 0) (orders : List (List ℕ)) (c : CellBody) → All (λ i. P (new_inst orders i)) (insts_of c) → All P (insts_of (new_cell orders c))
all_insts P orders c h = subst (λ (is : List Inst). All P is) (sym (insts_new orders c)) (All-map P (new_inst orders) (insts_of c) h)

all_nets : (P : Net → Type 0) (orders : List (List ℕ)) (c : CellBody) → All P (nets_of c) → All P (nets_of (new_cell orders c))
all_nets P orders c h = subst (λ (nets : List Net). All P nets) (sym (nets_new orders c)) h

pub typed_cell : (orders : List (List ℕ)) (c : CellBody) → IsTypedCell c → IsTypedCell (new_cell orders c)
typed_cell orders c h = record {
  name = h.name;
  properties = h.properties;
  view = h.view;
  view_properties = h.view_properties;
  interface_properties = h.interface_properties;
  ports = h.ports;
  insts = all_insts IsTypedInst orders c (All-weaker IsTypedInst (λ i. IsTypedInst (new_inst orders i)) (λ i w. record { name = w.name; designator = w.designator; properties = w.properties }) (insts_of c) h.insts);
  nets = all_nets IsTypedNet orders c h.nets;
}

pub cell_limits : (orders : List (List ℕ)) (c : CellBody) → IsCellWithinLimits c → IsCellWithinLimits (new_cell orders c)
cell_limits orders c h = record {
  ports = h.ports;
  bits = h.bits;
  insts = (let n : length (insts_of (new_cell orders c)) ≡ length (insts_of c) = ap length (insts_new orders c) ∙ length-map (insts_of c) (new_inst orders) in let l = h.insts in omega (arith, n, l));
  nets = subst (λ (nets : List Net). length nets ≤ 1048576) (sym (nets_new orders c)) h.nets;
  ends = subst (λ (ends : List End). length ends ≤ 4194304) (sym (ends_new orders c)) h.ends;
}

pub cell_names_differ : (orders : List (List ℕ)) (c : CellBody) → HasDistinctNamesInCell c → HasDistinctNamesInCell (new_cell orders c)
cell_names_differ orders c h = record {
  ports = h.ports;
  insts = subst (λ (ns : List (List ℕ)). AreDistinct ns) (sym (ap (map (λ (i : Inst). i.name.id)) (insts_new orders c) ∙ inst_names_new orders (insts_of c))) h.insts;
  nets = subst (λ (nets : List Net). AreDistinct (map (λ (net : Net). net.name.id) nets)) (sym (nets_new orders c)) h.nets;
  properties = h.properties;
  view_properties = h.view_properties;
  interface_properties = h.interface_properties;
  port_properties = h.port_properties;
  inst_properties = all_insts (λ (i : Inst). HasDistinctKeys i.properties) orders c h.inst_properties;
  net_properties = all_nets (λ (net : Net). HasDistinctKeys net.properties) orders c h.net_properties;
}

-- ---- cells at places of a library

any_at : (o : List ℕ) (p s : ℕ) → slice_get o p ≡ Some s → list_any (nat_eq s) o ≡ true
any_at [] p s e = absurd (cc e)
any_at (k ∷ o) zero s e = let q : k ≡ s = cc e in ap (λ b. b || list_any (nat_eq s) o) (eq-eqb s k (sym q))
any_at (k ∷ o) (suc p) s e = or_right (nat_eq s k) (list_any (nat_eq s) o) (any_at o p s e)

-- a number that stands at a place is found there, where each stands once
pub place_at : (o : List ℕ) (p s : ℕ) → IsNew o → slice_get o p ≡ Some s → place_in s o ≡ p
place_at [] p s n e = absurd (cc e)
place_at (k ∷ o) zero s n e = let q : k ≡ s = cc e in ap (λ b. cond b 0 (suc (place_in s o))) (eq-eqb s k (sym q))
place_at (k ∷ o) (suc p) s n e = go (nat_eq s k) refl (place_at o p s n.1 e)
  where
    go : (b : Bool) → nat_eq s k ≡ b → place_in s o ≡ p → cond b 0 (suc (place_in s o)) ≡ suc p
    go true f more =
        let q : s ≡ k = eqb-true s k f in
        let g : true ≡ false = sym (any_at o p s e) ∙ (ap (λ v. list_any (nat_eq v) o) q ∙ n.0) in absurd (cc g)
    go false f more = ap suc more

-- the cell at a place of the new list comes from the place that stands there
pub record ComesFromSlot (orders : List (List ℕ)) (cells : List CellBody) (o : List ℕ) (p : ℕ) (n : CellBody) : Type 0 where
  pub slot : ℕ
  pub old : CellBody
  pub listed : slice_get o p ≡ Some slot
  pub there : slice_get cells slot ≡ Some old
  pub is : n ≡ new_cell orders old

pub old_there : (orders : List (List ℕ)) (cells : List CellBody) (o : List ℕ) (p : ℕ) (n : CellBody) → AllThere cells o → slice_get (new_cells orders cells o) p ≡ Some n → ComesFromSlot orders cells o p n
old_there orders cells [] p n h e = absurd (cc e)
old_there orders cells (j ∷ o) p n h e = go p (rw h.0.1 at e) (λ q f. old_there orders cells o q n h.1 f)
  where
    go : (p : ℕ) → slice_get (new_cell orders h.0.0 ∷ new_cells orders cells o) p ≡ Some n → ((q : ℕ) → slice_get (new_cells orders cells o) q ≡ Some n → ComesFromSlot orders cells o q n) → ComesFromSlot orders cells (j ∷ o) p n
    go zero f more = record { slot = j; old = h.0.0; listed = refl; there = h.0.1; is = cc f }
    go (suc q) f more = let r = more q f in record { slot = r.slot; old = r.old; listed = r.listed; there = r.there; is = r.is }

pub length_new : (orders : List (List ℕ)) (cells : List CellBody) (o : List ℕ) → AllThere cells o → length (new_cells orders cells o) ≡ length o
length_new orders cells [] h = refl
length_new orders cells (k ∷ o) h = rw h.0.1 (ap suc (length_new orders cells o h.1))

-- names of cells in another order differ
abbrev Differ : List (List ℕ) → Type 0
Differ [] = Unit {0}
Differ (n ∷ ns) = AllByRecursion (λ m. n ≢ m) ns × Differ ns

differ_distinct : (ns : List (List ℕ)) → Differ ns → AreDistinct ns
differ_distinct [] h i j d l m = absurd (omega arith)
differ_distinct (n ∷ ns) h i zero d l m = absurd (omega arith)
differ_distinct (n ∷ ns) h zero (suc j) d l m = All-from_recursion (λ v. n ≢ v) ns h.0 j d (omega arith)
differ_distinct (n ∷ ns) h (suc i) (suc j) d l m = differ_distinct ns h.1 i j d (omega arith) (omega arith)

apart : (ns : List (List ℕ)) (i j : ℕ) (a b : List ℕ) → AreDistinct ns → slice_get ns i ≡ Some a → slice_get ns j ≡ Some b → i ≢ j → a ≢ b
apart ns i j a b h e f n = λ same. ⊎_elim
    (λ (q : i ≡ j). n q)
    (λ (q : (i < j) ⊎ (j < i)). ⊎_elim
    (λ (l : i < j). h i j a l (slice_get_within ns j b f) (get_or_from_slice_get ns i a a e ∙ (same ∙ sym (get_or_from_slice_get ns j b a f))))
    (λ (l : j < i). h j i a l (slice_get_within ns i a e) (get_or_from_slice_get ns j b a f ∙ (sym same ∙ sym (get_or_from_slice_get ns i a a e)))) q)
    (cases_order i j)

name_at : (cells : List CellBody) (k : ℕ) (c : CellBody) → slice_get cells k ≡ Some c → slice_get (cell_names cells) k ≡ Some c.name.id
name_at cells k c e = slice_get-map (λ (c : CellBody). c.name.id) cells k ∙ ap (option_map (λ (c : CellBody). c.name.id)) e

none_named : (orders : List (List ℕ)) (cells : List CellBody) (k : ℕ) (c : CellBody) (o : List ℕ) → AreDistinct (cell_names cells) → slice_get cells k ≡ Some c → AllThere cells o → list_any (nat_eq k) o ≡ false → AllByRecursion (λ m. c.name.id ≢ m) (cell_names (new_cells orders cells o))
none_named orders cells k c [] d e h n = tt
none_named orders cells k c (j ∷ o) d e h n =
    let t = or_parts (nat_eq k j) (list_any (nat_eq k) o) n in
    let other : k ≢ j = λ q. (let g : true ≡ false = sym (eq-eqb k j q) ∙ t.0 in absurd (cc g)) in
    rw h.0.1 (apart (cell_names cells) k j c.name.id h.0.0.name.id d (name_at cells k c e) (name_at cells j h.0.0 h.0.1) other, none_named orders cells k c o d e h.1 t.1)

names_apart : (orders : List (List ℕ)) (cells : List CellBody) (o : List ℕ) → AreDistinct (cell_names cells) → AllThere cells o → IsNew o → Differ (cell_names (new_cells orders cells o))
names_apart orders cells [] d h n = tt
names_apart orders cells (k ∷ o) d h n = rw h.0.1 (none_named orders cells k h.0.0 o d h.0.1 h.1 n.0, names_apart orders cells o d h.1 n.1)

pub names_differ : (orders : List (List ℕ)) (cells : List CellBody) (o : List ℕ) → AreDistinct (cell_names cells) → AllThere cells o → IsNew o → AreDistinct (cell_names (new_cells orders cells o))
names_differ orders cells o d h n = differ_distinct (cell_names (new_cells orders cells o)) (names_apart orders cells o d h n)

-- ---- instances

pub contains_map : (orders : List (List ℕ)) (is : List Inst) (i : Inst) → Contains is i → Contains (map (new_inst orders) is) (new_inst orders i)
contains_map orders is i h = (h.0, (let n : length (map (new_inst orders) is) ≡ length is = length-map is (new_inst orders) in let l = h.1 in omega (arith, n, l)), get_or-map (new_inst orders) is h.0 i ∙ ap (new_inst orders) h.2)

pub contains_unmap : (orders : List (List ℕ)) (is : List Inst) (n : Inst) → Contains (map (new_inst orders) is) n → (i : Inst) × Contains is i × (n ≡ new_inst orders i)
contains_unmap orders is n h = at is h.0 h.1 h.2
  where
    at : (is : List Inst) (k : ℕ) → k < length (map (new_inst orders) is) → slice_index_or (map (new_inst orders) is) k n ≡ n → (i : Inst) × Contains is i × (n ≡ new_inst orders i)
    at [] k l e = absurd (omega arith)
    at (i ∷ is) zero l e = (i, (0, omega arith, refl), sym e)
    at (i ∷ is) (suc k) l e = let r = at is k (omega arith) e in (r.0, (suc r.1.0, (let l = r.1.1 in omega (arith, l)), r.1.2), r.2)
