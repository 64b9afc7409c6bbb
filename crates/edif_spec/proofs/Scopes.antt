-- References in the canonical tree mean what they were made of.
use Rattle.std.proofs.Common.{◌≡◌, ℕ, zero, suc, List, [], ◌∷◌, ◌++◌, map, refl, ap, sym, ◌∙◌, Bool, true, false, not, Some, arith}
use Rattle.std.specs.Prelude.{◌&&◌, slice_get, option_map, nat_eq}
use Rattle.std.specs.List.{list_any}
use Rattle.std.proofs.lemmas.Bool.Decides.{nat_tests}
use Rattle.std.proofs.lemmas.Bool.{or_parts, not-true}
use Rattle.netlist_schema.proofs.Lists.{get_still}
use Rattle.edif_spec.proofs.CellPlaces.{lib_of_cell}
use Rattle.edif_spec.specs.Means.{meant, Found, equal, first_place}
use Rattle.edif_spec.proofs.ValidForms.{distinct}
use Rattle.edif_spec.specs.Design as design
use Rattle.edif_spec.proofs.Both.{both, and_true}

equal_self : (n : List ℕ) → equal n n ≡ true
equal_self [] = refl
equal_self (b ∷ n) = and_true (nat_eq b b) (equal n n) (grind (arith, nat_tests)) (equal_self n)

-- none of the list passes, so the one at a place does not
pub none_at : (p : List ℕ → Bool) (ns : List (List ℕ)) (i : ℕ) (n : List ℕ) → list_any p ns ≡ false → slice_get ns i ≡ Some n → p n ≡ false
none_at p [] i n h e = absurd (cc e)
none_at p (m ∷ ns) zero n h e = let w : m ≡ n = cc e in ap p (sym w) ∙ (or_parts (p m) (list_any p ns) h).0
none_at p (m ∷ ns) (suc i) n h e = none_at p ns i n (or_parts (p m) (list_any p ns) h).1 e

pub equal_sym : (m n : List ℕ) → equal m n ≡ false → equal n m ≡ false
equal_sym [] [] h = h
equal_sym [] (b ∷ n) h = refl
equal_sym (a ∷ m) [] h = refl
equal_sym (a ∷ m) (b ∷ n) h = go (nat_eq a b) (nat_eq b a) (grind (arith, nat_tests)) h (equal_sym m n)
  where
    go : (x y : Bool) → x ≡ y → (x && equal m n) ≡ false → (equal m n ≡ false → equal n m ≡ false) → (y && equal n m) ≡ false
    go true true e h f = f h
    go false false e h f = refl
    go true false e h f = refl
    go false true e h f = absurd (cc e)

first_at : (ns : List (List ℕ)) (i : ℕ) (n : List ℕ) → distinct ns ≡ true → slice_get ns i ≡ Some n → first_place (equal n) ns ≡ Some i
first_at [] i n h e = absurd (cc e)
first_at (m ∷ ns) zero n h e = let w : m ≡ n = cc e in rw (ap (equal n) w ∙ equal_self n) refl
first_at (m ∷ ns) (suc i) n h e =
    let d = both (not (list_any (equal m) ns)) (distinct ns) h in
    let f : equal n m ≡ false = equal_sym m n (none_at (equal m) ns i n (not-true (list_any (equal m) ns) d.0) e) in
    rw f (ap (option_map (λ j. suc j)) (first_at ns i n d.1 e))

-- the name at a place of a scope of different names means that place
pub meant_self : (ns : List (List ℕ)) (i : ℕ) (n : List ℕ) → distinct ns ≡ true → slice_get ns i ≡ Some n → meant ns n ≡ Found i
meant_self ns i n h e = rw (first_at ns i n h e) refl

any_front : (p : List ℕ → Bool) (a b : List (List ℕ)) → list_any p (a ++ b) ≡ false → list_any p a ≡ false
any_front p [] b h = refl
any_front p (n ∷ a) b h = let f = or_parts (p n) (list_any p (a ++ b)) h in rw f.0 (any_front p a b f.1)

pub distinct_front : (a b : List (List ℕ)) → distinct (a ++ b) ≡ true → distinct a ≡ true
distinct_front [] b h = refl
distinct_front (n ∷ a) b h =
    let d = both (not (list_any (equal n) (a ++ b))) (distinct (a ++ b)) h in
    and_true (not (list_any (equal n) a)) (distinct a) (rw (any_front (equal n) a b (not-true (list_any (equal n) (a ++ b)) d.0)) refl) (distinct_front a b d.1)

-- The scope has libraries of all, the last perhaps with fewer cells, and names in it differ.
pub record IsScope (scope all : List design.Lib) : Type 0 where
  pub at : (i : ℕ) (l : design.Lib) → slice_get scope i ≡ Some l → (m : design.Lib) × (slice_get all i ≡ Some m) × (m.head ≡ l.head) × ((rest : List design.CellBody) × (m.cells ≡ l.cells ++ rest))
  pub lib_names : distinct (design.lib_ids scope) ≡ true
  pub cell_names : (i : ℕ) (l : design.Lib) → slice_get scope i ≡ Some l → distinct (map (λ c. c.name.id) l.cells) ≡ true

pub cell_in_all : (scope all : List design.Lib) (id : design.CellId) (c : design.CellBody) → IsScope scope all → design.cell_at scope id ≡ Some c → design.cell_at all id ≡ Some c
cell_in_all scope all id c s e =
    let l = lib_of_cell scope id c e in
    let m = s.at id.lib.0 l.0 l.1 in
    rw m.1 (rw m.3.1 (get_still l.0.cells m.3.0 id.slot c l.2))
