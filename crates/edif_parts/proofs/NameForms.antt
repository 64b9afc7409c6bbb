-- What a rename means, and the name in a rename or an array.
use Rattle.std.proofs.Common.{◌≡◌, ℕ, ℤ, List, [], ◌∷◌, map, refl, sym, ap, ◌∙◌, subst, inr, true, Some}
use Rattle.std.specs.Prelude.{slice_get}
use Rattle.netlist_schema.specs.Ident.{IsIdentifier}
use Rattle.netlist_schema.specs.Typed.{IsBytes, IsTypedName}
use Rattle.netlist_schema.specs.declared.property.Name.{Name}
use Rattle.edif_spelling_spec.specs.Tree.{Placed, Word', String', bare, word, integer}
use Rattle.edif_spelling_spec.specs.Tree as tree
use Rattle.edif_spec.specs.Keyword.{identifier, string}
use Rattle.edif_spec.specs.Means.{MeansName}
use Rattle.edif_spec.specs.Rows.{has_keyword, IsFormOf}
use Rattle.edif_spec.specs.Faults.{arguments, followers, name_of, renamed, is_size, bus_name_of}
use Rattle.edif_spec.specs.declared.keyword.Keyword.TheVariants as keywords
use Rattle.edif_spec.proofs.FaultForms.{arguments_are}
use Rattle.edif_spec.proofs.FaultsApart.{array_gives, array_listed, rename_gives, rename_listed}
use Rattle.edif_spec.proofs.KnownRows.{follow_none}

-- the name, typed, with the place of its identifier
pub record NamedAt (t : Placed) (n : Name) (p : ℕ) : Type 0 where
  pub means : MeansName (bare t) n
  pub typed : IsTypedName n
  pub at : name_of t ≡ Some (n.id, p)

-- the name of an array is that of its first argument
pub array_names : (t u : Placed) (z : ℤ) (n : List ℕ × ℕ) → is_size z ≡ true → has_keyword keywords.Array (bare t) ≡ true → IsFormOf keywords.Array (bare t) (bare u ∷ integer z ∷ []) [] → slice_get (arguments t) 0 ≡ Some u → name_of u ≡ Some n → bus_name_of t ≡ Some n
array_names t u z n s k f a e =
    let r = array_listed (arguments t) (bare u) z s (arguments_are keywords.Array t (bare u ∷ integer z ∷ []) [] f) in
    let d : r.0 ≡ u = (let both = sym r.1 ∙ a in cc both) in
    array_gives t n k (r.3 ∙ (ap name_of d ∙ e))

-- a rename
pub rename_named : (t u v : Placed) (w s : List ℕ) (p q : ℕ) → has_keyword keywords.Rename (bare t) ≡ true → IsFormOf keywords.Rename (bare t) (bare u ∷ bare v ∷ []) (map bare (followers keywords.Rename t)) → slice_get (arguments t) 0 ≡ Some u → u ≡ Word' p w → v ≡ String' q s → IsIdentifier w → IsBytes s
    → NamedAt t (record { id = w; shown = Some s }) p
rename_named t u v w s p q k form at a b i y =
    let f : IsFormOf keywords.Rename (bare t) (bare u ∷ bare v ∷ []) [] = follow_none keywords.Rename (identifier ∷ string ∷ []) (bare t) (bare u ∷ bare v ∷ []) (map bare (followers keywords.Rename t)) refl form in
    let P : Placed → Placed → Type 0 = λ x y. IsFormOf keywords.Rename (bare t) (bare x ∷ bare y ∷ []) [] in
    let g : P (Word' p w) (String' q s) = subst (λ y. P (Word' p w) y) b (subst (λ x. P x v) a f) in
    let r = rename_listed (arguments t) w s (arguments_are keywords.Rename t (word w ∷ tree.string s ∷ []) [] g) in
    let d : r.0 ≡ p = (let both = sym r.1 ∙ (at ∙ ap Some a) in cc both) in
    let R : ℕ → Type 0 = λ x. renamed (arguments t) ≡ Some (w, x) in
    record { means = inr (s, g, refl); typed = record { id = i; shown = y }; at = rename_gives t (w, p) k (subst R d r.2) }
