-- A row as the writer of comma-separated text writes it.
use Rattle.std.proofs.Common.{◌≡◌, ◌<◌, ℕ, List, [], ◌∷◌, ◌++◌, length, map, refl, ap, ◌∙◌, append-nil, arith, Bool, true, false}
use Rattle.std.specs.Prelude.{◌==◌, ◌||◌}
use Rattle.std.specs.List.{list_any}
use Rattle.std.proofs.lemmas.List.{length-map}
use Rattle.csv.specs.Writing.{default_writer, escaped, field_text as text_of_field, fields_text, is_blank, needs_quotes, row_text}
use Rattle.csv.specs.Quoting.{needs_byte}
use Rattle.flat_csv_spec.specs.Fields.{calls_for_quotes, doubled, field_text, row, separated}

-- which bytes call for quotes
same_bytes : (b : ℕ) → needs_byte default_writer b ≡ calls_for_quotes b
same_bytes b = go (b == 44) (b == 34) (b == 13) (b == 10)
  where
    go : (comma quote return feed : Bool) → (comma || quote || (return || feed) || false || false) ≡ (comma || quote || return || feed)
    go true quote return feed = refl
    go false true return feed = refl
    go false false true feed = refl
    go false false false true = refl
    go false false false false = refl

same_fields : (field : List ℕ) → needs_quotes default_writer field ≡ list_any calls_for_quotes field
same_fields [] = refl
same_fields (b ∷ field) = cc (same_bytes b, same_fields field)

same_quotes : (field : List ℕ) → escaped default_writer field ≡ doubled field
unfolding escaped
same_quotes [] = refl
same_quotes (b ∷ field) = rw (same_quotes field) refl

same_text : (field : List ℕ) → text_of_field default_writer field ≡ field_text field
same_text field = rw (same_fields field) (rw (same_quotes field) refl)

same_rest : (field : List ℕ) (fields : List (List ℕ)) → text_of_field default_writer field ++ fields_text default_writer fields ≡ separated (map field_text (field ∷ fields))
unfolding fields_text
same_rest field [] = append-nil (text_of_field default_writer field) ∙ same_text field
same_rest field (next ∷ fields) =
    ap (λ text. text ++ 44 ∷ (text_of_field default_writer next ++ fields_text default_writer fields)) (same_text field)
    ∙ ap (λ rest. field_text field ++ 44 ∷ rest) (same_rest next fields)

-- two fields or more
pub same_row : (fields : List (List ℕ)) → 1 < length fields → row_text default_writer fields ≡ row fields
unfolding is_blank
same_row [] some = absurd (omega (arith, some))
same_row (field ∷ []) some = absurd (omega (arith, some))
same_row (field ∷ next ∷ fields) some = ap (λ text. text ++ 10 ∷ []) (same_rest field (next ∷ fields))

-- two fields or more, by what each of them is
pub same_rows : {X : Type 0} (f : X → List ℕ) (xs : List X) → 1 < length xs → row_text default_writer (map f xs) ≡ row (map f xs)
same_rows f xs some = let long = length-map xs f in same_row (map f xs) (omega (arith, some, long))
