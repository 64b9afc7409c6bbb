-- Words taken from the front, one after another.
use Rattle.std.proofs.Common.{◌≡◌, ◌∙◌, List, ℕ, ℤ, Bor, [], ◌∷◌, true, false, length, refl, sym, ap, subst}
use Rattle.std.specs.Prelude.{◌==◌, codes}
use Rattle.netlist_schema.specs.declared.property.Num.{Num}
use Rattle.netlist_schema.specs.declared.property.Num.TheVariants as numbers
use Rattle.script_spec.specs.Lines.{cell_pieces, name, said}
use Rattle.script_spec.specs.Pieces.{Alone, Exponent, Integer, Piece, SpellPieces, SpellsPiece}
use Rattle.script_ops.specs.Front.{Lacks, Takes}
use Rattle.script_words.specs.Reading.{lent}
use Rattle.script_ops.specs.Values.{num_rest}

-- ---- one word

pub one : {V : Type 0} (piece : V → Piece) (words : List (List ℕ)) (word : List ℕ) (left : List (List ℕ)) (v : V) → words ≡ word ∷ left → SpellsPiece word (piece v)
    → Takes (λ (u : V). piece u ∷ []) words v left
one piece words word left v e s = record {
  make = λ more r. subst (λ (ws : List (List ℕ)). SpellPieces ws (piece v ∷ more)) (sym e) (s, r);
  back = λ u more r. (one_parts words word left (piece u) more e r).1;
}
  where
    one_parts : (ws : List (List ℕ)) (w : List ℕ) (rest : List (List ℕ)) (p : Piece) (more : List Piece) → ws ≡ w ∷ rest → SpellPieces ws (p ∷ more) → SpellsPiece w p × SpellPieces rest more
    one_parts ws w rest p more q r = subst (λ (xs : List (List ℕ)). SpellPieces xs (p ∷ more)) q r

pub none_empty : {V : Type 0} (piece : V → Piece) (words : List (List ℕ)) → words ≡ [] → Lacks (λ (u : V). piece u ∷ []) words
none_empty piece words e u more s = subst (λ (ws : List (List ℕ)). SpellPieces ws (piece u ∷ more)) e s

first_part : (words : List (List ℕ)) (word : List ℕ) (left : List (List ℕ)) (p : Piece) (more : List Piece) → words ≡ word ∷ left → SpellPieces words (p ∷ more) → SpellsPiece word p
first_part words word left p more e s = let parts : SpellsPiece word p × SpellPieces left more = subst (λ (ws : List (List ℕ)). SpellPieces ws (p ∷ more)) e s in parts.0

pub none_one : {V : Type 0} (piece : V → Piece) (words : List (List ℕ)) (word : List ℕ) (left : List (List ℕ)) → words ≡ word ∷ left → ((v : V) → ¬ SpellsPiece word (piece v))
    → Lacks (λ (u : V). piece u ∷ []) words
none_one piece words word left e n u more s = n u (first_part words word left (piece u) more e s)

-- ---- a cell

pub cell_taken : (words mid left : List (List ℕ)) (lib cell : List ℕ) → Takes (λ (id : List ℕ). name id ∷ []) words lib mid → Takes (λ (id : List ℕ). name id ∷ []) mid cell left
    → Takes cell_pieces words (record { lib = lib; cell = cell }) left
cell_taken words mid left lib cell a b = record {
  make = λ more r. a.make (name cell ∷ more) (b.make more r);
  back = λ u more r. b.back u.cell more (a.back u.lib (name u.cell ∷ more) r);
}

pub no_lib : (words : List (List ℕ)) → Lacks (λ (id : List ℕ). name id ∷ []) words → Lacks cell_pieces words
no_lib words n u more s = n u.lib (name u.cell ∷ more) s

pub no_cell : (words mid : List (List ℕ)) (lib : List ℕ) → Takes (λ (id : List ℕ). name id ∷ []) words lib mid → Lacks (λ (id : List ℕ). name id ∷ []) mid → Lacks cell_pieces words
no_cell words mid lib a n u more s = n u.cell more (a.back u.lib (name u.cell ∷ more) s)

-- ---- no words more, or one

pub spells_none : (words : List (List ℕ)) → words ≡ [] → SpellPieces words []
spells_none words e = subst (λ (ws : List (List ℕ)). SpellPieces ws []) (sym e) tt

pub is_none : (words : List (List ℕ)) → SpellPieces words [] → words ≡ []
is_none [] s = refl
is_none (word ∷ words) s = absurd s

pub spells_one : (words : List (List ℕ)) (word : List ℕ) (p : Piece) → words ≡ word ∷ [] → SpellsPiece word p → SpellPieces words (p ∷ [])
spells_one words word p e s = subst (λ (ws : List (List ℕ)). SpellPieces ws (p ∷ [])) (sym e) (s, tt)

pub is_one : (words : List (List ℕ)) (p : Piece) → SpellPieces words (p ∷ []) → (word : List ℕ) × (words ≡ word ∷ []) × SpellsPiece word p
is_one [] p s = absurd s
is_one (word ∷ words) p s = (word, ap (λ rest. word ∷ rest) (is_none words s.1), s.0)

pub not_one : (words : List (List ℕ)) (p : Piece) → ((word : List ℕ) → words ≡ word ∷ [] → ⊥) → SpellPieces words (p ∷ []) → ⊥
not_one words p n s = let found = is_one words p s in n found.0 found.1

pub of_one : (words : List (List ℕ)) (word : List ℕ) (p : Piece) → words ≡ word ∷ [] → SpellPieces words (p ∷ []) → SpellsPiece word p
of_one words word p e s = first_part words word [] p [] e s

-- ---- a word and others

pub spells_more : (words : List (List ℕ)) (word : List ℕ) (left : List (List ℕ)) (p : Piece) (more : List Piece) → words ≡ word ∷ left → SpellsPiece word p → SpellPieces left more
    → SpellPieces words (p ∷ more)
spells_more words word left p more e s r = subst (λ (ws : List (List ℕ)). SpellPieces ws (p ∷ more)) (sym e) (s, r)

pub parts_of : (words : List (List ℕ)) (word : List ℕ) (left : List (List ℕ)) (p : Piece) (more : List Piece) → words ≡ word ∷ left → SpellPieces words (p ∷ more)
    → SpellsPiece word p × SpellPieces left more
parts_of words word left p more e s = subst (λ (ws : List (List ℕ)). SpellPieces ws (p ∷ more)) e s

pub no_word : (words : List (List ℕ)) (p : Piece) (more : List Piece) → words ≡ [] → SpellPieces words (p ∷ more) → ⊥
no_word words p more e s = subst (λ (ws : List (List ℕ)). SpellPieces ws (p ∷ more)) e s

-- words that are not none spell something
pub some_words : (words : List (Bor (List ℕ))) → (length words == 0) ≡ false → ¬ SpellPieces (lent words) []
some_words [] e s = cc (e)
some_words (word ∷ words) e s = s

pub some_left : (words : List (Bor (List ℕ))) → (length words == 0) ≡ false → words ≡ [] → ⊥
some_left words e none = let wrong : true ≡ false = sym (ap (λ (ws : List (Bor (List ℕ))). length ws == 0) none) ∙ e in cc (wrong)

-- a mantissa and more that is no exponent
pub no_num : (words : List (List ℕ)) (word : List ℕ) (others : List (Bor (List ℕ))) → words ≡ word ∷ lent others → (length others == 0) ≡ false
    → ((x : ℤ) → ¬ SpellPieces (lent others) (said (codes "e") ∷ Alone (Exponent x) ∷ [])) → (v : Num) → ¬ SpellPieces words (num_rest v)
no_num words word others e some n (numbers.Int z) s = some_words others some (parts_of words word (lent others) (Alone (Integer z)) [] e s).1
no_num words word others e some n (numbers.Scaled m x) s = n x (parts_of words word (lent others) (Alone (Integer m)) (said (codes "e") ∷ Alone (Exponent x) ∷ []) e s).1
