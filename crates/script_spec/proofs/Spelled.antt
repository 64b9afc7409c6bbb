-- Words spell one thing: what pieces of one shape share where the same words spell them.
use Rattle.std.proofs.Common.{◌≡◌, ◌∙◌, ℕ, ◌<◌, ◌≤◌, ℤ, List, [], ◌∷◌, Bool, true, false, length, Ok, inl, inr, refl, ap, sym, subst, arith, eqb, ◌≢◌}
use Rattle.std.specs.Prelude.{◌⊎◌}
use Rattle.std.proofs.lemmas.Bool.{eq-eqb}
use Rattle.std.proofs.lemmas.Bool.Decides.{eqb_tells}
use Rattle.std.proofs.lemmas.List.Elements.{All-from_recursion}
use Rattle.std.proofs.lemmas.Str.Parse.{tells_all_ascii_digits}
use Rattle.std.specs.List.{All, AllByRecursion, slice_split}
use Rattle.std.specs.Char.{is_ascii_digit}
use Rattle.std.specs.Str.{all_ascii_digits}
use Rattle.std.proofs.lemmas.List.Splits.{slice_split_at, slice_split_none}
use Rattle.netlist_schema.specs.Ident.{IsIdentifier, is_identifier_byte}
use Rattle.edif_spelling_spec.specs.Grammar.{SpellsInteger, SpellsString}
use Rattle.edif_spelling_spec.specs.Lexing.{Lexed}
use Rattle.edif_spelling_spec.specs.declared.token.Token.{Token}
use Rattle.edif_spelling_spec.specs.declared.token.TokenKind.TheVariants as kinds
use Rattle.edif_spelling_spec.proofs.RowLemmas.{integer_word, lexed_spelled}
use Rattle.edif_spelling_spec.proofs.IntegerLemmas.{digits_test}
use Rattle.script_spec.specs.Pieces.{Atom, Said, Named, Number, Integer, Exponent, Quoted, Piece, Alone, Joined, joined, SpellAtoms, SpellPieces, SpellsAtom, SpellsPiece}

-- ---- integers and strings

pub one_integer : (word : List ℕ) (a b : ℤ) → SpellsInteger word a → SpellsInteger word b → a ≡ b
one_integer word a b p q =
    let same : Ok (kinds.Integer a) ≡ Ok (kinds.Integer b) = sym (integer_word word a p).meant ∙ (integer_word word b q).meant in cc (same)

pub one_string : (word a b : List ℕ) → SpellsString word a → SpellsString word b → a ≡ b
one_string word a b p q =
    let one = lexed_spelled 0 word [] (kinds.String a) p tt in
    let two = lexed_spelled 0 word [] (kinds.String b) q tt in
    let tokens : record { kind = kinds.String a; place = 0 } ∷ _ ≡ record { kind = kinds.String b; place = 0 } ∷ _ = ap (λ (l : Lexed). l.tokens) (sym one ∙ two) in
    let firsts : record { kind = kinds.String a; place = 0 } ≡ record { kind = kinds.String b; place = 0 } = cc (tokens) in
    let same : kinds.String a ≡ kinds.String b = ap (λ (t : Token). t.kind) firsts in cc (same)

-- ---- words that a mark joins

-- the mark stands in no such word
abbrev pub IsFree : ℕ → List ℕ → Type 0
IsFree mark word = All (λ b. eqb b mark ≡ false) word

abbrev AreFree : ℕ → List (List ℕ) → Type 0
AreFree mark [] = Unit {0}
AreFree mark (word ∷ words) = IsFree mark word × AreFree mark words

apart : (mark : ℕ) (words : List (List ℕ)) → 0 < length words → AreFree mark words → slice_split (λ b. eqb b mark) (joined mark words) ≡ words
apart mark [] some free = absurd (omega (arith, some))
apart mark (word ∷ []) some free = slice_split_none (λ b. eqb b mark) word free.0
apart mark (word ∷ next ∷ words) some free =
    slice_split_at (λ b. eqb b mark) word mark (joined mark (next ∷ words)) free.0 (eq-eqb mark mark refl)
    ∙ ap (λ rest. word ∷ rest) (apart mark (next ∷ words) (omega arith) free.1)

-- ---- what is shared

abbrev pub SameAtom : Atom → Atom → Type 0
SameAtom (Said a) (Said b) = a ≡ b
SameAtom (Named a) (Named b) = a ≡ b
SameAtom (Number l m a) (Number k n b) = a ≡ b
SameAtom (Integer a) (Integer b) = a ≡ b
SameAtom (Exponent a) (Exponent b) = a ≡ b
SameAtom (Quoted a) (Quoted b) = a ≡ b
SameAtom (Said a) (Named b) = (a ≡ b) × IsIdentifier b
SameAtom (Named a) (Said b) = (b ≡ a) × IsIdentifier a
SameAtom a b = Unit {0}

abbrev pub SameAtoms : List Atom → List Atom → Type 0
SameAtoms [] [] = Unit {0}
SameAtoms (a ∷ xs) (b ∷ ys) = SameAtom a b × SameAtoms xs ys
SameAtoms xs ys = ⊥

-- the mark stands in no spelling of the atom
abbrev pub AtomIsFree : ℕ → Atom → Type 0
AtomIsFree mark (Said word) = IsFree mark word
AtomIsFree mark (Named id) = is_identifier_byte mark ≡ false
AtomIsFree mark (Number least most n) = is_ascii_digit mark ≡ false
AtomIsFree mark atom = ⊥

abbrev pub AtomsAreFree : ℕ → List Atom → Type 0
AtomsAreFree mark [] = Unit {0}
AtomsAreFree mark (atom ∷ atoms) = AtomIsFree mark atom × AtomsAreFree mark atoms

abbrev pub SamePiece : Piece → Piece → Type 0
SamePiece (Alone a) (Alone b) = SameAtom a b
SamePiece (Joined m xs) (Joined n ys) = m ≡ n → AtomsAreFree m xs → AtomsAreFree n ys → SameAtoms xs ys
SamePiece a b = Unit {0}

abbrev pub SamePieces : List Piece → List Piece → Type 0
SamePieces [] [] = Unit {0}
SamePieces (a ∷ xs) (b ∷ ys) = SamePiece a b × SamePieces xs ys
SamePieces xs ys = ⊥

same_atom : (word : List ℕ) (a b : Atom) → SpellsAtom word a → SpellsAtom word b → SameAtom a b
same_atom word (Said a) (Said b) p q = sym p ∙ q
same_atom word (Named a) (Named b) p q = sym p.0 ∙ q.0
same_atom word (Number l m a) (Number k n b) p q = p.1 ∙ sym q.1
same_atom word (Integer a) (Integer b) p q = one_integer word a b p q
same_atom word (Exponent a) (Exponent b) p q = one_integer word a b p.0 q.0
same_atom word (Quoted a) (Quoted b) p q = one_string word a b p q
same_atom word (Said a) (Named b) p q = (sym p ∙ q.0, q.1)
same_atom word (Named a) (Said b) p q = (sym q ∙ p.0, p.1)
same_atom word a b p q = tt

same_atoms : (words : List (List ℕ)) (xs ys : List Atom) → SpellAtoms words xs → SpellAtoms words ys → SameAtoms xs ys
same_atoms [] [] [] p q = tt
same_atoms (w ∷ words) (a ∷ xs) (b ∷ ys) p q = (same_atom w a b p.0 q.0, same_atoms words xs ys p.1 q.1)
same_atoms [] [] (b ∷ ys) p q = absurd q
same_atoms [] (a ∷ xs) ys p q = absurd p
same_atoms (w ∷ words) [] ys p q = absurd p
same_atoms (w ∷ words) (a ∷ xs) [] p q = absurd q

-- a byte that passes is no mark that does not
other : (pass : ℕ → Bool) (mark b : ℕ) → pass mark ≡ false → pass b ≡ true → eqb b mark ≡ false
other pass mark b m i = decide (eqb_tells b mark)
  where
    decide : ((eqb b mark ≡ true) × (b ≡ mark)) ⊎ ((eqb b mark ≡ false) × (b ≢ mark)) → eqb b mark ≡ false
    decide (inl e) = let wrong : true ≡ false = sym i ∙ ap pass e.1 ∙ m in absurd (cc (wrong))
    decide (inr e) = e.0

digit_test : (c : ℕ) → 48 ≤ c → c ≤ 57 → is_ascii_digit c ≡ true
digit_test c low high = grind arith

digits_free : (mark : ℕ) (digits : List ℕ) → is_ascii_digit mark ≡ false → all_ascii_digits digits ≡ true → AllByRecursion (λ b. eqb b mark ≡ false) digits
digits_free mark [] m all = tt
digits_free mark (c ∷ cs) m all = let p = tells_all_ascii_digits.parts c cs all in (other is_ascii_digit mark c m (digit_test c p.0.0 p.0.1), digits_free mark cs m p.1)

spelled_free : (mark : ℕ) (word : List ℕ) (atom : Atom) → AtomIsFree mark atom → SpellsAtom word atom → IsFree mark word
spelled_free mark word (Said said) f p = subst (λ w. IsFree mark w) (sym p) f
spelled_free mark word (Named id) f p = subst (λ w. IsFree mark w) (sym p.0) (λ k d lt. other is_identifier_byte mark _ f (p.1.1 k d lt))
spelled_free mark word (Number least most n) f p =
    All-from_recursion (λ b. eqb b mark ≡ false) word (digits_free mark word f (digits_test word p.0.1))
spelled_free mark word (Integer z) f p = absurd f
spelled_free mark word (Exponent z) f p = absurd f
spelled_free mark word (Quoted text) f p = absurd f

spelled_free_all : (mark : ℕ) (words : List (List ℕ)) (atoms : List Atom) → AtomsAreFree mark atoms → SpellAtoms words atoms → AreFree mark words
spelled_free_all mark [] [] f p = tt
spelled_free_all mark (w ∷ words) (a ∷ atoms) f p = (spelled_free mark w a f.0 p.0, spelled_free_all mark words atoms f.1 p.1)
spelled_free_all mark [] (a ∷ atoms) f p = absurd p
spelled_free_all mark (w ∷ words) [] f p = absurd p

-- the parts of a word between marks spell the atoms that the word spells
pub parts_spelled : (mark : ℕ) (word : List ℕ) (atoms : List Atom) → AtomsAreFree mark atoms → SpellsPiece word (Joined mark atoms) → SpellAtoms (slice_split (λ b. eqb b mark) word) atoms
parts_spelled mark word atoms free p =
    let parts : slice_split (λ b. eqb b mark) word ≡ p.0 = ap (λ w. slice_split (λ b. eqb b mark) w) p.1 ∙ apart mark p.0 p.2 (spelled_free_all mark p.0 atoms free p.3) in
    subst (λ (ws : List (List ℕ)). SpellAtoms ws atoms) (sym parts) p.3

same_piece : (word : List ℕ) (a b : Piece) → SpellsPiece word a → SpellsPiece word b → SamePiece a b
same_piece word (Alone a) (Alone b) p q = same_atom word a b p q
same_piece word (Joined m xs) (Joined n ys) p q = λ mark fa fb.
    let fb' : AtomsAreFree m ys = subst (λ (k : ℕ). AtomsAreFree k ys) (sym mark) fb in
    let joined' : word ≡ joined m q.0 = q.1 ∙ ap (λ (k : ℕ). joined k q.0) (sym mark) in
    let first : slice_split (λ b. eqb b m) word ≡ p.0 = ap (λ w. slice_split (λ b. eqb b m) w) p.1 ∙ apart m p.0 p.2 (spelled_free_all m p.0 xs fa p.3) in
    let second : slice_split (λ b. eqb b m) word ≡ q.0 = ap (λ w. slice_split (λ b. eqb b m) w) joined' ∙ apart m q.0 q.2 (spelled_free_all m q.0 ys fb' q.3) in
    same_atoms p.0 xs ys p.3 (subst (λ (ws : List (List ℕ)). SpellAtoms ws ys) (sym second ∙ first) q.3)
same_piece word a b p q = tt

pub same_pieces : (words : List (List ℕ)) (xs ys : List Piece) → SpellPieces words xs → SpellPieces words ys → SamePieces xs ys
same_pieces [] [] [] p q = tt
same_pieces (w ∷ words) (a ∷ xs) (b ∷ ys) p q = (same_piece w a b p.0 q.0, same_pieces words xs ys p.1 q.1)
same_pieces [] [] (b ∷ ys) p q = absurd q
same_pieces [] (a ∷ xs) ys p q = absurd p
same_pieces (w ∷ words) [] ys p q = absurd p
same_pieces (w ∷ words) (a ∷ xs) [] p q = absurd q
