-- Words of several parts.
use Rattle.std.proofs.Common.{◌≡◌, ◌∙◌, ℕ, ◌+◌, ◌<◌, ◌≤◌, drop, get_or, append_assoc, append-nil, List, [], ◌∷◌, ◌++◌, map, length, None, Some, Ok, Err, refl, sym, ap, subst, arith, eqb, Bor}
use Rattle.std.specs.Prelude.{Option, Result}
use Rattle.std.specs.List.{join_with_byte, slice_split}
use Rattle.std.proofs.lemmas.List.{drop_all, drop_more}
use Rattle.std.proofs.lemmas.List.Splits.{join_with_byte-slice_split, length-slice_split}
use Rattle.netlist_schema.specs.Ident.{IsIdentifier}
use Rattle.edit_spec.specs.declared.ops.PortDecl.{PortDecl}
use Rattle.script_spec.specs.Lines.{path_piece, port_piece, width_atoms}
use Rattle.script_spec.specs.Pieces.{Atom, Named, Number, Joined, Piece, joined, SpellAtoms, SpellPieces, SpellsAtom, SpellsPiece}
use Rattle.script_spec.proofs.OneStep.{names_free, port_free}
use Rattle.script_spec.proofs.Spelled.{AtomsAreFree, parts_spelled}
use Rattle.script_ops.specs.Pieces.{AreNames, port_atoms}
use Rattle.script_words.specs.Reading.{lent, Reads}
use Rattle.script_words.specs.declared.unread.Unread.{Unread}

same_join : (mark : ℕ) (words : List (List ℕ)) → joined mark words ≡ join_with_byte mark words
same_join mark [] = refl
same_join mark (word ∷ []) = refl
same_join mark (word ∷ next ∷ words) = ap (λ rest. word ++ mark ∷ rest) (same_join mark (next ∷ words))

piece_from : (mark : ℕ) (word : List ℕ) (parts : List (List ℕ)) (atoms : List Atom) → parts ≡ slice_split (λ b. eqb b mark) word → SpellAtoms parts atoms → SpellsPiece word (Joined mark atoms)
piece_from mark word parts atoms e s =
    let many : length parts ≡ length (slice_split (λ b. eqb b mark) word) = ap length e in
    (parts, sym (same_join mark parts ∙ ap (join_with_byte mark) e ∙ join_with_byte-slice_split mark word), omega (arith, many, length-slice_split (λ b. eqb b mark) word), s)

piece_parts : (mark : ℕ) (word : List ℕ) (parts : List (List ℕ)) (atoms : List Atom) → parts ≡ slice_split (λ b. eqb b mark) word → AtomsAreFree mark atoms → SpellsPiece word (Joined mark atoms)
    → SpellAtoms parts atoms
piece_parts mark word parts atoms e free s = subst (λ (ws : List (List ℕ)). SpellAtoms ws atoms) (sym e) (parts_spelled mark word atoms free s)

-- ---- ports

pub port_read : (word : List ℕ) (parts : List (List ℕ)) → parts ≡ slice_split (λ b. eqb b 58) word → (r : Result PortDecl Unread)
    → Reads (λ (decl : PortDecl). SpellAtoms parts (port_atoms decl)) r → Reads (λ (decl : PortDecl). SpellsPiece word (port_piece decl)) r
port_read word parts e (Ok decl) s = piece_from 58 word parts (port_atoms decl) e s
port_read word parts e (Err x) n = λ b decl s. n b decl (piece_parts 58 word parts (port_atoms decl) e (port_free decl) s)

-- more than one part is no width
pub no_width : (parts : List (Bor (List ℕ))) (word : Bor (List ℕ)) (others : List (Bor (List ℕ))) → parts ≡ word ∷ others → (others ≡ [] → ⊥) → (width : Option ℕ)
    → SpellAtoms (lent parts) (width_atoms width) → ⊥
no_width parts word others e some None s = subst (λ (ps : List (Bor (List ℕ))). SpellAtoms (lent ps) []) e s
no_width parts word others e some (Some width) s =
    let parts' : SpellsAtom word.now (Number 1 65536 width) × SpellAtoms (lent others) [] = subst (λ (ps : List (Bor (List ℕ))). SpellAtoms (lent ps) (width_atoms (Some width))) e s in
    some (is_last others parts'.1)
  where
    is_last : (ps : List (Bor (List ℕ))) → SpellAtoms (lent ps) [] → ps ≡ []
    is_last [] t = refl
    is_last (p ∷ ps) t = absurd t

-- ---- paths

names_spell : (words : List (List ℕ)) → AreNames words → SpellAtoms words (map Named words)
names_spell [] a = tt
names_spell (word ∷ words) a = ((refl, a.0), names_spell words a.1)

spelled_names : (words path : List (List ℕ)) → SpellAtoms words (map Named path) → AreNames words
spelled_names [] [] s = tt
spelled_names [] (id ∷ path) s = absurd s
spelled_names (word ∷ words) [] s = absurd s
spelled_names (word ∷ words) (id ∷ path) s = (subst (λ (w : List ℕ). IsIdentifier w) (sym s.0.0) s.0.1, spelled_names words path s.1)

pub path_read : (word : List ℕ) (parts path : List (List ℕ)) → parts ≡ slice_split (λ b. eqb b 47) word → path ≡ parts → AreNames parts → SpellsPiece word (path_piece path)
path_read word parts path e same a = subst (λ (p : List (List ℕ)). SpellsPiece word (path_piece p)) (sym same) (piece_from 47 word parts (map Named parts) e (names_spell parts a))

pub no_path : (word : List ℕ) (parts : List (List ℕ)) → parts ≡ slice_split (λ b. eqb b 47) word → ¬ AreNames parts → (path : List (List ℕ)) → ¬ SpellsPiece word (path_piece path)
no_path word parts e n path s = n (spelled_names parts path (piece_parts 47 word parts (map Named path) e (names_free 47 path refl) s))

-- ---- ports, one a word

abbrev pub Makes : List (Bor (List ℕ)) → ℕ → List PortDecl → Type 0
Makes words i decls = (more : List PortDecl) → SpellPieces (lent (drop i words)) (map port_piece more) → SpellPieces (lent words) (map port_piece (decls ++ more))

abbrev pub Leaves : List (Bor (List ℕ)) → ℕ → Type 0
Leaves words i = (decls : List PortDecl) → SpellPieces (lent words) (map port_piece decls) → (more : List PortDecl) × SpellPieces (lent (drop i words)) (map port_piece more)

at_word : (words : List (Bor (List ℕ))) (i : ℕ) (d : Bor (List ℕ)) (pieces : List Piece) → i < length words → SpellPieces ((get_or words i d).now ∷ lent (drop (i + 1) words)) pieces → SpellPieces (lent (drop i words)) pieces
at_word words i d pieces low s = subst (λ (ws : List (Bor (List ℕ))). SpellPieces (lent ws) pieces) (sym (drop_more words i d low)) s

of_word : (words : List (Bor (List ℕ))) (i : ℕ) (d : Bor (List ℕ)) (pieces : List Piece) → i < length words → SpellPieces (lent (drop i words)) pieces → SpellPieces ((get_or words i d).now ∷ lent (drop (i + 1) words)) pieces
of_word words i d pieces low s = subst (λ (ws : List (Bor (List ℕ))). SpellPieces (lent ws) pieces) (drop_more words i d low) s

pub makes_more : (words : List (Bor (List ℕ))) (i : ℕ) (d : Bor (List ℕ)) (decls new : List PortDecl) (decl : PortDecl) → i < length words → new ≡ decls ++ decl ∷ [] → SpellsPiece (get_or words i d).now (port_piece decl)
    → Makes words i decls → Makes words (i + 1) new
makes_more words i d decls new decl low e p m more s =
    let whole : decls ++ (decl ∷ more) ≡ new ++ more = sym (append_assoc decls (decl ∷ []) more) ∙ ap (λ ds. ds ++ more) (sym e) in
    subst (λ (ds : List PortDecl). SpellPieces (lent words) (map port_piece ds)) whole (m (decl ∷ more) (at_word words i d (map port_piece (decl ∷ more)) low (p, s)))

pub leaves_more : (words : List (Bor (List ℕ))) (i : ℕ) (d : Bor (List ℕ)) → i < length words → Leaves words i → Leaves words (i + 1)
leaves_more words i d low l decls s = let rest = l decls s in next rest.0 (of_word words i d (map port_piece rest.0) low rest.1)
  where
    next : (more : List PortDecl) → SpellPieces ((get_or words i d).now ∷ lent (drop (i + 1) words)) (map port_piece more) → (others : List PortDecl) × SpellPieces (lent (drop (i + 1) words)) (map port_piece others)
    next [] t = absurd t
    next (decl ∷ more) t = (more, t.1)

pub no_port : (words : List (Bor (List ℕ))) (i : ℕ) (d : Bor (List ℕ)) → i < length words → Leaves words i → ((decl : PortDecl) → ¬ SpellsPiece (get_or words i d).now (port_piece decl))
    → (decls : List PortDecl) → ¬ SpellPieces (lent words) (map port_piece decls)
no_port words i d low l n decls s = let rest = l decls s in never rest.0 (of_word words i d (map port_piece rest.0) low rest.1)
  where
    never : (more : List PortDecl) → SpellPieces ((get_or words i d).now ∷ lent (drop (i + 1) words)) (map port_piece more) → ⊥
    never [] t = t
    never (decl ∷ more) t = n decl t.0

pub all_made : (words : List (Bor (List ℕ))) (i : ℕ) (decls row : List PortDecl) → length words ≤ i → row ≡ decls → Makes words i decls → SpellPieces (lent words) (map port_piece row)
all_made words i decls row past e m =
    let none : drop i words ≡ [] = drop_all i words past in
    subst (λ (ds : List PortDecl). SpellPieces (lent words) (map port_piece ds)) (append-nil decls ∙ sym e) (m [] (subst (λ (ws : List (Bor (List ℕ))). SpellPieces (lent ws) []) (sym none) tt))
