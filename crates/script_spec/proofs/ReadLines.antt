-- The canonical line of an operation says it.
use Rattle.std.proofs.Common.{◌≡◌, ◌∙◌, ℕ, suc, ◌^◌, ◌<◌, ◌≤◌, ℤ, pos, negsuc, List, [], ◌∷◌, ◌++◌, Option, None, Some, Bool, true, false, not, length, map, inl, inr, refl, ap, sym, subst, arith, append_assoc, append-nil}
use Rattle.std.specs.Prelude.{◌⊎◌, FitsSigned, codes, decimal}
use Rattle.std.specs.Fmt.{signed_decimal}
use Rattle.std.specs.Int.{w64}
use Rattle.std.specs.List.{All, list_all}
use Rattle.std.specs.Str.{all_ascii_digits}
use Rattle.std.proofs.lemmas.Bool.{and_parts, and_from}
use Rattle.std.proofs.lemmas.Fmt.{decimal_is_IsNumeral}
use Rattle.std.proofs.lemmas.List.{map-append}
use Rattle.std.proofs.lemmas.List.Elements.{All-head, All-tail}
use Rattle.std.proofs.lemmas.List.Folds.{list_all-append}
use Rattle.std.proofs.lemmas.Str.Parse.{tells_all_ascii_digits}
use Rattle.netlist_schema.specs.Ident.{IsIdentifier, is_identifier_byte}
use Rattle.netlist_schema.specs.Types.{Direction, Value}
use Rattle.netlist_schema.specs.declared.cell.Direction.TheVariants as directions
use Rattle.netlist_schema.specs.declared.property.Num.TheVariants as numbers
use Rattle.netlist_schema.specs.declared.property.Value.TheVariants as values
use Rattle.edif_spelling_spec.specs.Names.{is_empty}
use Rattle.edif_spelling_spec.proofs.IntegerLemmas.{digits_test}
use Rattle.edif_spelling_spec.proofs.RowLemmas.{is_name-from_identifier}
use Rattle.edif_spec.specs.Canonical.{plain_text, string_text}
use Rattle.edif_spec.proofs.StringLemmas.{string_spelled}
use Rattle.edif_spec.proofs.Fine.{wide}
use Rattle.edif_spec.proofs.Layouts.{integer_spelled}
use Rattle.edit_spec.specs.declared.ops.Op.{Op}
use Rattle.edit_spec.specs.declared.ops.Op.TheVariants as op
use Rattle.edit_spec.specs.declared.ops.PortDecl.{PortDecl}
use Rattle.edit_spec.specs.declared.ops.Target.TheVariants as targets
use Rattle.flat_lines_spec.specs.Lines.{spaced}
use Rattle.script_spec.specs.Laws.{LinesAreRead, LinesDiffer}
use Rattle.script_spec.specs.Lines.{direction_word, inst_piece, leaf_word, name, op_pieces, op_text, path_piece, port_piece, said, value_pieces, width_atoms}
use Rattle.script_spec.specs.Pieces.{Atom, Said, Named, Number, Integer, Exponent, Quoted, Piece, Alone, Joined, IsSayableAtom, IsSayablePiece, SpellAtoms, SpellPieces, SpellsAtom, SpellsPiece, atom_text, joined, piece_text}
use Rattle.script_spec.specs.ScriptText.{Says, words}
use Rattle.script_spec.specs.declared.script.Step.TheVariants.{Run}
use Rattle.script_spec.proofs.OneStep.{one_step}
use Rattle.script_spec.proofs.Words.{AreBare, are_bare, bare_words, is_bare, is_bare_byte, string_words, trimmed_end}

-- ---- what can be said is spelled by its text

atom_spelled : (atom : Atom) → IsSayableAtom atom → SpellsAtom (atom_text atom) atom
atom_spelled (Said word) s = refl
atom_spelled (Named id) s = (refl, s)
atom_spelled (Number least most n) s = let d = decimal_is_IsNumeral n s.2 in (d.0, sym d.1, s.0, s.1)
atom_spelled (Integer z) s = integer_spelled z s
atom_spelled (Exponent z) s = (integer_spelled z (wide z s), s)
atom_spelled (Quoted text) s = string_spelled text s

atoms_spelled : (atoms : List Atom) → All IsSayableAtom atoms → SpellAtoms (map atom_text atoms) atoms
atoms_spelled [] s = tt
atoms_spelled (a ∷ atoms) s = (atom_spelled a (All-head IsSayableAtom a atoms s), atoms_spelled atoms (All-tail IsSayableAtom a atoms s))

some_texts : (atoms : List Atom) → 0 < length atoms → 0 < length (map atom_text atoms)
some_texts [] s = s
some_texts (a ∷ atoms) s = omega arith

piece_spelled : (piece : Piece) → IsSayablePiece piece → SpellsPiece (piece_text piece) piece
piece_spelled (Alone atom) s = atom_spelled atom s
piece_spelled (Joined mark atoms) s = (map atom_text atoms, refl, some_texts atoms s.0, atoms_spelled atoms s.1)

pieces_spelled : (pieces : List Piece) → All IsSayablePiece pieces → SpellPieces (map piece_text pieces) pieces
pieces_spelled [] s = tt
pieces_spelled (p ∷ pieces) s = (piece_spelled p (All-head IsSayablePiece p pieces s), pieces_spelled pieces (All-tail IsSayablePiece p pieces s))

-- ---- texts of pieces are words without blanks and quotes

abbrev FineAtom : Atom → Type 0
FineAtom (Said word) = is_bare word ≡ true
FineAtom (Quoted text) = ⊥
FineAtom atom = Unit {0}

abbrev FineAtoms : List Atom → Type 0
FineAtoms [] = Unit {0}
FineAtoms (atom ∷ atoms) = FineAtom atom × FineAtoms atoms

abbrev FinePiece : Piece → Type 0
FinePiece (Alone atom) = FineAtom atom
FinePiece (Joined mark atoms) = (is_bare_byte mark ≡ true) × FineAtoms atoms

abbrev FinePieces : List Piece → Type 0
FinePieces [] = Unit {0}
FinePieces (piece ∷ pieces) = FinePiece piece × FinePieces pieces

name_byte : (b : ℕ) → is_identifier_byte b ≡ true → is_bare_byte b ≡ true
name_byte b e = grind arith

name_bytes : (id : List ℕ) → list_all is_identifier_byte id ≡ true → are_bare id ≡ true
name_bytes [] e = refl
name_bytes (b ∷ id) e = let p = and_parts (is_identifier_byte b) (list_all is_identifier_byte id) e in and_from (is_bare_byte b) (are_bare id) (name_byte b p.0) (name_bytes id p.1)

name_bare : (id : List ℕ) → IsIdentifier id → is_bare id ≡ true
name_bare id i =
    let p = and_parts (not (is_empty id)) (list_all is_identifier_byte id) (is_name-from_identifier id i) in
    and_from (not (is_empty id)) (are_bare id) p.0 (name_bytes id p.1)

digit_byte : (b : ℕ) → 48 ≤ b → b ≤ 57 → is_bare_byte b ≡ true
digit_byte b low high = grind arith

digit_bytes : (ds : List ℕ) → all_ascii_digits ds ≡ true → are_bare ds ≡ true
digit_bytes [] e = refl
digit_bytes (b ∷ ds) e = let p = tells_all_ascii_digits.parts b ds e in and_from (is_bare_byte b) (are_bare ds) (digit_byte b p.0.0 p.0.1) (digit_bytes ds p.1)

some_bytes : (bytes : List ℕ) → 0 < length bytes → not (is_empty bytes) ≡ true
some_bytes bytes s = grind arith

decimal_bytes : (n : ℕ) → n < 2 ^ 64 → are_bare (decimal n) ≡ true
decimal_bytes n small = digit_bytes (decimal n) (digits_test (decimal n) (decimal_is_IsNumeral n small).0.1)

decimal_bare : (n : ℕ) → n < 2 ^ 64 → is_bare (decimal n) ≡ true
decimal_bare n small = and_from (not (is_empty (decimal n))) (are_bare (decimal n)) (some_bytes (decimal n) (decimal_is_IsNumeral n small).0.0) (decimal_bytes n small)

signed_bare : (z : ℤ) → FitsSigned w64 z → is_bare (signed_decimal z) ≡ true
signed_bare (pos n) h = let b : n < 2 ^ 63 = h.sfits in decimal_bare n (omega arith)
signed_bare (negsuc n) h =
    let b : n < 2 ^ 63 = h.sfits in
    and_from (not (is_empty (45 ∷ decimal (suc n)))) (are_bare (45 ∷ decimal (suc n))) (some_bytes (45 ∷ decimal (suc n)) (omega arith))
    (and_from (is_bare_byte 45) (are_bare (decimal (suc n))) refl (decimal_bytes (suc n) (omega arith)))

atom_bare : (atom : Atom) → FineAtom atom → IsSayableAtom atom → is_bare (atom_text atom) ≡ true
atom_bare (Said word) f s = f
atom_bare (Named id) f s = name_bare id s
atom_bare (Number least most n) f s = decimal_bare n s.2
atom_bare (Integer z) f s = signed_bare z s
atom_bare (Exponent z) f s = signed_bare z (wide z s)
atom_bare (Quoted text) f s = absurd f

bare_append : (xs ys : List ℕ) → is_bare xs ≡ true → are_bare ys ≡ true → is_bare (xs ++ ys) ≡ true
bare_append [] ys a b = let wrong : false ≡ true = a in absurd (cc (wrong))
bare_append (x ∷ xs) ys a b =
    let p = and_parts (not (is_empty (x ∷ xs))) (are_bare (x ∷ xs)) a in
    and_from (not (is_empty (x ∷ (xs ++ ys)))) (are_bare ((x ∷ xs) ++ ys)) (some_bytes (x ∷ (xs ++ ys)) (omega arith))
    (list_all-append is_bare_byte (x ∷ xs) ys ∙ and_from (are_bare (x ∷ xs)) (are_bare ys) p.1 b)

joined_bare : (mark : ℕ) (atom : Atom) (atoms : List Atom) → is_bare_byte mark ≡ true → FineAtoms (atom ∷ atoms) → All IsSayableAtom (atom ∷ atoms)
    → is_bare (joined mark (map atom_text (atom ∷ atoms))) ≡ true
joined_bare mark atom [] m f s = atom_bare atom f.0 (All-head IsSayableAtom atom [] s)
joined_bare mark atom (next ∷ atoms) m f s =
    let first = atom_bare atom f.0 (All-head IsSayableAtom atom (next ∷ atoms) s) in
    let rest = joined_bare mark next atoms m f.1 (All-tail IsSayableAtom atom (next ∷ atoms) s) in
    let text = joined mark (map atom_text (next ∷ atoms)) in
    bare_append (atom_text atom) (mark ∷ text) first (and_from (is_bare_byte mark) (are_bare text) m (and_parts (not (is_empty text)) (are_bare text) rest).1)

piece_bare : (piece : Piece) → FinePiece piece → IsSayablePiece piece → is_bare (piece_text piece) ≡ true
piece_bare (Alone atom) f s = atom_bare atom f s
piece_bare (Joined mark []) f s = absurd (omega (arith, s.0))
piece_bare (Joined mark (atom ∷ atoms)) f s = joined_bare mark atom atoms f.0 f.1 s.1

front_bare : (pieces rest : List Piece) → FinePieces pieces → All IsSayablePiece (pieces ++ rest) → AreBare (map piece_text pieces)
front_bare [] rest f s = tt
front_bare (p ∷ pieces) rest f s = (piece_bare p f.0 (All-head IsSayablePiece p (pieces ++ rest) s), front_bare pieces rest f.1 (All-tail IsSayablePiece p (pieces ++ rest) s))

-- ---- lines of fine pieces, with a string behind them or not

-- the first piece, and those behind it
abbrev IsLine : Piece → List Piece → Type 0
IsLine p pieces = FinePieces (p ∷ pieces) ⊎ ((more : List Piece) × (text : List ℕ) × (pieces ≡ more ++ Alone (Quoted text) ∷ []) × FinePieces (p ∷ more))

spaced_last : (w : List ℕ) (ws : List (List ℕ)) (last : List ℕ) → spaced ((w ∷ ws) ++ last ∷ []) ≡ spaced (w ∷ ws) ++ 32 ∷ last
spaced_last w [] last = append_assoc w (codes " ") last
spaced_last w (next ∷ ws) last =
    ap (λ text. w ++ codes " " ++ text) (spaced_last next ws last) ∙ sym (append_assoc (w ++ codes " ") (spaced (next ∷ ws)) (32 ∷ last))

line_words : (p : Piece) (pieces : List Piece) → IsLine p pieces → All IsSayablePiece (p ∷ pieces) → words (spaced (map piece_text (p ∷ pieces))) ≡ map piece_text (p ∷ pieces)
line_words p pieces (inl f) s =
    bare_words (piece_text p) (map piece_text pieces) (front_bare (p ∷ pieces) [] f (subst (λ (ps : List Piece). All IsSayablePiece ps) (sym (append-nil (p ∷ pieces))) s))
line_words p pieces (inr l) s =
    let more = l.0 in
    let text = l.1 in
    let whole : map piece_text (p ∷ pieces) ≡ map piece_text (p ∷ more) ++ string_text text ∷ [] =
    ap (λ ps. map piece_text (p ∷ ps)) l.2 ∙ map-append piece_text (p ∷ more) (Alone (Quoted text) ∷ []) in
    let bare = front_bare (p ∷ more) (Alone (Quoted text) ∷ []) l.3 (subst (λ (ps : List Piece). All IsSayablePiece (p ∷ ps)) l.2 s) in
    ap (λ ws. words (spaced ws)) whole
    ∙ ap words (spaced_last (piece_text p) (map piece_text more) (string_text text))
    ∙ string_words (piece_text p) (map piece_text more) (plain_text text ++ 34 ∷ []) bare (trimmed_end (34 ∷ plain_text text) 34 refl)
    ∙ sym whole

fine_words : (pieces : List Piece) → 0 < length pieces → FinePieces pieces → All IsSayablePiece pieces → words (spaced (map piece_text pieces)) ≡ map piece_text pieces
fine_words [] some f s = absurd (omega (arith, some))
fine_words (p ∷ pieces) some f s = line_words p pieces (inl f) s

-- ---- each operation is such a line

fine_append : (xs ys : List Piece) → FinePieces xs → FinePieces ys → FinePieces (xs ++ ys)
fine_append [] ys f g = g
fine_append (x ∷ xs) ys f g = (f.0, fine_append xs ys f.1 g)

value_line : (p : Piece) (front : List Piece) (v : Value) → FinePieces (p ∷ front) → IsLine p (front ++ value_pieces v)
value_line p front (values.Boolean true) f = inl (fine_append (p ∷ front) (value_pieces (values.Boolean true)) f (refl, tt))
value_line p front (values.Boolean false) f = inl (fine_append (p ∷ front) (value_pieces (values.Boolean false)) f (refl, tt))
value_line p front (values.Integer z) f = inl (fine_append (p ∷ front) (value_pieces (values.Integer z)) f (refl, (tt, tt)))
value_line p front (values.Number (numbers.Int z)) f = inl (fine_append (p ∷ front) (value_pieces (values.Number (numbers.Int z))) f (refl, (tt, tt)))
value_line p front (values.Number (numbers.Scaled m x)) f = inl (fine_append (p ∷ front) (value_pieces (values.Number (numbers.Scaled m x))) f (refl, (tt, (refl, (tt, tt)))))
value_line p front (values.Text text) f =
    inr (
      front ++ said (codes "str") ∷ [],
      text,
      sym (append_assoc front (said (codes "str") ∷ []) (Alone (Quoted text) ∷ [])),
      fine_append (p ∷ front) (said (codes "str") ∷ []) f (refl, tt),
    )

leaf_fine : (leaf : Bool) → is_bare (leaf_word leaf) ≡ true
leaf_fine true = refl
leaf_fine false = refl

direction_fine : (direction : Option Direction) → is_bare (direction_word direction) ≡ true
direction_fine None = refl
direction_fine (Some directions.Input) = refl
direction_fine (Some directions.Output) = refl
direction_fine (Some directions.Inout) = refl

width_fine : (width : Option ℕ) → FineAtoms (width_atoms width)
width_fine None = tt
width_fine (Some n) = (tt, tt)

ports_fine : (ports : List PortDecl) → FinePieces (map port_piece ports)
ports_fine [] = tt
ports_fine (p ∷ ports) = ((refl, (tt, (direction_fine p.direction, width_fine p.array))), ports_fine ports)

inst_fine : (inst : Option (List ℕ)) → FinePiece (inst_piece inst)
inst_fine None = refl
inst_fine (Some id) = tt

names_fine : (path : List (List ℕ)) → FineAtoms (map Named path)
names_fine [] = tt
names_fine (id ∷ path) = (tt, names_fine path)

path_fine : (path : List (List ℕ)) → FinePiece (path_piece path)
path_fine path = (refl, names_fine path)

op_words : (o : Op) → All IsSayablePiece (op_pieces o) → words (op_text o) ≡ map piece_text (op_pieces o)
op_words (op.ShowCell cell) s = fine_words (op_pieces (op.ShowCell cell)) (omega arith) (refl, (tt, (tt, tt))) s
op_words (op.ShowNet cell net) s = fine_words (op_pieces (op.ShowNet cell net)) (omega arith) (refl, (tt, (tt, (tt, tt)))) s
op_words (op.ShowInst cell inst) s = fine_words (op_pieces (op.ShowInst cell inst)) (omega arith) (refl, (tt, (tt, (tt, tt)))) s
op_words (op.AddCell cell leaf ports) s = fine_words (op_pieces (op.AddCell cell leaf ports)) (omega arith) (refl, (tt, (tt, (leaf_fine leaf, ports_fine ports)))) s
op_words (op.AddNet cell net) s = fine_words (op_pieces (op.AddNet cell net)) (omega arith) (refl, (tt, (tt, (tt, tt)))) s
op_words (op.DropNet cell net) s = fine_words (op_pieces (op.DropNet cell net)) (omega arith) (refl, (tt, (tt, (tt, tt)))) s
op_words (op.AddInst cell inst of) s = fine_words (op_pieces (op.AddInst cell inst of)) (omega arith) (refl, (tt, (tt, (tt, (tt, (tt, tt)))))) s
op_words (op.DropInst cell inst) s = fine_words (op_pieces (op.DropInst cell inst)) (omega arith) (refl, (tt, (tt, (tt, tt)))) s
op_words (op.Join cell net end) s = fine_words (op_pieces (op.Join cell net end)) (omega arith) (refl, (tt, (tt, (tt, (inst_fine end.inst, (tt, (tt, tt))))))) s
op_words (op.Cut cell end) s = fine_words (op_pieces (op.Cut cell end)) (omega arith) (refl, (tt, (tt, (inst_fine end.inst, (tt, (tt, tt)))))) s
op_words (op.SetProp cell targets.Whole property) s =
    line_words (said (codes "set-prop")) ((name cell.lib ∷ name cell.cell ∷ said (codes "cell") ∷ name property.key.id ∷ []) ++ value_pieces property.value) (value_line (said (codes "set-prop")) (name cell.lib ∷ name cell.cell ∷ said (codes "cell") ∷ name property.key.id ∷ []) property.value (refl, (tt, (tt, (refl, (tt, tt)))))) s
op_words (op.SetProp cell (targets.Inst inst) property) s =
    line_words (said (codes "set-prop")) ((name cell.lib ∷ name cell.cell ∷ said (codes "inst") ∷ name inst ∷ name property.key.id ∷ []) ++ value_pieces property.value) (value_line (said (codes "set-prop")) (name cell.lib ∷ name cell.cell ∷ said (codes "inst") ∷ name inst ∷ name property.key.id ∷ []) property.value (refl, (tt, (tt, (refl, (tt, (tt, tt))))))) s
op_words (op.SetProp cell (targets.Net net) property) s =
    line_words (said (codes "set-prop")) ((name cell.lib ∷ name cell.cell ∷ said (codes "net") ∷ name net ∷ name property.key.id ∷ []) ++ value_pieces property.value) (value_line (said (codes "set-prop")) (name cell.lib ∷ name cell.cell ∷ said (codes "net") ∷ name net ∷ name property.key.id ∷ []) property.value (refl, (tt, (tt, (refl, (tt, (tt, tt))))))) s
op_words (op.SetNote path property) s =
    line_words (said (codes "set-note")) ((path_piece path ∷ name property.key.id ∷ []) ++ value_pieces property.value) (value_line (said (codes "set-note")) (path_piece path ∷ name property.key.id ∷ []) property.value (refl, (path_fine path, (tt, tt)))) s
op_words (op.DropNote path key) s = fine_words (op_pieces (op.DropNote path key)) (omega arith) (refl, (path_fine path, (tt, tt))) s
op_words op.Uniquify s = fine_words (op_pieces op.Uniquify) (omega arith) (refl, tt) s
op_words (op.UniquePath path) s = fine_words (op_pieces (op.UniquePath path)) (omega arith) (refl, (path_fine path, tt)) s
op_words (op.Ungroup cell inst) s = fine_words (op_pieces (op.Ungroup cell inst)) (omega arith) (refl, (tt, (tt, (tt, tt)))) s

pub lines_are_read : LinesAreRead
lines_are_read o s = (subst (λ (ws : List (List ℕ)). SpellPieces ws (op_pieces o)) (sym (op_words o s.pieces)) (pieces_spelled (op_pieces o) s.pieces), s.plain)

pub lines_differ : LinesDiffer
lines_differ a b s t e =
    let same : Run a ≡ Run b = one_step (op_text a) (Run a) (Run b) (lines_are_read a s) (subst (λ (line : List ℕ). Says line (Run b)) (sym e) (lines_are_read b t)) in cc (same)
