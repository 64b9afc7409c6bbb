-- What the code writes, one after another.
use Rattle.std.specs.Prelude.{ℕ, List, ◌∷◌, ◌++◌, map, codes}
use Rattle.std.specs.List.{flat_map}
use Rattle.edit_rules_spec.specs.declared.reply.EndName.{EndName}
use Rattle.edit_spec.specs.declared.ops.Op.{Op}
use Rattle.script_spec.specs.Lines.{op_pieces}
use Rattle.script_spec.specs.Pieces.{Piece, piece_text}
use Rattle.script_spec.specs.Texts.{end_words}

-- each word behind a blank
abbrev pub behind_blanks : List (List ℕ) → List ℕ
behind_blanks words = flat_map (λ word. codes " " ++ word) words

-- each word behind a mark
abbrev pub behind : ℕ → List (List ℕ) → List ℕ
behind mark words = flat_map (λ word. mark ∷ word) words

-- pieces as words, each behind a blank
abbrev pub behind_pieces : List Piece → List ℕ
behind_pieces pieces = behind_blanks (map piece_text pieces)

-- the words of an operation
abbrev pub op_words : Op → List (List ℕ)
op_words op = map piece_text (op_pieces op)

-- ends, each behind `;`
abbrev pub more_ends : List EndName → List ℕ
more_ends ends = flat_map (λ end. codes ";" ++ behind_blanks (end_words end)) ends
