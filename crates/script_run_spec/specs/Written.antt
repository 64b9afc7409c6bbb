-- The report of a history, over the texts of the transcripts.
use Rattle.std.specs.Prelude.{ℕ, ◌+◌, List, [], ◌∷◌, ◌++◌, codes, decimal}
use Rattle.netlist_schema.specs.Design.{Design}
use Rattle.edif_spec.specs.Arranged.{canonical_text}
use Rattle.db_spec.specs.declared.event.Event.{Event}
use Rattle.script_spec.specs.Texts.{line, event_texts}

-- `script K` and a transcript
abbrev pub numbered_text : ℕ → List ℕ → List ℕ
numbered_text k text = line (codes "script" ∷ decimal k ∷ []) ++ text

-- each transcript with its number, from this number on
abbrev pub numbered_texts : ℕ → List (List ℕ) → List ℕ
numbered_texts k [] = []
numbered_texts k (text ∷ texts) = numbered_text k text ++ numbered_texts (k + 1) texts

-- `history` and the events, the transcripts in order, and `design`; the design tells the names of what conflicts
abbrev pub report_lines : Design → List Event → List (List ℕ) → List ℕ
report_lines d history texts = line (codes "history" ∷ []) ++ event_texts d 0 history ++ numbered_texts 0 texts ++ line (codes "design" ∷ [])

-- these, and the canonical text of the design
abbrev pub written_report : Design → List Event → List (List ℕ) → List ℕ
written_report d history texts = report_lines d history texts ++ canonical_text d
