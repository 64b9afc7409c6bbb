-- What a report goes on with: an event, or what stands behind the events.
use Rattle.std.specs.Prelude.{ℕ, ◌==◌, Bool, false, List, [], ◌∷◌, ◌++◌, codes, decimal}
use Rattle.netlist_schema.specs.Design.{Design}
use Rattle.edif_spec.specs.Arranged.{canonical_text}
use Rattle.db_spec.specs.declared.event.Event.{Event}
use Rattle.script_spec.specs.Report.{SessionResult, head_design, script_texts}
use Rattle.script_spec.specs.Texts.{line}

-- the number of an event, `caller` and its caller, each with a blank behind it
abbrev pub head_text : ℕ → ℕ → List ℕ → List ℕ
head_text number caller more = decimal number ++ 32 ∷ (codes "caller" ++ 32 ∷ (decimal caller ++ 32 ∷ more))

-- whether a text begins with the first letter of `release`, with which no other call begins
abbrev pub begins_with_r : List ℕ → Bool
begins_with_r [] = false
begins_with_r (b ∷ bytes) = b == 114

-- the transcripts and the last version
abbrev pub behind_events : Design → List Event → List SessionResult → List ℕ
behind_events d history results = script_texts d history 0 results ++ line (codes "design" ∷ []) ++ canonical_text (head_design d history)
