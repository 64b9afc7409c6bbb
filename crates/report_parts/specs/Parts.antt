-- What a printed report goes on with: the head of an event, or what stands behind the events.
use Rattle.std.specs.Prelude.{◌≡◌, ◌<◌, ℕ, List, [], ◌∷◌, ◌++◌, codes, decimal}
use Rattle.netlist_schema.specs.Design.{Design}
use Rattle.edif_spec.specs.Arranged.{canonical_text}
use Rattle.script_spec.specs.Texts.{line}
use Rattle.script_run_spec.specs.Written.{numbered_texts}
use Rattle.history_check_spec.specs.Heads.{begins_with_r, head_text}
use Rattle.report_parts.specs.declared.heads.Next.{Next}

-- ---- who calls next

-- the text goes on with an event of this caller, which is a release or not
pub record Heads (text : List ℕ) (number callers : ℕ) (next : Next) : Type 0 where
  pub known : next.caller < callers
  pub more : List ℕ
  pub head : text ≡ head_text number next.caller more
  pub release : next.release ≡ begins_with_r more

-- the text goes on with a call of this caller
pub record CallOf (text : List ℕ) (caller : ℕ) (next : Next) : Type 0 where
  pub caller_is : next.caller ≡ caller
  pub more : List ℕ
  pub call : text ≡ decimal caller ++ 32 ∷ more
  pub release : next.release ≡ begins_with_r more

-- it goes on with no event of the callers
abbrev pub HeadsNone : List ℕ → ℕ → ℕ → Type 0
HeadsNone text number callers = (caller : ℕ) (more : List ℕ) → caller < callers → ¬ (text ≡ head_text number caller more)

-- ---- behind the events

-- the transcripts under their numbers, and the design
abbrev pub rest_text : Design → List (List ℕ) → List ℕ
rest_text d texts = numbered_texts 0 texts ++ (line (codes "design" ∷ []) ++ canonical_text d)
