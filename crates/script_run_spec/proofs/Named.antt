-- What a design names keeps its name in each later one.
use Rattle.std.proofs.Common.{◌≡◌, ℕ, ◌-◌, ◌≤◌, List, [], ◌∷◌, ◌++◌, ap, subst, arith}
use Rattle.std.specs.Prelude.{codes, decimal}
use Rattle.netlist_schema.specs.Design.{Design}
use Rattle.netlist_schema.specs.Types.{Object}
use Rattle.edit_rules_spec.specs.Objects.{Grown, IsThere}
use Rattle.db_spec.specs.History.{state_after, version_at}
use Rattle.db_spec.specs.State.{head}
use Rattle.db_spec.specs.declared.event.Event.{Event}
use Rattle.db_spec.proofs.Histories.{version_stays}
use Rattle.db_spec.proofs.Versions.{follows_after, grown_on}
use Rattle.script_spec.specs.Report.{head_design, word_text}
use Rattle.script_spec.specs.Session.{Conflict}
use Rattle.script_spec.specs.Texts.{conflict_words, line}
use Rattle.script_spec.proofs.Settled.{words_stay, later}

-- ---- along a history

-- a version, and the last one of a history that went on
pub head_is_grown : (d : Design) (seen more : List Event) (v : ℕ) → v ≤ head (state_after d seen) → Grown (version_at d seen v) (head_design d (seen ++ more))
head_is_grown d seen more v le =
    let low = later d seen more in
    let w = head (state_after d (seen ++ more)) in
    subst (λ (old : Design). Grown old (head_design d (seen ++ more))) (version_stays d seen more v le)
    (grown_on (state_after d (seen ++ more)) (follows_after d (seen ++ more)) v (w - v) w (omega (arith, low, le)) (omega arith))

-- the line of a conflict may be written with the names of any version that has the object
pub conflict_is_named : (d : Design) (seen more : List Event) (v w : ℕ) (o : Object) → v ≤ head (state_after d seen) → IsThere (version_at d seen v) o
    → word_text (head_design d (seen ++ more)) (version_at d (seen ++ more)) (Conflict o w) ≡ line (conflict_words (version_at d seen v) o w)
conflict_is_named d seen more v w o le is =
    ap (λ (words : List (List ℕ)). line (codes "conflict" ∷ words ++ codes "version" ∷ decimal w ∷ []))
    (words_stay (version_at d seen v) (head_design d (seen ++ more)) o (head_is_grown d seen more v le) is)
