-- One run, and so one summary.
use Rattle.std.proofs.Common.{◌≡◌, ℕ, List, ap, sym, ◌∙◌}
use Rattle.db_spec.specs.declared.event.Event.{Event}
use Rattle.db_spec.proofs.Promised.{one_history}
use Rattle.gen_spec.specs.Generated.{generated}
use Rattle.gen_spec.specs.Calls.{IsGenerated}
use Rattle.gen_spec.specs.Summary.{IsSummaryOf, summary_of, summary_text}

pub one_run : (n : ℕ) (a b : List Event) → IsGenerated n a → IsGenerated n b → a ≡ b
one_run n a b one other = one_history (generated n) a b one.legal other.legal (one.in_order ∙ sym other.in_order)

pub one_summary : (n : ℕ) (a b : List ℕ) → IsSummaryOf n a → IsSummaryOf n b → a ≡ b
one_summary n a b one other =
    one.text_is
    ∙ (ap (λ (history : List Event). summary_text (summary_of n history)) (one_run n one.history other.history one.generated other.generated)
    ∙ sym other.text_is)
