-- A commit of one operation on a pin on the last version.
use Rattle.std.specs.Prelude.{IfOk, Result, Ok, Err}
use Rattle.std.proofs.Common.{◌≡◌, ℕ, ◌<◌, ◌≤◌, [], ◌∷◌, ◌++◌, ap, sym, ◌∙◌, subst, arith}
use Rattle.netlist_schema.specs.Types.{Object}
use Rattle.netlist_pages.specs.declared.memory.NoMemory.{NoMemory}
use Rattle.edit_spec.specs.declared.ops.Op.{Op}
use Rattle.edit_tx.specs.Facts.{HasRun, PinFacts, TxFacts, started}
use Rattle.db_spec.specs.State.{LivePin, head}
use Rattle.db_spec.specs.declared.event.Answer.TheVariants.{Committed, Conflict as Conflicted}
use Rattle.db_spec.specs.declared.event.Call.TheVariants.{Commit}
use Rattle.db_spec.specs.declared.event.Event.{Event}
use Rattle.db_spec.proofs.Sound.{kept_up_after, one_pin}
use Rattle.db_core.specs.Calls.{Accepts, Adds, commit_event, event_of}
use Rattle.db_core.specs.Story.{Story, IsHistory, IsPinOf, state}
use Rattle.gen_rounds.specs.Stand.{HasCommitted, IsAccepted}

-- of a transaction that has run one operation: its pin, and its operations
pub tried_pin : (pin : PinFacts) (op : Op) (old new : TxFacts) → old ≡ started pin → HasRun old new op → new.pin ≡ pin
tried_pin pin op old new fresh ran = ran.pin ∙ ap (λ (tx : TxFacts). tx.pin) fresh

tried_ops : (pin : PinFacts) (op : Op) (old new : TxFacts) → old ≡ started pin → HasRun old new op → new.ops ≡ op ∷ []
tried_ops pin op old new fresh ran = ran.ops ∙ ap (λ (tx : TxFacts). tx.ops ++ op ∷ []) fresh

pub tried_is_pin : (story : Story) (pin : PinFacts) (op : Op) (old new : TxFacts) → old ≡ started pin → HasRun old new op → IsPinOf story pin → IsPinOf story new.pin
tried_is_pin story pin op old new fresh ran is = subst (λ (p : PinFacts). IsPinOf story p) (sym (tried_pin pin op old new fresh ran)) is

pub has_committed : (before after : Story) (pin back : PinFacts) (op : Op) (old new : TxFacts) (version : ℕ) → old ≡ started pin → HasRun old new op → Accepts before after new version back
    → HasCommitted before after pin op back
has_committed before after pin back op old new version fresh ran accepted =
    let pin_is = tried_pin pin op old new fresh ran in
    let ops_are = tried_ops pin op old new fresh ran in
    let event : commit_event new (Committed version new.replies) ≡ event_of pin.caller (Commit pin.number (op ∷ [])) (Committed version new.replies) =
    λ i. event_of (pin_is i).caller (Commit (pin_is i).number (ops_are i)) (Committed version new.replies) in
    record {
      back_is = accepted.pin_is ∙ pin_is;
      version = version;
      replies = new.replies;
      adds = subst (λ (e : Event). Adds before after e) event accepted.adds;
    }

pub has_committed_where : (before after : Story) (pin : PinFacts) (op : Op) (old new : TxFacts) (result : Result PinFacts NoMemory) → old ≡ started pin → HasRun old new op → IfOk result (IsAccepted before after new)
    → IfOk result (λ back. HasCommitted before after pin op back)
has_committed_where before after pin op old new (Ok back) fresh ran accepted = has_committed before after pin back op old new accepted.0 fresh ran accepted.1
has_committed_where before after pin op old new (Err refused) fresh ran accepted = tt

pub tried_is_head : (pin : PinFacts) (op : Op) (old new : TxFacts) (v : ℕ) → old ≡ started pin → HasRun old new op → pin.version ≡ v → new.pin.version ≡ v
tried_is_head pin op old new v fresh ran is = ap (λ (p : PinFacts). p.version) (tried_pin pin op old new fresh ran) ∙ is

-- a pin on the last version meets no conflict
pub meets_no_conflict : (before after : Story) (tx : TxFacts) (object : Object) (w : ℕ) → IsHistory before → IsPinOf before tx.pin → tx.pin.version ≡ head (state before)
    → ¬ Adds before after (commit_event tx (Conflicted object w))
meets_no_conflict before after tx object w history is last adds =
    let answers = adds.admits.answers in
    let fine = (kept_up_after before.opening before.events history.legal).fine in
    let one = one_pin (state before) tx.pin.number tx.pin.caller tx.pin.version tx.pin.caller answers.0 fine is.live answers.1 in
    let same : tx.pin.version ≡ answers.0 = ap (λ (p : LivePin). p.version) one in
    let clashes = answers.2.clashes in
    let later : answers.0 < w = clashes.later in
    let there : w ≤ head (state before) = clashes.there in
    absurd (omega arith)
