-- The lines of operations below an event, one after another.
use Rattle.std.proofs.Common.{◌≡◌, ◌∙◌, ℕ, Option, List, [], ◌∷◌, ◌++◌, slice_get, drop, sym, ap, append_assoc}
use Rattle.std.specs.Prelude.{codes}
use Rattle.edif_names.specs.Parts.{Grows}
use Rattle.edit_spec.specs.declared.ops.Op.{Op}
use Rattle.edit_spec.specs.declared.ops.Op.TheVariants as op
use Rattle.edit_rules_spec.specs.declared.reply.Reply.{Reply}
use Rattle.script_spec.specs.Lines.{op_text}
use Rattle.script_spec.specs.Texts.{op_lines, reply_text}
use Rattle.script_texts.specs.Parts.{behind_blanks, op_words}
use Rattle.script_texts.proofs.LineLemmas.{IsFilled, blank_filled}
use Rattle.script_lang.specs.Parts.{op_line}

-- an operation has a first word
filled : (o : Op) → IsFilled (op_words o)
filled (op.ShowCell cell) = tt
filled (op.ShowNet cell net) = tt
filled (op.ShowInst cell inst) = tt
filled (op.AddCell cell leaf ports) = tt
filled (op.AddNet cell net) = tt
filled (op.DropNet cell net) = tt
filled (op.AddInst cell inst of) = tt
filled (op.DropInst cell inst) = tt
filled (op.Join cell net end) = tt
filled (op.Cut cell end) = tt
filled (op.SetProp cell target property) = tt
filled (op.SetNote path property) = tt
filled (op.DropNote path key) = tt
filled op.Uniquify = tt
filled (op.UniquePath path) = tt
filled (op.Ungroup cell inst) = tt

pub blank_op : (o : Op) → codes " " ++ op_text o ≡ behind_blanks (op_words o)
blank_op o = blank_filled (op_words o) (filled o)

in_parts : (a b r t : List ℕ) → a ++ b ++ r ++ 10 ∷ t ≡ (a ++ (b ++ r ++ 10 ∷ [])) ++ t
in_parts a b r t =
    append_assoc (a ++ b) r (10 ∷ t) ∙ append_assoc a b (r ++ 10 ∷ t)
    ∙ ap (λ text. a ++ text) (sym (append_assoc b r (10 ∷ t)) ∙ sym (append_assoc (b ++ r) (10 ∷ []) t))
    ∙ sym (append_assoc a (b ++ r ++ 10 ∷ []) t)

-- the first operation, with the first reply where there is one
pub op_lines-cons : (o : Op) (ops : List Op) (replies : List Reply) → op_lines (o ∷ ops) replies ≡ op_line o (slice_get replies 0) ++ op_lines ops (drop 1 replies)
op_lines-cons o ops [] =
    ap (λ text. text ++ 10 ∷ op_lines ops []) (blank_op o) ∙ sym (append_assoc (behind_blanks (op_words o)) (10 ∷ []) (op_lines ops []))
op_lines-cons o ops (reply ∷ replies) =
    ap (λ text. text ++ codes " -> " ++ reply_text reply ++ 10 ∷ op_lines ops replies) (blank_op o)
    ∙ in_parts (behind_blanks (op_words o)) (codes " -> ") (reply_text reply) (op_lines ops replies)

-- one more operation is written
pub more_ops : (out new : List ℕ) (o : Op) (here rest : List Op) (left others : List Reply) (told : Option Reply) → here ≡ o ∷ rest → told ≡ slice_get left 0 → others ≡ drop 1 left
    → new ≡ out ++ op_line o told → new ++ op_lines rest others ≡ out ++ op_lines here left
more_ops out new o here rest left others told first reply behind_it written =
    ap (λ text. text ++ op_lines rest others) written ∙ append_assoc out (op_line o told) (op_lines rest others)
    ∙ ap (λ r. out ++ (op_line o r ++ op_lines rest others)) reply
    ∙ ap (λ rs. out ++ (op_line o (slice_get left 0) ++ op_lines rest rs)) behind_it
    ∙ ap (λ text. out ++ text) (sym (op_lines-cons o rest left))
    ∙ ap (λ ops. out ++ op_lines ops left) (sym first)

pub grows_on : (old middle new : List ℕ) → Grows old middle → Grows middle new → Grows old new
grows_on old middle new a b = (a.0 ++ b.0, b.1 ∙ ap (λ text. text ++ b.0) a.1 ∙ append_assoc old a.0 b.0)
