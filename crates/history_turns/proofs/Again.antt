-- Operations that are run again, one after the other.
use Rattle.std.proofs.Common.{◌≡◌, ◌∙◌, ℕ, ◌+◌, ◌<◌, List, [], ◌∷◌, ◌++◌, length, take, get_or, ap, sym, append_assoc, append-nil}
use Rattle.std.proofs.lemmas.Grind.{flat_map-append, take_at_read}
use Rattle.netlist_schema.specs.Design.{Design}
use Rattle.edit_rules_spec.specs.declared.reply.Reply.{Reply}
use Rattle.edit_spec.specs.Step.{run}
use Rattle.edit_spec.specs.declared.ops.Op.{Op}
use Rattle.edit_spec.proofs.Overlaid.{replies_push}
use Rattle.script_spec.specs.Session.{reply_behind}
use Rattle.script_spec.specs.Texts.{line, reply_text}
use Rattle.history_turns.specs.Moves.{reply_lines}

-- one reply more
pub one_reply_more : (d : Design) (before text more : List ℕ) (ops : List Op) (op : Op) → text ≡ before ++ reply_lines (run d ops).replies → more ≡ text ++ line (reply_text (reply_behind d ops op) ∷ [])
    → more ≡ before ++ reply_lines (run d (ops ++ op ∷ [])).replies
one_reply_more d before text more ops op so_far said =
    let last : List Reply = reply_behind d ops op ∷ [] in
    said ∙ ap (λ (xs : List ℕ). xs ++ line (reply_text (reply_behind d ops op) ∷ [])) so_far
    ∙ append_assoc before (reply_lines (run d ops).replies) (line (reply_text (reply_behind d ops op) ∷ []))
    ∙ ap (λ (xs : List ℕ). before ++ (reply_lines (run d ops).replies ++ xs)) (sym (append-nil (line (reply_text (reply_behind d ops op) ∷ []))))
    ∙ ap (λ (xs : List ℕ). before ++ xs) (sym (flat_map-append (λ (r : Reply). line (reply_text r ∷ [])) (run d ops).replies last))
    ∙ ap (λ (rs : List Reply). before ++ reply_lines rs) (sym (replies_push ops d op))

-- one operation more was run
next_ops : (all : List Op) (done : ℕ) (op : Op) → done < length all → op ≡ get_or all done op → take (done + 1) all ≡ take done all ++ op ∷ []
next_ops all done op low is = (take_at_read all done op low).1 ∙ ap (λ (o : Op). take done all ++ o ∷ []) (sym is)

pub one_op_more : (all ran more : List Op) (done : ℕ) (op : Op) → done < length all → op ≡ get_or all done op → ran ≡ take done all → more ≡ ran ++ op ∷ [] → more ≡ take (done + 1) all
one_op_more all ran more done op low is so_far at = at ∙ ap (λ (ops : List Op). ops ++ op ∷ []) so_far ∙ sym (next_ops all done op low is)

pub one_op_said : (d e : Design) (before text more : List ℕ) (all ran : List Op) (done : ℕ) (op : Op) → done < length all → op ≡ get_or all done op → e ≡ d → ran ≡ take done all
    → text ≡ before ++ reply_lines (run d (take done all)).replies → more ≡ text ++ line (reply_text (reply_behind e ran op) ∷ []) → more ≡ before ++ reply_lines (run d (take (done + 1) all)).replies
one_op_said d e before text more all ran done op low is same so_far said now =
    one_reply_more d before text more (take done all) op said
    (now ∙ ap (λ (x : Design). text ++ line (reply_text (reply_behind x ran op) ∷ [])) same ∙ ap (λ (ops : List Op). text ++ line (reply_text (reply_behind d ops op) ∷ [])) so_far)
    ∙ ap (λ (ops : List Op). before ++ reply_lines (run d ops).replies) (sym (next_ops all done op low is))
