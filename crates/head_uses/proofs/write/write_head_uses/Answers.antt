use Rattle.std.proofs.Common.{subst, ◌∙◌}
use Rattle.std.specs.Prelude.{OnErr, OnOk}
use Rattle.netlist_schema.specs.Design.{Design}
use Rattle.netdb_outside.specs.Outside.{Appends, AppendsFront}
use Rattle.netdb_outside.proofs.Appending.{front_none}
use Rattle.used_spec.specs.Lines.{uses_text}
use Rattle.used_spec.specs.HeadUses.{head_uses_text}
use Rattle.head_uses.proofs.write.write_head_uses.Goals as goal

pub returns-in-Ok-clause-ok : goal.returns-in-Ok-clause-ok
returns-in-Ok-clause-ok g c =
    let old = g.K.Sink.written c.args.out.now in
    let new = g.K.Sink.written c.write_uses.new.out in
    let P : Design → Type 0 = λ d. OnOk c.write_uses.result (Appends old new (uses_text d)) in
    subst P (c.design.ensures ∙ c.in-Ok.ensures) c.write_uses.ensures.ok

pub returns-in-Ok-clause-err : goal.returns-in-Ok-clause-err
returns-in-Ok-clause-err g c =
    let old = g.K.Sink.written c.args.out.now in
    let new = g.K.Sink.written c.write_uses.new.out in
    let P : Design → Type 0 = λ d. OnErr c.write_uses.result (AppendsFront old new (uses_text d)) in
    subst P (c.design.ensures ∙ c.in-Ok.ensures) c.write_uses.ensures.err

pub returns-in-Err-clause-err : goal.returns-in-Err-clause-err
returns-in-Err-clause-err g c = front_none (g.K.Sink.written c.args.out.now) (head_uses_text (g.S.Shown.design c.args.opening.now) c.args.history.now)
