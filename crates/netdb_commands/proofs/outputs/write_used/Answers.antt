use Rattle.std.proofs.Common.{subst, sym, ◌∙◌}
use Rattle.netlist_schema.specs.Design.{Design}
use Rattle.edif_spec.specs.Arranged.{canonical_text}
use Rattle.netdb_spec.specs.declared.command.Wanted.TheVariants.{Used}
use Rattle.netdb_spec.specs.Gives.{TextGives}
use Rattle.netdb_commands.proofs.TextLemmas.{served}
use Rattle.netdb_commands.proofs.outputs.write_used.Goals as goal

pub returns-in-Ok-clause-gives : goal.returns-in-Ok-clause-gives
returns-in-Ok-clause-gives g c =
    let old = g.K.Sink.written c.args.out.now in
    let new = g.K.Sink.written c.write_text.new.out in
    served Used c.args.design.now old new c.write_text.result (λ none. absurd (cc (sym c.in-Ok.is ∙ c.keep_used.ensures.no_top.1 none)))
    (subst (λ (d : Design). TextGives (canonical_text d) old new c.write_text.result) c.in-Ok.ensures.kept c.write_text.ensures.gives)
