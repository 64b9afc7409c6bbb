use Rattle.std.proofs.Common.{List, subst}
use Prim.Native.Nat.{ℕ}
use Rattle.std.specs.Prelude.{MatchResult}
use Rattle.script_spec.specs.ScriptText.{steps_of}
use Rattle.netdb_spec.specs.Steps.{IsNoScript}
use Rattle.netdb_spec.specs.Told.{IsScriptFile}
use Rattle.netdb_commands.proofs.InputLemmas.{script_read}
use Rattle.netdb_commands.proofs.VisitLemmas.{script_visited}
use Rattle.netdb_commands.proofs.inputs.read_script.Goals as goal

pub returns-in-Ok-clause-read : goal.returns-in-Ok-clause-read
returns-in-Ok-clause-read g c =
    (script_read (g.F.Files.told c.read_whole.new.files) c.args.name.now c.in-Ok.text c.args.word c.script_of.result c.in-Ok.ensures.read.0 c.in-Ok.ensures.read.1
    (subst (λ (b : List ℕ). MatchResult c.script_of.result (λ script. IsScriptFile b (steps_of script.lines)) (IsNoScript b c.args.word)) c.as_slice.ensures.value c.script_of.ensures)).0

pub returns-in-Ok-clause-refused : goal.returns-in-Ok-clause-refused
returns-in-Ok-clause-refused g c =
    (script_read (g.F.Files.told c.read_whole.new.files) c.args.name.now c.in-Ok.text c.args.word c.script_of.result c.in-Ok.ensures.read.0 c.in-Ok.ensures.read.1
    (subst (λ (b : List ℕ). MatchResult c.script_of.result (λ script. IsScriptFile b (steps_of script.lines)) (IsNoScript b c.args.word)) c.as_slice.ensures.value c.script_of.ensures)).1

pub returns-in-Ok-clause-visited : goal.returns-in-Ok-clause-visited
returns-in-Ok-clause-visited g c =
    script_visited (g.F.Files.visits c.args.files.now) (g.F.Files.visits c.read_whole.new.files) c.args.name.now c.in-Ok.text c.args.word c.script_of.result
    (subst (λ (b : List ℕ). MatchResult c.script_of.result (λ script. IsScriptFile b (steps_of script.lines)) (IsNoScript b c.args.word)) c.as_slice.ensures.value c.script_of.ensures)
    c.in-Ok.ensures.visited

pub returns-in-Err-clause-visited : goal.returns-in-Err-clause-visited
returns-in-Err-clause-visited g c = c.in-Err.ensures.visited
