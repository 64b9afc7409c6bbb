use Rattle.std.proofs.Common.{◌<◌, ◌+◌, ◌∙◌, List, length, arith, subst, vec_len}
use Prim.Native.Nat.{ℕ}
use Rattle.script_spec.specs.ScriptText.{steps_of}
use Rattle.netdb_spec.specs.Refusals.{RefusesScript}
use Rattle.netdb_spec.specs.Told.{IsFile, IsReadThrough, IsScriptFile}
use Rattle.script_spec.specs.declared.limits.TheConstants.{MOST_SCRIPT_BYTES}
use Rattle.netdb_outside.specs.Visits.{AddsVisit}
use Rattle.netdb_spec.specs.Visits.{IsReadToEnd, StopsAt, script_file}
use Rattle.netdb_commands.proofs.InputLemmas.{pushed, pushed_count, read_one_more, refused_at}
use Rattle.netdb_commands.proofs.VisitLemmas.{visits_one_more, visits_starved, visits_stopped}
use Rattle.netdb_commands.proofs.inputs.read_scripts.Goals as goal

pub returns-in-Err-clause-refused : goal.returns-in-Err-clause-refused
returns-in-Err-clause-refused g c =
    let new = g.F.Files.told c.read_script.new.files in
    let less : c.loop-place.place < length c.args.names.now = omega (arith, c.loop-place-test.true) in
    refused_at (g.F.Files.told c.loop-place.files) new c.args.names.now c.loop-place.place c.index-names-place.result c.loop-place.scripts.items c.args.first c.in-Err.status less c.index-names-place.is
    c.read_script.ensures.files c.loop-place.invariant.0
    (subst (λ (name : List ℕ). RefusesScript new name (c.loop-place.place + c.args.first) c.in-Err.status) c.as_str.ensures.value c.in-Err.ensures.refused)

pub loop-place-preserved : goal.loop-place-preserved
loop-place-preserved g c =
    let new = g.F.Files.told c.read_script.new.files in
    let less : c.loop-place.place < length c.args.names.now = omega (arith, c.loop-place-test.true) in
    let all = pushed c.push.result c.push.new.self.items c.loop-place.scripts.items c.in-Ok.script c.is_err.result c.push.ensures.items c.is_err.ensures.value c.if-is_err.false in
    let one = subst (λ (name : List ℕ). IsFile new name (λ bytes. IsScriptFile bytes (steps_of c.in-Ok.script.lines)) × IsReadThrough new name MOST_SCRIPT_BYTES) c.as_str.ensures.value c.in-Ok.ensures.read in
    let more = read_one_more (g.F.Files.told c.loop-place.files) new c.args.names.now c.loop-place.place c.index-names-place.result c.loop-place.scripts.items c.in-Ok.script less c.index-names-place.is
    c.read_script.ensures.files c.loop-place.invariant.0 one in (
      rw all more.0,
      more.1,
      c.in-Ok.ensures.counts.first tt ∙ c.loop-place.invariant.2,
      c.read_script.ensures.files ∙ c.loop-place.invariant.3,
      pushed_count c.push.result (vec_len c.push.new.self) (vec_len c.loop-place.scripts) c.loop-place.place c.is_err.result c.push.ensures.len c.is_err.ensures.value c.if-is_err.false c.loop-place.invariant.4,
      visits_one_more (g.F.Files.visits c.args.files.now) (g.F.Files.visits c.loop-place.files) (g.F.Files.visits c.read_script.new.files) c.args.names.now c.loop-place.place c.index-names-place.result less c.index-names-place.is
          c.loop-place.invariant.5
          (subst (λ (name : List ℕ). AddsVisit (g.F.Files.visits c.loop-place.files) (g.F.Files.visits c.read_script.new.files) (IsReadToEnd (script_file name))) c.as_str.ensures.value c.in-Ok.ensures.visited),
    )

pub returns-in-Err-clause-visited : goal.returns-in-Err-clause-visited
returns-in-Err-clause-visited g c =
    let less : c.loop-place.place < length c.args.names.now = omega (arith, c.loop-place-test.true) in
    visits_stopped (g.F.Files.visits c.args.files.now) (g.F.Files.visits c.loop-place.files) (g.F.Files.visits c.read_script.new.files) c.args.names.now c.loop-place.place c.index-names-place.result c.args.first c.in-Err.status less
    c.index-names-place.is c.loop-place.invariant.5
    (subst (λ (name : List ℕ). AddsVisit (g.F.Files.visits c.loop-place.files) (g.F.Files.visits c.read_script.new.files) (StopsAt (script_file name) (c.loop-place.place + c.args.first) c.in-Err.status)) c.as_str.ensures.value
    c.in-Err.ensures.visited)

pub returns-then-is_err-clause-visited : goal.returns-then-is_err-clause-visited
returns-then-is_err-clause-visited g c =
    let less : c.loop-place.place < length c.args.names.now = omega (arith, c.loop-place-test.true) in
    visits_starved (g.F.Files.visits c.args.files.now) (g.F.Files.visits c.read_script.new.files) c.args.names.now (c.loop-place.place + 1) c.args.first
    (visits_one_more (g.F.Files.visits c.args.files.now) (g.F.Files.visits c.loop-place.files) (g.F.Files.visits c.read_script.new.files) c.args.names.now c.loop-place.place c.index-names-place.result less c.index-names-place.is
    c.loop-place.invariant.5
    (subst (λ (name : List ℕ). AddsVisit (g.F.Files.visits c.loop-place.files) (g.F.Files.visits c.read_script.new.files) (IsReadToEnd (script_file name))) c.as_str.ensures.value c.in-Ok.ensures.visited))
