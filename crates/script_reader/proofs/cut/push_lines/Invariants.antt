use Rattle.std.proofs.Common.{◌≡◌, ◌++◌, drop, map}
use Rattle.script_spec.specs.ScriptText.{without_return}
use Rattle.script_reader.proofs.cut.push_lines.Given as goal

-- the lines so far and those of the parts that are left make the whole
abbrev pub invariant-loop-part : goal.invariant-loop-part
invariant-loop-part l =
    map (λ x. x.now) l.lines.items ++ map without_return (map (λ x. x.now) (drop l.part-index l.parts))
    ≡ map (λ x. x.now) l.fn.lines.items ++ map without_return (map (λ x. x.now) l.parts)
