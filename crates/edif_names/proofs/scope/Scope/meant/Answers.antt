use Rattle.std.proofs.Common.{sym, ap, ◌∙◌, option_map}
use Rattle.edif_names.specs.Folded.{noted, noted_by}
use Rattle.edif_names.specs.Scope.{equal_to, numbered}
use Rattle.edif_names.proofs.ScopeLemmas.{numbers, numbers_defined, looked, none_of, says_equal, says_absent, says_only, says_several}
use Rattle.edif_names.proofs.scope.Scope.meant.Goals as goal

pub returns-in-Some : goal.returns-in-Some
returns-in-Some c = says_equal c.args.name.now c.args.self.now c.in-Some.entry.now.id
    (ap (λ ds. option_map (λ d. d.id) (equal_to c.args.name.now ds)) (sym c.self.view_is)
    ∙ looked (λ v. v) (λ i q. i) c.args.name.now c.self.inside.exact.entries
    ∙ ap (option_map (λ v. v.id)) (sym c.in-Some.ensures.value))

pub returns-then-noted : goal.returns-then-noted
returns-then-noted c = says_only c.args.name.now c.args.self.now c.in-Some-noted_by.noted.id c.in-Some-noted_by.noted.is_only c.if-noted.true
    (none_of (λ d. d.id) (equal_to c.args.name.now c.args.self.now)
    (ap (λ ds. option_map (λ d. d.id) (equal_to c.args.name.now ds)) (sym c.self.view_is)
    ∙ looked (λ v. v) (λ i q. i) c.args.name.now c.self.inside.exact.entries
    ∙ ap (option_map (λ v. v.id)) (sym c.in_default.ensures.value)))
    (ap (λ ds. noted c.args.name.now (numbers ds)) (sym c.self.view_is)
    ∙ ap (noted c.args.name.now) (numbers_defined (λ v. v) c.self.inside.exact.entries)
    ∙ sym (c.self.invariant.0 c.args.name.now)
    ∙ ap (noted_by c.args.name.now (numbered c.self.inside.exact.entries)) (sym c.get-2.ensures)
    ∙ sym c.in-Some-noted_by.ensures)

pub returns-else-noted : goal.returns-else-noted
returns-else-noted c = says_several c.args.name.now c.args.self.now c.in-Some-noted_by.noted.id c.in-Some-noted_by.noted.is_only c.if-noted.false
    (none_of (λ d. d.id) (equal_to c.args.name.now c.args.self.now)
    (ap (λ ds. option_map (λ d. d.id) (equal_to c.args.name.now ds)) (sym c.self.view_is)
    ∙ looked (λ v. v) (λ i q. i) c.args.name.now c.self.inside.exact.entries
    ∙ ap (option_map (λ v. v.id)) (sym c.in_default.ensures.value)))
    (ap (λ ds. noted c.args.name.now (numbers ds)) (sym c.self.view_is)
    ∙ ap (noted c.args.name.now) (numbers_defined (λ v. v) c.self.inside.exact.entries)
    ∙ sym (c.self.invariant.0 c.args.name.now)
    ∙ ap (noted_by c.args.name.now (numbered c.self.inside.exact.entries)) (sym c.get-2.ensures)
    ∙ sym c.in-Some-noted_by.ensures)

pub returns-in-None : goal.returns-in-None
returns-in-None c = says_absent c.args.name.now c.args.self.now
    (none_of (λ d. d.id) (equal_to c.args.name.now c.args.self.now)
    (ap (λ ds. option_map (λ d. d.id) (equal_to c.args.name.now ds)) (sym c.self.view_is)
    ∙ looked (λ v. v) (λ i q. i) c.args.name.now c.self.inside.exact.entries
    ∙ ap (option_map (λ v. v.id)) (sym c.in_default.ensures.value)))
    (ap (λ ds. noted c.args.name.now (numbers ds)) (sym c.self.view_is)
    ∙ ap (noted c.args.name.now) (numbers_defined (λ v. v) c.self.inside.exact.entries)
    ∙ sym (c.self.invariant.0 c.args.name.now)
    ∙ ap (noted_by c.args.name.now (numbered c.self.inside.exact.entries)) (sym c.get-2.ensures)
    ∙ sym c.in-None.ensures)
