use Rattle.std.proofs.Common.{◌≡◌, ◌≤◌, ◌∙◌, ℕ, List, [], sym, subst, length}
use Rattle.std.specs.Option.{IfSome}
use Rattle.netdb_outside.specs.Contents.{IsReadWhole}
use Rattle.netdb_outside.proofs.contents.read_file.Goals as goal

pub returns-in-Whole-clause-gives : goal.returns-in-Whole-clause-gives
returns-in-Whole-clause-gives g c =
    let read = c.in-Whole.ensures.ends in
    let bytes = read.0 in
    let same : c.of.result ≡ bytes = c.of.ensures ∙ read.3 [] c.new.ensures.items in
    let G : List ℕ → Type 0 = λ v. (length v ≤ c.args.limit) × IfSome (g.F.Files.told c.read_pieces.new.files) (λ folder. IsReadWhole folder c.args.name.now v) in
    subst G (sym same) (read.1, read.2)

pub returns-in-Whole-clause-visited : goal.returns-in-Whole-clause-visited
returns-in-Whole-clause-visited g c = c.in-Whole.ensures.visited

pub returns-in-TooLarge-clause-visited : goal.returns-in-TooLarge-clause-visited
returns-in-TooLarge-clause-visited g c = c.in-TooLarge.ensures.visited

pub returns-in-Missing-clause-visited : goal.returns-in-Missing-clause-visited
returns-in-Missing-clause-visited g c = c.in-Missing.ensures.visited

pub returns-in-Failed-clause-visited : goal.returns-in-Failed-clause-visited
returns-in-Failed-clause-visited g c = c.in-Failed.ensures.visited

pub returns-in-NoMemory-clause-visited : goal.returns-in-NoMemory-clause-visited
returns-in-NoMemory-clause-visited g c = c.in-NoMemory.ensures.visited
