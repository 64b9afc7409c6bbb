use Rattle.std.proofs.Common.{◌≡◌, arith, length}
use Rattle.netlist_pages.proofs.StepLemmas.{pushed}
use Rattle.netlist_pages.proofs.pages.append.Goals as goal

pub mend-requires : goal.mend-requires
mend-requires g c =
    let all : c.len-last.result ≡ length c.args.pages.now.items = omega (arith, c.len-last.ensures) in
    let ok = c.in_ok-add_page.ensures.ok in
    rw c.as_slice.ensures.value
    (pushed c.args.pages.now.items c.add_page.new.pages.items c.args.ends.now.items c.add_page.new.ends.items c.len-last.result c.args.page c.requires.pages c.requires.filled c.requires.few all ok.0 ok.1).0

pub returns-clause-pages : goal.returns-clause-pages
returns-clause-pages g c =
    let all : c.len-last.result ≡ length c.args.pages.now.items = omega (arith, c.len-last.ensures) in
    let ok = c.in_ok-add_page.ensures.ok in
    record {
      filled = (pushed c.args.pages.now.items c.add_page.new.pages.items c.args.ends.now.items c.add_page.new.ends.items c.len-last.result c.args.page c.requires.pages c.requires.filled c.requires.few all ok.0 ok.1).1;
      sums = rw c.as_slice.ensures.value at c.mend.ensures;
    }

pub returns-clause-ok : goal.returns-clause-ok
returns-clause-ok g c =
    let all : c.len-last.result ≡ length c.args.pages.now.items = omega (arith, c.len-last.ensures) in
    let ok = c.in_ok-add_page.ensures.ok in
    (pushed c.args.pages.now.items c.add_page.new.pages.items c.args.ends.now.items c.add_page.new.ends.items c.len-last.result c.args.page c.requires.pages c.requires.filled c.requires.few all ok.0 ok.1).2
