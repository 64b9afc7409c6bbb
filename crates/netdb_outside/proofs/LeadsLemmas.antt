-- How files in memory came so far.
use Rattle.std.proofs.Common.{◌≡◌, ℕ, List, [], ◌∷◌, ◌++◌, sym, subst}
use Rattle.netdb_outside.specs.MemFiles.{FilesFacts, Leads, asked, went_on, after_call, next_fails, opened_rest, opening, read_rest, reading}
use Rattle.netdb_outside.specs.Outside.{file_named}
use Rattle.netdb_outside.specs.Visits.{Visit, begun, read_on}
use Rattle.netdb_outside.specs.declared.files.Got.{Got}
use Rattle.netdb_outside.specs.declared.files.Opened.{Opened}

pub one_asked : (old new : FilesFacts) (name : List ℕ) (result : Opened) → result ≡ opening (next_fails old) (file_named old.folder.files name)
    → new ≡ after_call old (opened_rest (next_fails old) (file_named old.folder.files name)) → (before : List Visit) → Leads before old → Leads (before ++ begun name result ∷ []) new
one_asked old new name result answer after before led =
    subst (λ (x : Opened × FilesFacts). Leads (before ++ begun name x.0 ∷ []) x.1) (λ i. (sym answer i, sym after i)) (asked before old name led)

pub one_read : (old new : FilesFacts) (size : ℕ) (result : Got) → result ≡ reading (next_fails old) old.folder.rest size
    → new ≡ after_call old (read_rest (next_fails old) old.folder.rest size) → (before : List Visit) (visit : Visit) → Leads (before ++ visit ∷ []) old → Leads (before ++ read_on visit result ∷ []) new
one_read old new size result answer after before visit led =
    subst (λ (x : Got × FilesFacts). Leads (before ++ read_on visit x.0 ∷ []) x.1) (λ i. (sym answer i, sym after i)) (went_on before visit old size led)
