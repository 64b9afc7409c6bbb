-- What a reader that was fed bytes says of the next piece, and of the end.
use Rattle.std.proofs.Common.{◌≡◌, ℕ, List, [], ◌++◌, Result, Ok, Err, Some, None, length, inl, inr, ⊎_elim, sym, ap, ◌∙◌, subst, append_assoc, append-nil}
use Rattle.std.specs.Prelude.{IfErr}
use Rattle.std.specs.Result.{IsErrAnd}
use Rattle.edif_spelling_spec.specs.Lexing.{lex_fault, tokens}
use Rattle.edif_spelling_spec.specs.Tree.{Placed}
use Rattle.edif_spelling_spec.specs.TreeFaults.{IsFile, tree_fault}
use Rattle.edif_spec.specs.Stands.{Stands}
use Rattle.edif_parts.specs.Reading.{Names as Answered}
use Rattle.edif_parts.specs.declared.error.EdifError.{EdifError}
use Rattle.edif_parts.specs.declared.error.EdifError.TheVariants as reader
use Rattle.edif_spelling_spec.specs.declared.token.Token.{Token}
use Rattle.edif_spelling_spec.specs.declared.token.LexKind.{LexKind}
use Rattle.edif_lexer.specs.Reading.{HasRead, Feeds as LexerFeeds, Finishes as LexerFinishes}
use Rattle.edif_lexer.specs.declared.errors.LexError.{LexError}
use Rattle.edif_lexer.specs.declared.errors.LexError.TheVariants as lexer
use Rattle.edif_lexer.specs.declared.lexing.State.TheVariants.{Failed}
use Rattle.edif_tree.specs.Maker.{Maker, HasTaken, Finishes, IsHanded}
use Rattle.edif_tree.specs.Nodes.{Table}
use Rattle.edif_tree.specs.TreeError.{Names}
use Rattle.edif_tree.specs.declared.errors.TreeError.{TreeError}
use Rattle.edif_tree.specs.declared.errors.TreeError.TheVariants as tree
use Rattle.edif_spec.specs.Files.{IsWrong}
use Rattle.edif_file.specs.Reader.{Reader, WasFed}
use Rattle.edif_file.specs.Steps.{Says, said_by_lexer, said_by_reader, said_by_tree}
use Rattle.edif_file.specs.declared.no_design.NoDesign.{NoDesign}

-- the maker at the end
pub handed_all : (maker : Maker) (handed : List Token) (end : ℕ) (result : Result Table TreeError) → ((fed : List Token) → HasTaken maker fed → Finishes fed end result) → ((error : TreeError) → maker.failed ≡ Some error → result ≡ Err error)
    → IsHanded maker handed → Finishes handed end result
handed_all maker handed end result fed again h = ⊎_elim
    (λ taken. fed handed taken)
    (λ met.
    let F : Result Table TreeError → Type 0 = Finishes handed end in
    let N : List Token → Type 0 = λ v. Names met.error (tree_fault v end) in
    subst F (sym (again met.error met.stopped)) (subst N (append-nil handed) (met.fault [] end)))
    h

-- the reader after a piece that its lexer read: the new tokens were handed to the maker
pub fed_on : (old new : Reader) (fed piece : List ℕ) (gained : List Token)
    → ((fed : List ℕ) (handed : List Token) → HasRead old.lexer fed handed → HasRead new.lexer (fed ++ piece) (handed ++ gained))
    → ((error : LexError) → old.lexer.state ≡ Failed error → ⊥)
    → ((handed : List Token) → IsHanded old.maker handed → IsHanded new.maker (handed ++ gained)) → WasFed old fed → WasFed new (fed ++ piece)
fed_on old new fed piece gained read fails handed h = ⊎_elim
    (λ on. inl (record { handed = on.handed ++ gained; read = read fed on.handed on.read; taken = handed on.handed on.taken }))
    (λ stopped. absurd (fails (lexer.At stopped.kind stopped.place) stopped.stopped))
    h

-- the reader after a piece in which its lexer met the first fault, or before which it had met it
pub stopped_on : (old new : Reader) (fed piece : List ℕ) (gained : List Token) (kind : LexKind) (place : ℕ)
    → ((fed : List ℕ) (handed : List Token) → HasRead old.lexer fed handed → LexerFeeds fed piece handed gained new.lexer (Err (lexer.At kind place)))
    → new.lexer.state ≡ Failed (lexer.At kind place)
    → ((error : LexError) → old.lexer.state ≡ Failed error → lexer.At kind place ≡ error) → WasFed old fed → WasFed new (fed ++ piece)
stopped_on old new fed piece gained kind place read stopped again h = ⊎_elim
    (λ on. inr (record { kind = kind; place = place; stopped = stopped; fault = λ more. (read fed on.handed on.read more).0 }))
    (λ before.
    inr (record {
      kind = before.kind;
      place = before.place;
      stopped = stopped ∙ ap Failed (again (lexer.At before.kind before.place) before.stopped);
      fault = λ more. ap lex_fault (append_assoc fed piece more) ∙ before.fault (piece ++ more);
    }))
    h

-- what the end of the bytes says
module _ (reader : Reader) (gained : List Token) (result : Result ℕ LexError) where
  pub record EndsAll : Type 0 where
    pub read : (fed : List ℕ) (handed : List Token) → HasRead reader.lexer fed handed → LexerFinishes fed handed gained result
    pub again : (error : LexError) → reader.lexer.state ≡ Failed error → result ≡ Err error

-- a lexical fault at the end is what is wrong with the bytes
pub end_fault : (reader : Reader) (fed : List ℕ) (gained : List Token) (error : LexError) → EndsAll reader gained (Err error) → WasFed reader fed → Says (IsWrong fed) (said_by_lexer error)
end_fault reader fed gained (lexer.At kind place) h was = ⊎_elim
    (λ on. (h.read fed on.handed on.read).0)
    (λ stopped.
    let same : Err (lexer.At kind place) ≡ Err (lexer.At stopped.kind stopped.place) = h.again (lexer.At stopped.kind stopped.place) stopped.stopped in
    let error : lexer.At kind place ≡ lexer.At stopped.kind stopped.place = cc same in
    let W : LexError → Type 0 = λ e. Says (IsWrong fed) (said_by_lexer e) in
    subst W (sym error) (ap lex_fault (sym (append-nil fed)) ∙ stopped.fault []))
    was
end_fault reader fed gained lexer.NoMemory h was = tt

-- the bytes have no lexical fault where the lexer ended well, and all their tokens were handed out
pub record Ended (reader : Reader) (fed : List ℕ) (gained : List Token) (end : ℕ) : Type 0 where
  pub handed : List Token
  pub taken : IsHanded reader.maker handed
  pub size : end ≡ length fed
  pub none : lex_fault fed ≡ None
  pub all : tokens fed ≡ handed ++ gained

pub ended : (reader : Reader) (fed : List ℕ) (gained : List Token) (end : ℕ) → EndsAll reader gained (Ok end) → WasFed reader fed → Ended reader fed gained end
ended reader fed gained end h was = ⊎_elim
    (λ on. (let all = h.read fed on.handed on.read in record { handed = on.handed; taken = on.taken; size = all.0; none = all.1; all = all.2 }))
    (λ stopped. (let same : Ok end ≡ Err (lexer.At stopped.kind stopped.place) = h.again (lexer.At stopped.kind stopped.place) stopped.stopped in absurd (cc same)))
    was

-- a fault of the tokens is what is wrong with bytes that have no lexical fault
pub tree_wrong : (fed : List ℕ) (all : List Token) (end : ℕ) (error : TreeError) → lex_fault fed ≡ None → tokens fed ≡ all → end ≡ length fed → Names error (tree_fault all end) → Says (IsWrong fed) (said_by_tree error)
tree_wrong fed all end (tree.At kind place) none same size named = (none, ap (λ v. tree_fault v (length fed)) same ∙ ap (tree_fault all) (sym size) ∙ named)
tree_wrong fed all end tree.NoMemory none same size named = tt

-- an error that is handed on, which says something of all bytes
pub passed : {A : Type 0} (said : NoDesign) (result : Result A NoDesign) (P : NoDesign → Type 0) → IsErrAnd result (λ e. e ≡ said) → P said → IfErr result P
passed said (Ok x) P is says = absurd is
passed said (Err e) P is says = subst P (sym is) says

-- a fault of the tree is what is wrong with bytes that spell it
pub reader_wrong : (fed : List ℕ) (t : Placed) (error : EdifError) → lex_fault fed ≡ None → IsFile (tokens fed) t → Answered (Stands t) error → Says (IsWrong fed) (said_by_reader error)
reader_wrong fed t (reader.Fault fault) none file stands = (none, (t, file, stands))
reader_wrong fed t reader.NoMemory none file stands = tt
