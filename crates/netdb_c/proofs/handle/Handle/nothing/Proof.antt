-- `nothing` owns nothing.
use Rattle.std.proofs.Common.{◌≡◌, List, [], ◌∷◌, refl}
use mathlib.Core.Bool.{Bool, true, false}
use lib.Dec.{lit<}
use mir.Val.{Val, vbool, vptr, vstruct, vcons, vnil}
use base.Logic.{SProp, ent, emp, id⊢}
use base.Fml.{ftrue}
use prog.Wp.{WpFn}
use types.Kit.{‵, raw, ◌⊛◌, split, ◌$◌, ◌∵◌, !, qed, by, move, keep, drop, join, fjoin, fpack, feq_i, use0}
use types.Run.{of_opd, lit, no_more, and_then, returns, enter, false_lit}
use types.ByLocal.{alloc_all, pass_all, free_all, look_at, get, sets}
use types.Part.{agg}
use contract.Monad.{fact, fact_i}
use contract.Running.{tables}
use denote.RattleType.{RattleType, Valss, owns}
use denote.Builtin.{bool, RawPtr}
use denote.Laws.{Is}
use denote.Plain.{bool_Makes}
use denote.RawPtr.{Ptr, null_ptr, ptr_val}
use denote.Steps.{nothing, owned}
use denote.Struct.Struct.{within}
use denote.Struct.Owning.{shape}
use denote.Triple.Entry.{alive}
use denote.Triple.Walked.{Stays, walk_of}
use Rattle.std.proofs.raw_atomic.Walks.{proved_at, leaves}
use Rattle.core.specs.declared.option.Option.{Option}
use Rattle.core.specs.declared.option.Option.TheVariants.{None}
use Rattle.netdb_calls.specs.contracts.opened.Opened as session
use Rattle.netdb_c.specs.contracts.handle.Handle as handle
use Rattle.netdb_c.specs.contracts.handle.Handle.nothing.{ended, clauses}
use Rattle.netdb_c.specs.contracts.handle.Handle.nothing.Key.{name as #self}
use Rattle.netdb_c.proofs.handle.Handle.nothing.Statement.{statement}
use Rattle.netdb_c.proofs.handle.Handle.nothing.Code as code

abbrev none : Option session.the_row.Denot
none = None

pub nothing_spec : {M : Type 1} → statement M
nothing_spec 𝓤 𝓛 𝓜 𝓡 wired =
    let H = 𝓛.H in let 𝓣 = tables 𝓤 H 𝓜 𝓡 𝓡.env in let En = ended in let c = clauses 𝓛 𝓜.mem 𝓡.returns in
    let hs : Stays En.signature.params En.kept = tt in
    proved_at 𝓛 En hs c 𝓜 𝓡 tt #self code.function (code.unfolded 𝓤 H 𝓜 𝓡 wired) (λ z are.
    let Post : Val → SProp 𝓤 = (walk_of 𝓛 En hs c).post z in let w : Val = vstruct (vcons (vbool false) (vcons (ptr_val null_ptr) vnil)) in
    qed 𝓛 ((raw (alive 𝓛 En.signature z.0.0 z.0.1) ⊛ ‵ ftrue) ∷ ‵ ftrue ∷ []) ∵ split ! $
    enter ! 𝓣.C 𝓣.Λ code.function [] Post $ alloc_all ! (λ l. pass_all ! refl tt $
    sets ! (agg ! (and_then ! (false_lit !) (and_then ! (lit ! tt) (no_more !)))) refl (tt, (tt, (record { fits = lit< tt }, tt))) $
    use0 𝓛 (raw (fact 𝓤 (none ≡ none))) (fact_i 𝓤 (none ≡ none) (emp 𝓤) refl) $ feq_i ! Bool false false refl $ nothing ! $ feq_i ! (List Val) (ptr_val null_ptr ∷ []) (ptr_val null_ptr ∷ []) refl $ fjoin ! $
    owned ! bool (Is bool) (bool_Makes 𝓛) false (vbool false ∷ []) refl $ fjoin ! $ feq_i ! (List Val) (w ∷ []) (w ∷ []) refl $ fjoin ! $
    fpack ! (Valss (bool ∷ RawPtr ∷ [])) (within (shape handle.the_type) (false, (null_ptr, tt)) (w ∷ [])) (vbool false ∷ [], (ptr_val null_ptr ∷ [], tt)) $ fjoin ! $
    returns ! (look_at ! 0 refl) $ free_all ! refl $ keep ! (2 ∷ 3 ∷ 0 ∷ 1 ∷ []) $ by ! (leaves 𝓛 En hs c z w (record { is_open = false; at = null_ptr; held = none }) tt tt)))
