-- The empty struct, with the bytes that the clause names.
use Rattle.html_c.proofs.Names.{Ura, vstruct, vnil, SProp, ent, emp, via, fst∗, Routine, Calls, Loops, WpFn, Logic, Fun, tables, WpFn-mono, ‵, raw, ◌$◌, ◌∵◌, !, qed, move, suffices, done, no_more, returns, enter, agg, alloc_all, pass_all, free_all, look_at, sets, owns, pure_i, on_entry, alive, triple_of, entered, says, Stays, walk_of, Walks, ends_at, walked, walk_Meets, ◌<◌, length, ◌^◌, ℕ, List, flat_map, History}
use contract.Running.{tables_of}
use mathlib.Core.Path.{refl}
use mathlib.Core.List.{[], ◌∷◌, ◌++◌}
use mir.Syntax.{named}
use mir.Val.{Val}
use base.Fml.{Fml}
use prog.Memory.{Memory}
use contract.Lifetimes.{Lfts, Shares}
use denote.Builtin.{u8}
use denote.Exit.{yes}
use denote.Slice.{slice_val, shr_slice_vals, shr_slice_Tells}
use denote.Signature.{plain, types_at}
use denote.Triple.Entry.{Args}
use denote.Triple.Walked.{stay_none_slice, Goes-none_slice}
use Rattle.html_c.specs.contracts.fitted.History.with.Key.{name as key}
use Rattle.html_c.specs.contracts.fitted.History.with as f
use Rattle.html_c.proofs.fitted.History.with.Statement as stated
use Rattle.html_c.proofs.fitted.History.with.Code as code
use Rattle.html_c.specs.contracts.fitted.History as history

abbrev stayed : Stays (f.ended).signature.params (f.ended).kept
stayed = (stay_none_slice (0 ∷ []) tt (plain (λ _. history.the_row)) yes, (stay_none_slice (1 ∷ []) tt (plain (λ _. u8)) yes, tt))

module _ {M : Type 1} {𝓤 : Ura M} (𝓛 : Logic 𝓤) (mem : Memory → SProp 𝓤) (run : Routine → Fun 𝓤) (C : Calls 𝓤 𝓛.H) (Λ : Loops 𝓤 𝓛.H) where
  open 𝓛 use {H}

  module _ (κs : Lfts 2) (qs : Shares 2) (a : Args f.signature κs) where
    abbrev before : Val
    before = slice_val a.0.ref_ptr (length a.0.now)

    abbrev added : Val
    added = slice_val a.1.0.ref_ptr (length a.1.0.now)

    abbrev bound : (walk_of 𝓛 f.ended stayed (f.clauses 𝓛 mem run)).Ghost
    bound = ((κs, qs, tt, a, (before ∷ [], (added ∷ [], tt))), tt)

    abbrev passed : Fml
    passed = owns (types_at f.signature.params κs) a (before ∷ [], (added ∷ [], tt))

    abbrev all : List ℕ
    all = flat_map (λ (h : History). h.bytes) a.0.now ++ a.1.0.now

    walk : length a.0.now < 2 ^ 64 → length a.1.0.now < 2 ^ 64 → ent 𝓤 (on_entry 𝓛 f.signature κs qs a (before ∷ [], (added ∷ [], tt)))
        (WpFn 𝓤 H C Λ code.function (before ∷ added ∷ []) ((walk_of 𝓛 f.ended stayed (f.clauses 𝓛 mem run)).post bound))
    walk few fits = qed 𝓛 (raw (alive 𝓛 f.signature κs qs) ∷ ‵ passed ∷ []) ∵ enter ! C Λ code.function (before ∷ added ∷ []) _ $ alloc_all !
        (λ l. pass_all ! refl ((tt, (tt, (record { fits = few }, tt))), ((tt, (tt, (record { fits = fits }, tt))), tt)) $ sets ! (agg ! (no_more !)) refl
        (tt, tt) $ returns ! (look_at ! 0 refl) $ free_all ! refl $ suffices ! _
        (ends_at 𝓛 f.ended stayed (f.clauses 𝓛 mem run) bound (vstruct vnil) (record { bytes = all }) (tt, (tt, tt)) (tt, (tt, tt))) $ says ! refl $
        pure_i ! (history.the_row.own_val (record { bytes = all }) (vstruct vnil ∷ [])) ((λ vss. (tt, tt)), tt) ((tt, (refl, tt)), tt) $ move !
        (1 ∷ 2 ∷ 0 ∷ []) $ done !)

  walks : Walks 𝓛 f.ended stayed (WpFn 𝓤 H C Λ code.function) (f.clauses 𝓛 mem run)
  walks = walked 𝓛 f.ended stayed (f.clauses 𝓛 mem run) (WpFn 𝓤 H C Λ code.function) (λ κs. (shr_slice_vals, (shr_slice_vals, tt)))
      (λ κs. (shr_slice_Tells (named 0) κs.0 history.the_row, (shr_slice_Tells (named 1) κs.1.0 u8, tt)))
      (λ κs qs bounds a g are. via 𝓤 _ (fst∗ 𝓤 _ (emp 𝓤)) (walk κs qs a are.0.0.1.0 are.1.0.0.1.0))

pub with_spec : {M : Type 1} → stated.statement M
unfolding tables_of
with_spec 𝓤 𝓛 𝓜 𝓡 wired = let 𝓣 = tables_of 𝓤 𝓛.H 𝓜 (tables 𝓤 𝓛.H 𝓜 𝓡 𝓡.env) in
    entered 𝓤 𝓛.H (triple_of 𝓛 f.signature (f.spec 𝓛 𝓜.mem 𝓡.returns)) 𝓣.C 𝓣.Λ key code.function (code.unfolded 𝓤 𝓛.H 𝓜 𝓡 wired) (walk_Meets 𝓛 f.ended stayed
    (Goes-none_slice 𝓛 2 (0 ∷ []) tt (plain (λ _. history.the_row)) yes, (Goes-none_slice 𝓛 2 (1 ∷ []) tt (plain (λ _. u8)) yes, tt))
    (f.clauses 𝓛 𝓜.mem 𝓡.returns) (WpFn 𝓤 𝓛.H 𝓣.C 𝓣.Λ code.function) (WpFn-mono 𝓤 𝓛.H 𝓛.laws 𝓣 code.function) (walks 𝓛 𝓜.mem 𝓡.returns 𝓣.C 𝓣.Λ))
