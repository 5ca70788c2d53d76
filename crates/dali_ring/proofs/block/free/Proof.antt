-- `free` makes room of the places, and hands it back with the allocator's token. Assumes `Logic`.
use Rattle.std.proofs.raw_atomic.Walks.{proved_at, leaves}
use Rattle.core.proofs.alloc.Calls.{Al, Goes-blank, token, Gives, at_gives, Gives-goes, Gives-Gives}
use Rattle.core.proofs.{atomic.Steps.fm, mem.Param.El, mem.Param.R, mem.Param.elτ}
use Rattle.core.proofs.slots.Leases.{args, P, block_ty, block_size, block_align, uncapped}
use Rattle.std_alloc.proofs.{RcSteps.word, RcSteps.word-Good, VecSteps.Shapes.after}
use Prim.Native.Nat.{ℕ, ◌*◌, ◌<◌, ◌^◌}
use base.{Fml.Lft, Fml.Share, Fml.ftrue, Fml.flft, Fml.froom, Fml.Incl-trans, Logic.SProp, Logic.never, Logic.id⊢}
use contract.BorrowLft.{◌⊑◌}
use contract.{Monad.fact, Running.tables}
use denote.Builtin.{RefOf, usize}
use denote.{Exit.yes, Exit.no, RattleType.owns, RawPtr.Ptr, RawPtr.ptr_val, RawPtr.in_a_block, Signature.plain, Signature.types_at, Steps.nothing, Steps.heard}
use denote.Triple.{Call.calls_at_last, Entry.alive, Walked.Stays, Walked.stay_dropped, Walked.walk_of, Walked.Goes-dropped}
use lib.Dec.{T as So}
use mathlib.Core.List.{List, [], ◌∷◌, ◌++◌}
use mathlib.Core.Path.{◌≡◌, refl, sym, ap, subst, ◌∙◌}
use mir.{MapTy.inst_fn, Syntax.Fn, Syntax.ty_unit, Syntax.w64, Val.Val, Val.vptr, Val.vint, Val.vunit, Val.has_ty, Val.WT}
use native.Mathlib.Omega.{arith}
use prog.{Capped.capped_fits, Memory.align, Memory.capped, Wp.Env, Wp.WpFn}
use types.ByLocal.{alloc_all, pass_all, free_all, look_at, get, get_in, sets, is, lands_last, env}
use types.Kit.{‵, raw, ◌⊛◌, given, later, prop, at_ret, ◌$◌, ◌∵◌, !, qed, by, move, keep, drop, use1, split, join, group, learn, await, regoal, rewrite, fsplit}
use types.{Kit.fjoin, Kit.feq_i, Kit.flt_l, Part.whole, Part.sub}
use types.Run.{stop, fld, unit_lit, of_opd, bin, size_word, align_word, and_then, no_more, first, blocks, exec, returns, enter}
use Rattle.dali_ring.specs.Block.{block_owns, release_owns}
use Rattle.dali_ring.specs.contracts.block.free.{ended, clauses, Key.name as #free}
use Rattle.dali_ring.proofs.{Held.step, Held.mark, Held.origin_is, Held.places_is, Held.release_is, Held.emptied, block.free.Statement.statement}
use Rattle.dali_ring.specs.contracts.block.Origin as origin
use Rattle.dali_ring.specs.contracts.block.Places as places
use Rattle.dali_ring.specs.contracts.block.Release as release
use Rattle.dali_ring.proofs.block.free.Code as code

pub free_spec : {M : Type 1} → statement M
free_spec 𝓤 𝓛 𝓜 𝓡 wired T A L K g d dd met md =
    let E : El = record { row = T; laws = L } in
    let Z : Al = record { row = A; laws = K; g = g; d = d; drops = dd } in
    let fn : Fn = inst_fn (args E Z) code.function in
    let C = (tables 𝓤 𝓛.H 𝓜 𝓡 𝓡.env).C in
    let Λ = (tables 𝓤 𝓛.H 𝓜 𝓡 𝓡.env).Λ in
    let alloc-slot = RefOf (0 ∷ []) tt (plain (λ _. P E Z)) (λ _. tt) in
    let origin-slot = plain (λ _. origin.the_row (R E)) in
    let count-slot = plain (λ _. usize) in
    let places-slot = plain (λ _. places.the_row (R E)) in
    let release-slot = plain (λ _. release.the_row (R E) (P E Z) g) in
    let S = ended T A g d dd in
    let stays : Stays S.signature.params S.kept = (
      stay_dropped alloc-slot yes,
      (
        stay_dropped origin-slot no,
        (stay_dropped count-slot yes, (stay_dropped places-slot no, (stay_dropped release-slot no, tt))),
      ),
    ) in
    let c = clauses T A g d dd 𝓛 𝓜.mem 𝓡.returns in
    proved_at 𝓛 S stays c 𝓜 𝓡 (
      Goes-dropped 𝓛 3 alloc-slot yes (λ κs x f. refl),
      (
        Goes-dropped 𝓛 3 origin-slot no (λ κs x f. refl),
        (
          Goes-dropped 𝓛 3 count-slot yes (λ κs x f. refl),
          (Goes-blank 𝓛 3 places-slot no (λ κs x f. tt), (Goes-blank 𝓛 3 release-slot no (λ κs x f. tt), tt)),
        ),
      ),
    )
    (#free (args E Z)) fn (code.unfolded 𝓤 𝓛.H 𝓜 𝓡 wired (T, (A, tt)) d dd) (λ z are.
    let Post : Val → SProp 𝓤 = (walk_of 𝓛 S stays c).post z in
    let a = z.0.3 in let vss = z.0.4 in
    let handle = a.0.now in let at = a.0.ref_ptr in let start = a.1.0 in let n = a.1.1.0 in let p = a.1.1.1.0 in let right = a.1.1.1.1.0 in
    let κ : Lft = z.0.0.0 in let q : Share = z.0.1.0 in
    let s = step E in let al : ℕ = capped (align (elτ E)) in
    let own = (p.origin ≡ start.pointer) × (p.count ≡ n) in
    let may = (right.origin ≡ start.pointer) × (right.count ≡ n) × (right.alloc ≡ handle) in
    qed 𝓛 ((raw (alive 𝓛 S.signature z.0.0 z.0.1) ⊛ ‵ (owns (types_at S.signature.params z.0.0) a vss))
    ∷ (raw (fact 𝓤 (z.0.0.1.0 ⊑ T.lives)) ⊛ raw (fact 𝓤 (z.0.0.1.1.0 ⊑ A.lives)) ⊛ raw (fact 𝓤 own) ⊛ raw (fact 𝓤 may)) ∷ []) ∵
    move ! (1 ∷ []) $ split ! $ drop ! $ split ! $ heard ! (z.0.0.1.1.0 ⊑ A.lives) (λ within. split ! $ heard ! own (λ owned. heard ! may (λ free.
    split ! $ move ! (1 ∷ []) $ fsplit ! $ fsplit ! $ drop ! $ move ! (1 ∷ []) $ fsplit ! $ drop ! $ fsplit ! $ drop ! $ fsplit ! $ fsplit ! $ drop ! $
    move ! (1 ∷ []) $ fsplit ! $ fsplit ! $ drop ! $ keep ! (4 ∷ 2 ∷ 0 ∷ 3 ∷ []) $
    use1 𝓛 (‵ (flft κ q) ⊛ ‵ (flft z.0.0.1.0 z.0.1.1.0) ⊛ ‵ (flft z.0.0.1.1.0 z.0.1.1.1.0) ⊛ ‵ ftrue) (id⊢ 𝓤 _) $ split ! $ move ! (2 ∷ 3 ∷ 4 ∷ 0 ∷ []) $
    -- [the places; the token of the block; what the `&` shows; the token of its lifetime; the other tokens]
    regoal ! (λ (us : List Val). prop (WpFn 𝓤 𝓛.H C Λ fn us Post)) (λ j. are.0.0 j ++ (origin_is (R E) start vss.1.0 are.1.0 j ++ (are.1.1.0.0 j
    ++ (places_is (R E) p vss.1.1.1.0 are.1.1.1.0 j ++ (release_is (R E) (P E Z) g right vss.1.1.1.1.0 are.1.1.1.1.0 j ++ []))))) refl $
    enter ! C Λ fn (vptr at.0 at.1 ∷ word start.pointer ∷ vint w64 n ∷ mark ∷ mark ∷ []) Post $
    alloc_all ! (λ l. pass_all ! refl ((tt, tt), (word-Good [] start.pointer, ((tt, record { fits = are.1.1.0.1 }), ((tt, (tt, tt)), ((tt, (tt, tt)), tt))))) $
    let En : Env 𝓤 𝓛.H = env fn.locals l in
    rewrite ! 0 (λ (u : Ptr × ℕ). ‵ (block_owns (R E) u.0 u.1 p.items)) (λ j. (owned.0 j, owned.1 j)) refl $
    in_a_block ! start.pointer (λ r. block_owns (R E) r n p.items) (id⊢ 𝓤 (never 𝓤)) (λ b o e. fsplit ! $ flt_l ! (λ small.
    let bytes : n * s < 2 ^ 64 = omega arith in
    let y = at_gives Z 𝓛 𝓜.mem 𝓡.returns κ q at handle b o (n * s) al (block_ty E n) in
    use1 𝓛 (‵ (froom (block_ty E n) b o)) (emptied E 𝓛 b o n p.items) $
    rewrite ! 1 (λ (u : A.Denot × Ptr × ℕ). ‵ (release_owns (R E) (token Z u.0) u.1 u.2)) (λ j. (free.2 j, (free.0 ∙ e) j, free.1 j)) refl $
    first ! $ blocks ! $
    sets ! (is ! (of_opd ! (get_in ! (fld ! refl (stop !)) (sub ! 0 refl (whole !)))) (ap ptr_val e)) refl (tt, tt) $
    sets ! (is ! (bin ! (get ! refl) (size_word !) (record { fits = subst (λ (k : ℕ). k < 2 ^ 64) (sym (uncapped n s bytes)) bytes }))
    (ap (vint w64) (uncapped n s bytes)))
    refl (tt, record { fits = bytes }) $
    group ! 4 $ use1 𝓛 (raw ((Gives Z 𝓛 𝓜.mem 𝓡.returns).pre y))
    (Gives-goes Z 𝓛 𝓜.mem 𝓡.returns κ q at handle (Incl-trans z.0.2.0 within) b o (n * s) al (block_ty E n) (block_size E n bytes) (block_align E n) bytes
    (capped_fits (align (elτ E)))) $
    calls_at_last ! (fm 𝓛 𝓜 𝓡) (Gives Z 𝓛 𝓜.mem 𝓡.returns) (met.deallocate dd) y
    (and_then ! (get ! refl) (and_then ! (get ! refl) (and_then ! (get ! refl) (and_then ! (align_word !) (no_more !))))) (λ v.
    use1 𝓛 (later (given (v ≡ vunit) (‵ (flft κ q)))) (Gives-Gives Z 𝓛 𝓜.mem 𝓡.returns κ q at handle b o (n * s) al (block_ty E n) v) $ await ! tt $ learn !
    (λ is_unit.
    lands_last ! refl (subst (λ (u : Val). So (has_ty ty_unit u) × WT u) (sym is_unit) (tt, tt)) $
    exec ! C Λ En (after 1 fn.body) (at_ret En Post) $ sets ! (of_opd ! (unit_lit !)) refl (tt, tt) $
    returns ! (look_at ! 0 refl) $ free_all ! refl $
    -- [the token of the `&`; the other tokens]
    join ! $ nothing ! $ feq_i ! (List Val) (vunit ∷ []) (vunit ∷ []) refl $
    nothing ! $ nothing ! $ fjoin ! $ nothing ! $ fjoin ! $ nothing ! $ fjoin ! $ nothing ! $ fjoin ! $ nothing ! $ fjoin ! $ move ! (3 ∷ 0 ∷ 1 ∷ 2 ∷ []) $
    by ! (leaves 𝓛 S stays c z vunit tt (tt, (tt, (tt, (tt, (tt, tt))))) (tt, (tt, (tt, (tt, (tt, tt)))))))))))))))
