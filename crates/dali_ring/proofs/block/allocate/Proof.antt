-- `allocate` makes the three parts of the block that the allocator answers, or hands on its refusal. Assumes `Logic`.
use Rattle.std.{proofs.raw_atomic.Walks.proved_at, proofs.raw_atomic.Walks.leaves, specs.Prelude.Ok, specs.Prelude.Err, specs.Prelude.IfOk}
use Rattle.core.proofs.alloc.Calls.{Al, Answer-typed, Takes, at_takes, Answered, Takes-goes, Takes-gives, answers}
use Rattle.core.proofs.{atomic.Steps.fm, mem.Param.El, mem.Param.R, mem.Param.elτ}
use Rattle.core.proofs.slots.Leases.{args, P, block_ty, block_size, block_align, uncapped}
use Rattle.core.specs.contracts.alloc.AllocError as refusal
use Rattle.core.specs.contracts.result.Result as result
use Rattle.std_alloc.proofs.{RcSteps.Good, RcSteps.word, RcSteps.word-Good, RcSteps.first_Good, ResultValues.ok_of, ResultValues.err_of, VecSteps.Shapes.after}
use Rattle.std_alloc.{proofs.VecSteps.Shapes.head, proofs.VecSteps.Shapes.arm_body, specs.Vec.Ownership.FitsInBlock}
use Prim.Native.Nat.{ℕ, ◌*◌, ◌<◌, ◌^◌}
use base.{Fml.Lft, Fml.Share, Fml.ftrue, Fml.flft, Fml.Incl-trans, Logic.SProp, Logic.emp, Logic.id⊢}
use contract.BorrowLft.{◌⊑◌}
use contract.{Monad.fact, Monad.fact_i, Running.tables}
use denote.{Builtin.RefOf, Builtin.usize, Exit.yes, Laws.Is, Param.layout, RattleType.RattleType, RattleType.owns, RawPtr.Ptr, RawPtr.block_ptr}
use denote.{Signature.plain, Signature.types_at, Steps.nothing, Steps.heard, Steps.owned}
use denote.Struct.{Declared.shape, Struct.Struct, Struct.Struct-Makes, Tuple.Tuple}
use denote.Triple.{Call.calls_at, Entry.alive, Walked.Stays, Walked.stay_dropped, Walked.walk_of, Walked.Goes-dropped}
use lib.Dec.{lit<}
use mathlib.Core.Bool.{true, false}
use mathlib.Core.List.{List, [], ◌∷◌, ◌++◌}
use mathlib.Core.Path.{◌≡◌, refl, sym, ap, subst}
use mir.{MapTy.inst_fn, Syntax.Fn, Syntax.w64, Val.Val, Val.vptr, Val.vint, Val.vstruct, Val.vcons, Val.vnil}
use native.Mathlib.Omega.{arith}
use prog.{Capped.capped_fits, Memory.align, Memory.capped, Wp.Env, Wp.Wp, Wp.WpFn, Wp.after_seq, Wp.at_return}
use types.ByLocal.{alloc_all, pass_all, free_all, look_at, get, get_in, get_tag, sets, sets_last, is, lands_as, env}
use types.Kit.{‵, raw, ◌⊛◌, later, prop, at_ret, any_q, ◌$◌, ◌∵◌, !, qed, by, move, drop, use0, use1, use2, split, join, await, regoal, fsplit, fjoin, flt_i}
use types.{Match.live, Match.vrt, Match.in_variant, Part.whole, Part.agg}
use types.Run.{stop, fld, lit, of_opd, bin, size_word, align_word, and_then, no_more, first, switches_on, exec, returns, enter}
use Rattle.dali_ring.specs.contracts.block.allocate.{ended, clauses, Key.name as #allocate}
use Rattle.dali_ring.proofs.Held.{step, mark, marked, three_val, makes_origin, makes_mark, makes_three}
use Rattle.dali_ring.proofs.block.allocate.Statement.{statement}
use Rattle.dali_ring.specs.contracts.block.Origin as origin
use Rattle.dali_ring.specs.contracts.block.Places as places
use Rattle.dali_ring.specs.contracts.block.Release as release
use Rattle.dali_ring.proofs.block.allocate.Code as code

pub allocate_spec : {M : Type 1} → statement M
allocate_spec 𝓤 𝓛 𝓜 𝓡 wired T A L K g d dd met md =
    let E : El = record { row = T; laws = L } in
    let Z : Al = record { row = A; laws = K; g = g; d = d; drops = dd } in
    let fn : Fn = inst_fn (args E Z) code.function in
    let C = (tables 𝓤 𝓛.H 𝓜 𝓡 𝓡.env).C in
    let Λ = (tables 𝓤 𝓛.H 𝓜 𝓡 𝓡.env).Λ in
    let alloc-slot = RefOf (0 ∷ []) tt (plain (λ _. P E Z)) (λ _. tt) in
    let count-slot = plain (λ _. usize) in
    let Start : RattleType = origin.the_row (R E) in
    let Row : RattleType = places.the_row (R E) in
    let Right : RattleType = release.the_row (R E) (P E Z) g in
    let Parts : RattleType = Tuple (Start ∷ Row ∷ Right ∷ []) in
    let Out : RattleType = result.the_row Parts refusal.the_row in
    let S = ended T A g d dd in
    let stays : Stays S.signature.params S.kept = (stay_dropped alloc-slot yes, (stay_dropped count-slot yes, tt)) in
    let c = clauses T A g d dd 𝓛 𝓜.mem 𝓡.returns in
    proved_at 𝓛 S stays c 𝓜 𝓡 (Goes-dropped 𝓛 3 alloc-slot yes (λ κs x f. refl), (Goes-dropped 𝓛 3 count-slot yes (λ κs x f. refl), tt))
    (#allocate (args E Z)) fn (code.unfolded 𝓤 𝓛.H 𝓜 𝓡 wired (T, (A, tt)) d dd) (λ z are.
    let Post : Val → SProp 𝓤 = (walk_of 𝓛 S stays c).post z in
    let a = z.0.3 in let vss = z.0.4 in
    let handle = a.0.now in let at = a.0.ref_ptr in let n = a.1.0 in
    let κ : Lft = z.0.0.0 in let q : Share = z.0.1.0 in
    let s = step E in let al : ℕ = capped (align (elτ E)) in
    let asks = FitsInBlock (R E) n in
    let Told : Out.Denot → Type 0 =
    λ r. IfOk r (λ t. (t.1.origin ≡ t.0.pointer) × (t.1.count ≡ n) × (t.1.items ≡ []) × (t.2.origin ≡ t.0.pointer) × (t.2.count ≡ n) × (t.2.alloc ≡ handle))
    in
    qed 𝓛 ((raw (alive 𝓛 S.signature z.0.0 z.0.1) ⊛ ‵ (owns (types_at S.signature.params z.0.0) a vss))
    ∷ (raw (fact 𝓤 (z.0.0.1.0 ⊑ T.lives)) ⊛ raw (fact 𝓤 (z.0.0.1.1.0 ⊑ A.lives)) ⊛ raw (fact 𝓤 asks)) ∷ []) ∵
    move ! (1 ∷ []) $ split ! $ drop ! $ split ! $ heard ! (z.0.0.1.1.0 ⊑ A.lives) (λ within. heard ! asks (λ asked.
    let bytes : n * s < 2 ^ 64 = omega (arith, asked.0) in
    let y = at_takes Z 𝓛 𝓜.mem 𝓡.returns κ q at handle (n * s) al (block_ty E n) in
    split ! $ move ! (1 ∷ []) $ fsplit ! $ fsplit ! $ drop ! $ move ! (1 ∷ []) $ drop ! $ move ! (1 ∷ []) $
    use1 𝓛 (‵ (flft κ q) ⊛ ‵ (flft z.0.0.1.0 z.0.1.1.0) ⊛ ‵ (flft z.0.0.1.1.0 z.0.1.1.1.0) ⊛ ‵ ftrue) (id⊢ 𝓤 _) $ split ! $ move ! (2 ∷ 0 ∷ []) $
    -- [what the `&` shows; the token of its lifetime; the other tokens]
    regoal ! (λ (us : List Val). prop (WpFn 𝓤 𝓛.H C Λ fn us Post)) (λ j. are.0.0 j ++ (are.1.0.0 j ++ [])) refl $
    enter ! C Λ fn (vptr at.0 at.1 ∷ vint w64 n ∷ []) Post $
    alloc_all ! (λ l. pass_all ! refl ((tt, tt), ((tt, record { fits = are.1.0.1 }), tt)) $
    let En : Env 𝓤 𝓛.H = env fn.locals l in
    let both = head (after 2 fn.body) in
    let Then = any_q (after_seq 𝓤 𝓛.H (Wp 𝓤 𝓛.H C Λ En (after 3 fn.body) (at_return 𝓤 𝓛.H En Post)) (at_return 𝓤 𝓛.H En Post)) in
    sets ! (is ! (bin ! (get ! refl) (size_word !) (record { fits = subst (λ (k : ℕ). k < 2 ^ 64) (sym (uncapped n s bytes)) bytes }))
    (ap (vint w64) (uncapped n s bytes)))
    refl (tt, record { fits = bytes }) $
    use2 𝓛 (raw ((Takes Z 𝓛 𝓜.mem 𝓡.returns).pre y))
    (Takes-goes Z 𝓛 𝓜.mem 𝓡.returns κ q at handle (Incl-trans z.0.2.0 within) (n * s) al (block_ty E n) (block_size E n bytes) (block_align E n) bytes
    (capped_fits (align (elτ E)))) $
    calls_at ! (fm 𝓛 𝓜 𝓡) (Takes Z 𝓛 𝓜.mem 𝓡.returns) (met.allocate dd) y
    (and_then ! (get ! refl) (and_then ! (get ! refl) (and_then ! (align_word !) (no_more !)))) (λ v.
    use1 𝓛 (later (raw (Answered Z 𝓛 𝓜.mem 𝓡.returns handle (block_ty E n) v) ⊛ ‵ (flft κ q)))
    (Takes-gives Z 𝓛 𝓜.mem 𝓡.returns κ q at handle (n * s) al (block_ty E n) v) $
    await ! tt $ split ! $ answers Z ! 𝓜.mem 𝓡.returns handle (block_ty E n) v
    (λ b o e.
    let r : Ptr = block_ptr b o in
    let start : Start.Denot = record { pointer = r } in
    let row : Row.Denot = record { mark = record {}; origin = r; count = n; items = [] } in
    let right : Right.Denot = record { mark = record {}; origin = r; count = n; alloc = handle } in
    let parts : Val = three_val (word r) mark mark in
    let typed : Good (layout Parts) parts = (tt, ((tt, tt), ((tt, tt), ((tt, tt), tt)))) in
    let good = first_Good (layout Parts) parts typed in
    let made : Val = live 0 (vcons parts vnil) in
    -- [the room; the token of the block; the token of the `&`; the other tokens]
    lands_as ! e refl (Answer-typed true b o) $ first ! $ switches_on ! (get_tag ! (vrt ! refl (fld ! refl (stop !))) (whole !)) $ exec ! C Λ En
    (arm_body 0 both) Then $
    sets ! (of_opd ! (get_in ! (vrt ! refl (fld ! refl (stop !))) (in_variant ! 0 0 refl refl (whole !)))) refl (tt, tt) $ sets ! (of_opd ! (get ! refl)) refl
    (tt, tt) $
    sets ! (agg ! (and_then ! (get ! refl) (no_more !))) refl (word-Good [] r) $
    sets ! (agg ! (no_more !)) refl (tt, tt) $ sets ! (agg ! (and_then ! (get ! refl) (no_more !))) refl (tt, (tt, tt)) $
    sets ! (agg ! (no_more !)) refl (tt, tt) $ sets ! (agg ! (and_then ! (get ! refl) (no_more !))) refl (tt, (tt, tt)) $
    sets ! (of_opd ! (get ! refl)) refl (tt, (tt, tt)) $ sets ! (of_opd ! (get ! refl)) refl (tt, (tt, tt)) $
    sets ! (agg ! (and_then ! (get ! refl) (and_then ! (get ! refl) (and_then ! (get ! refl) (no_more !))))) refl typed $
    sets_last ! (agg ! (and_then ! (lit ! tt) (and_then ! (get ! refl) (no_more !)))) refl good $
    exec ! C Λ En (after 3 fn.body) (at_ret En Post) $ sets ! (of_opd ! (get ! refl)) refl good $ returns ! (look_at ! 0 refl) $ free_all ! refl $
    move ! (1 ∷ []) $ use0 𝓛 (‵ (marked.own_val (tt, tt) (mark ∷ []))) (makes_mark 𝓛) $ fjoin ! $ move ! (1 ∷ []) $ flt_i ! (n * s) (2 ^ 63) asked.0 $ fjoin ! $
    use0 𝓛 (‵ (marked.own_val (tt, tt) (mark ∷ []))) (makes_mark 𝓛) $ fjoin ! $ use0 𝓛 (‵ (Start.own_val start (word r ∷ []))) (makes_origin 𝓛 r) $
    nothing ! $ move ! (3 ∷ 0 ∷ []) $ fjoin ! $ move ! (2 ∷ 0 ∷ []) $ fjoin ! $ move ! (1 ∷ 0 ∷ []) $ fjoin ! $
    use1 𝓛 (‵ (Parts.own_val (start, row, right) (parts ∷ []))) (makes_three 𝓛 Start Row Right start row right (word r) mark mark) $
    use1 𝓛 (‵ (Out.own_val (Ok (start, row, right)) (made ∷ []))) (ok_of 𝓛 Parts refusal.the_row (start, row, right) parts) $ move ! (1 ∷ 2 ∷ []) $ join ! $
    use0 𝓛 (raw (fact 𝓤 (Told (Ok (start, row, right))))) (fact_i 𝓤 (Told (Ok (start, row, right))) (emp 𝓤) (refl, refl, refl, refl, refl, refl)) $
    nothing ! $ nothing ! $ fjoin ! $ nothing ! $ fjoin ! $ move ! (2 ∷ 0 ∷ 3 ∷ 1 ∷ []) $
    by ! (leaves 𝓛 S stays c z made (Ok (start, row, right)) (tt, (tt, tt)) (tt, (tt, tt))))
    (λ e.
    let Refusal : RattleType = Struct (shape refusal.the_type) in
    let made : Val = live 1 (vcons (vstruct vnil) vnil) in
    -- [the token of the `&`; the other tokens]
    lands_as ! e refl (Answer-typed false 0 0) $ first ! $ switches_on ! (get_tag ! (vrt ! refl (fld ! refl (stop !))) (whole !)) $ exec ! C Λ En
    (arm_body 1 both) Then $
    sets ! (of_opd ! (get_in ! (vrt ! refl (fld ! refl (stop !))) (in_variant ! 1 0 refl refl (whole !)))) refl (tt, tt) $
    sets_last ! (agg ! (and_then ! (lit ! tt) (and_then ! (get ! refl) (no_more !)))) refl (tt, (record { fits = lit< tt }, (tt, tt))) $
    exec ! C Λ En (after 3 fn.body) (at_ret En Post) $ sets ! (of_opd ! (get ! refl)) refl (tt, (record { fits = lit< tt }, (tt, tt))) $
    returns ! (look_at ! 0 refl) $ free_all ! refl $ join ! $
    owned ! Refusal (Is Refusal) (Struct-Makes 𝓛 (shape refusal.the_type) tt) tt (vstruct vnil ∷ []) (tt, (refl, tt)) $
    use1 𝓛 (‵ (Out.own_val (Err (record {})) (made ∷ []))) (err_of 𝓛 Parts refusal.the_row (record {}) (vstruct vnil)) $
    use0 𝓛 (raw (fact 𝓤 (Told (Err (record {}))))) (fact_i 𝓤 (Told (Err (record {}))) (emp 𝓤) tt) $
    nothing ! $ nothing ! $ fjoin ! $ nothing ! $ fjoin ! $ move ! (3 ∷ 0 ∷ 2 ∷ 1 ∷ []) $
    by ! (leaves 𝓛 S stays c z made (Err (record {})) (tt, (tt, tt)) (tt, (tt, tt)))))))))
