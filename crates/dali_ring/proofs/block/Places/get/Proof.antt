-- `get` shows one value of those that the places lend. Assumes `Logic`.
use Rattle.std.{proofs.raw_atomic.Walks.proved_at, proofs.raw_atomic.Walks.leaves, specs.Prelude.Some, specs.Prelude.length, specs.Prelude.slice_get}
use Rattle.core.proofs.{mem.Param.El, mem.Param.R, mem.Param.args, ptr.Rows.times_below, ptr.Rows.one_below}
use Rattle.std_alloc.proofs.{RcSteps.word, RcSteps.word-Good, VecSteps.Shapes.after}
use Prim.Native.Nat.{ℕ, ◌+◌, ◌*◌, ◌<◌, ◌^◌}
use base.{Fml.Lft, Fml.fat, Fraction.full_share, Logic.SProp, Logic.emp, Logic.never, Logic.id⊢}
use contract.BorrowLft.{◌⊑◌}
use contract.{Monad.fact, Monad.fact_i, Running.tables}
use denote.{Builtin.RefOf, Builtin.usize, Exit.yes, Exit.no, Index.place, Index.place_is, Memory.shared_of, Opens.hide, Opens.unhide, Param.layout}
use denote.{RattleType.owns, RawPtr.Ptr, RawPtr.in_a_block, Signature.plain, Signature.types_at, Steps.nothing, Steps.heard, Triple.Entry.alive}
use denote.Triple.Walked.{Stays, stay_dropped, walk_of, Goes-dropped}
use mathlib.Core.List.{List, [], ◌∷◌, ◌++◌}
use mathlib.Core.Path.{◌≡◌, refl, ◌∙◌}
use mir.{MapTy.inst_fn, Syntax.Fn, Syntax.w64, Val.Val, Val.vptr, Val.vint}
use native.Mathlib.Omega.{arith}
use prog.Wp.{Env, WpFn}
use types.ByLocal.{alloc_all, pass_all, free_all, look_at, get, get_in, through, sets, sets_last, take_at, give_at, env}
use types.Kit.{‵, raw, ◌⊛◌, prop, at_ret, ◌$◌, ◌∵◌, !, qed, by, move, drop, use0, use1, split, regoal, rewrite, fsplit, fjoin, feq_i, flt_l}
use types.{Part.whole, Part.sub, Run.stop, Run.fld, Run.of_opd, Run.bin, Run.size_lit, Run.addr, Run.first, Run.blocks, Run.exec, Run.returns, Run.enter}
use Rattle.dali_ring.specs.Block.{block_lends}
use Rattle.dali_ring.specs.contracts.block.Places.get.{ended, clauses, Key.name as #get}
use Rattle.dali_ring.proofs.{Held.step, Held.origin_is, Held.item_of, Held.shown, block.Places.get.Statement.statement}
use Rattle.dali_ring.specs.contracts.block.Origin as origin
use Rattle.dali_ring.specs.contracts.block.Places as places
use Rattle.dali_ring.proofs.block.Places.get.Code as code

pub get_spec : {M : Type 1} → statement M
get_spec 𝓤 𝓛 𝓜 𝓡 wired T L =
    let E : El = record { row = T; laws = L } in
    let fn : Fn = inst_fn (args E) code.function in
    let C = (tables 𝓤 𝓛.H 𝓜 𝓡 𝓡.env).C in
    let Λ = (tables 𝓤 𝓛.H 𝓜 𝓡 𝓡.env).Λ in
    let self-slot = RefOf (0 ∷ []) tt (plain (λ _. places.the_row (R E))) (λ _. tt) in
    let origin-slot = plain (λ _. origin.the_row (R E)) in
    let S = ended T in
    let stays : Stays S.signature.params S.kept = (stay_dropped self-slot yes, (stay_dropped origin-slot no, (stay_dropped (plain (λ _. usize)) yes, tt))) in
    let c = clauses T 𝓛 𝓜.mem 𝓡.returns in
    proved_at 𝓛 S stays c 𝓜 𝓡 (
      Goes-dropped 𝓛 2 self-slot yes (λ κs x f. refl),
      (
        Goes-dropped 𝓛 2 origin-slot no (λ κs x f. refl),
        (Goes-dropped 𝓛 2 (plain (λ _. usize)) yes (λ κs x f. refl), tt),
      ),
    )
    (#get (args E)) fn (code.unfolded 𝓤 𝓛.H 𝓜 𝓡 wired (T, tt)) (λ z are.
    let Post : Val → SProp 𝓤 = (walk_of 𝓛 S stays c).post z in
    let a = z.0.3 in let vss = z.0.4 in
    let p = a.0.now in let at = a.0.ref_ptr in let start = a.1.0 in let i = a.1.1.0 in
    let κ : Lft = z.0.0.0 in
    let s = step E in
    qed 𝓛 ((raw (alive 𝓛 S.signature z.0.0 z.0.1) ⊛ ‵ (owns (types_at S.signature.params z.0.0) a vss))
    ∷ (raw (fact 𝓤 (z.0.0.1.0 ⊑ T.lives)) ⊛ raw (fact 𝓤 (start.pointer ≡ p.origin)) ⊛ raw (fact 𝓤 ((i < p.count) × (i < length p.items)))) ∷ []) ∵
    move ! (1 ∷ []) $ split ! $ drop ! $ split ! $ heard ! (start.pointer ≡ p.origin) (λ same. heard ! ((i < p.count) × (i < length p.items)) (λ inside.
    let x = (item_of p.items i inside.1).0 in
    split ! $ move ! (1 ∷ []) $ fsplit ! $ fsplit ! $ drop ! $ move ! (1 ∷ []) $ drop ! $
    -- [what the `&` shows; the tokens]
    regoal ! (λ (us : List Val). prop (WpFn 𝓤 𝓛.H C Λ fn us Post)) (λ j. are.0.0 j ++ (origin_is (R E) start vss.1.0 are.1.0 j ++ (are.1.1.0.0 j ++ []))) refl $
    enter ! C Λ fn (vptr at.0 at.1 ∷ word start.pointer ∷ vint w64 i ∷ []) Post $
    alloc_all ! (λ l. pass_all ! refl ((tt, tt), (word-Good [] start.pointer, ((tt, record { fits = are.1.1.0.1 }), tt))) $
    let En : Env 𝓤 𝓛.H = env fn.locals l in
    unhide ! $ fsplit ! $ drop ! $ in_a_block ! p.origin (λ r. block_lends (R E) r p.count p.items κ) (id⊢ 𝓤 (never 𝓤)) (λ b o e. fsplit ! $ flt_l ! (λ small.
    let tiny : s < 2 ^ 64 = omega (arith, one_below p.count s (2 ^ 63) (omega arith) small) in
    let far : i * s < 2 ^ 64 = omega (arith, times_below i p.count s (2 ^ 63) (omega arith) small) in
    take_at ! 2 $ rewrite ! 0 (λ (r : Ptr). ‵ (fat full_share (layout (origin.the_row (R E))) (l 2) 0 (word r))) (same ∙ e) refl $ give_at ! 2 $
    first ! $ blocks ! $
    sets ! (bin ! (get ! refl) (size_lit ! (record { fits = tiny })) (record { fits = far })) refl (tt, record { fits = far }) $
    sets ! (bin ! (get_in ! (fld ! refl (stop !)) (sub ! 0 refl (whole !))) (get ! refl) tt) refl (tt, tt) $
    -- [the values; the tokens]
    use1 𝓛 (‵ (shared_of (R E) x b (place s o i) κ)) (shown E 𝓛 b κ o i p.items inside.1) $
    rewrite ! 0 (λ (k : ℕ). ‵ (shared_of (R E) x b k κ)) (place_is s o i) refl $ hide ! $
    sets_last ! (addr ! (through ! refl (stop !))) refl (tt, tt) $
    exec ! C Λ En (after 1 fn.body) (at_ret En Post) $ sets ! (of_opd ! (get ! refl)) refl (tt, tt) $
    returns ! (look_at ! 0 refl) $ free_all ! refl $
    let v : Val = vptr b (i * s + o) in
    feq_i ! (List Val) (v ∷ []) (v ∷ []) refl $ fjoin ! $
    use0 𝓛 (raw (fact 𝓤 (slice_get p.items i ≡ Some x))) (fact_i 𝓤 (slice_get p.items i ≡ Some x) (emp 𝓤) (item_of p.items i inside.1).1) $
    nothing ! $ nothing ! $ fjoin ! $ nothing ! $ fjoin ! $ nothing ! $ fjoin ! $ move ! (3 ∷ 0 ∷ 2 ∷ 1 ∷ []) $
    by ! (leaves 𝓛 S stays c z v (record { ref_ptr = (b, i * s + o); now = x }) (tt, (tt, (tt, tt))) (tt, (tt, (tt, tt))))))))))
