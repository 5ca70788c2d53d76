-- `put` takes a place out of the block as room, fills it, and lays it back. Assumes `Logic`.
use Rattle.std.{proofs.raw_atomic.Walks.proved_at, proofs.raw_atomic.Walks.leaves, specs.Prelude.length}
use Rattle.core.proofs.{mem.Param.El, mem.Param.R, mem.Param.args, mem.Param.elτ, mem.Param.lawful, mem.Param.one, ptr.Rows.times_below, ptr.Rows.one_below}
use Rattle.std_alloc.proofs.{RcSteps.word, RcSteps.word-Good, VecSteps.Shapes.after}
use Prim.Native.Nat.{ℕ, ◌+◌, ◌*◌, ◌<◌, ◌≤◌, ◌^◌}
use base.{Fml.Lft, Fml.Share, Fml.ftrue, Fml.fat, Fml.flft, Fml.froom, Fraction.full_share, Logic.SProp, Logic.emp, Logic.never, Logic.id⊢}
use borrow.Table.OneValue.{part_in}
use contract.BorrowLft.{◌⊑◌}
use contract.{Monad.fact, Monad.fact_i, Running.tables}
use denote.{Builtin.usize, Exit.yes, Exit.no, Index.place, Index.place_is, Memory.part_at, Param.layout, RattleType.RattleType, RattleType.owns, RawPtr.Ptr}
use denote.{RawPtr.in_a_block, Signature.plain, Signature.types_at, Steps.nothing, Steps.heard, Steps.opens, Steps.closes, Triple.Entry.alive}
use denote.Triple.Walked.{Stays, stay_dropped, stay_ref, walk_of, Goes-dropped, Goes-ref}
use mathlib.Core.List.{List, [], ◌∷◌, ◌++◌}
use mathlib.Core.Path.{◌≡◌, refl, sym, ◌∙◌}
use mir.{MapTy.inst_fn, Syntax.Fn, Syntax.w64, Val.Val, Val.vptr, Val.vint, Val.vunit}
use native.Mathlib.Omega.{arith}
use prog.Wp.{Env, WpFn}
use types.ByLocal.{alloc_all, pass_all, free_all, look_at, get, get_in, through, sets, take_at, give_at, env}
use types.Kit.{‵, raw, ◌⊛◌, prop, at_ret, ◌$◌, ◌∵◌, !, qed, by, move, drop, use0, use1, use2, split, join, regoal, rewrite, fsplit, fsplit3, fjoin, fjoin3}
use types.{Kit.feq_i, Kit.flt_i, Kit.flt_l, Part.whole, Part.sub}
use types.Run.{init, stop, fld, unit_lit, of_opd, bin, size_lit, assigns_last, first, blocks, exec, returns, enter}
use Rattle.dali_ring.specs.Block.{put_at, filled, block_owns}
use Rattle.dali_ring.specs.contracts.block.Places.put.{ended, clauses, Key.name as #put}
use Rattle.dali_ring.proofs.{Held.step, Held.origin_is, Held.besides, Held.taken, Held.put, block.Places.put.Statement.statement}
use Rattle.dali_ring.specs.contracts.block.Origin as origin
use Rattle.dali_ring.specs.contracts.block.Places as places
use Rattle.dali_ring.proofs.block.Places.put.Code as code

pub put_spec : {M : Type 1} → statement M
put_spec 𝓤 𝓛 𝓜 𝓡 wired T L =
    let E : El = record { row = T; laws = L } in
    let fn : Fn = inst_fn (args E) code.function in
    let C = (tables 𝓤 𝓛.H 𝓜 𝓡 𝓡.env).C in
    let Λ = (tables 𝓤 𝓛.H 𝓜 𝓡 𝓡.env).Λ in
    let Self : RattleType = places.the_row (R E) in
    let origin-slot = plain (λ _. origin.the_row (R E)) in
    let S = ended T in
    let stays : Stays S.signature.params S.kept =
    (stay_ref (0 ∷ []) tt (plain (λ _. Self)), (stay_dropped origin-slot no, (stay_dropped (plain (λ _. usize)) yes, (stay_dropped (plain (λ _. R E)) no, tt))))
    in
    let c = clauses T 𝓛 𝓜.mem 𝓡.returns in
    proved_at 𝓛 S stays c 𝓜 𝓡 (
      Goes-ref 𝓛 2 0 tt (plain (λ _. Self)),
      (
        Goes-dropped 𝓛 2 origin-slot no (λ κs x f. refl),
        (Goes-dropped 𝓛 2 (plain (λ _. usize)) yes (λ κs x f. refl), (Goes-dropped 𝓛 2 (plain (λ _. R E)) no (λ κs x f. refl), tt)),
      ),
    )
    (#put (args E)) fn (code.unfolded 𝓤 𝓛.H 𝓜 𝓡 wired (T, tt)) (λ z are.
    let Post : Val → SProp 𝓤 = (walk_of 𝓛 S stays c).post z in
    let a = z.0.3 in let vss = z.0.4 in
    let p = a.0.now in let at = a.0.ref_ptr in let start = a.1.0 in let i = a.1.1.0 in let item = a.1.1.1.0 in
    let κ : Lft = z.0.0.0 in let q : Share = z.0.1.0 in
    let s = step E in
    let here = (i < p.count) × (i ≤ length p.items) in
    let given = one E vss.1.1.1.0 ((lawful E 𝓛).typed item vss.1.1.1.0 are.1.1.1.0) in
    let v : Val = given.0 in let good = given.2 in
    let new : Self.Denot = record p { items = put_at i item p.items } in
    qed 𝓛 ((raw (alive 𝓛 S.signature z.0.0 z.0.1) ⊛ ‵ (owns (types_at S.signature.params z.0.0) a vss))
    ∷ (raw (fact 𝓤 (z.0.0.1.0 ⊑ T.lives)) ⊛ raw (fact 𝓤 (start.pointer ≡ p.origin)) ⊛ raw (fact 𝓤 here)) ∷ []) ∵
    move ! (1 ∷ []) $ split ! $ drop ! $ split ! $ heard ! (start.pointer ≡ p.origin) (λ same. heard ! here (λ inside.
    split ! $ move ! (1 ∷ []) $ fsplit ! $ fsplit3 ! $ drop ! $ move ! (2 ∷ []) $ fsplit ! $ drop ! $ fsplit ! $ drop ! $ fsplit ! $ move ! (1 ∷ []) $ drop ! $
    rewrite ! 0 (λ (us : List Val). ‵ (T.own_val item us)) given.1 refl $ move ! (3 ∷ []) $
    use1 𝓛 (‵ (flft κ q) ⊛ ‵ (flft z.0.0.1.0 z.0.1.1.0) ⊛ ‵ ftrue) (id⊢ 𝓤 _) $ split ! $ move ! (3 ∷ 4 ∷ 0 ∷ 2 ∷ []) $
    -- [what `self` is seen at; its borrow; the token; what the item owns; the other tokens]
    regoal ! (λ (us : List Val). prop (WpFn 𝓤 𝓛.H C Λ fn us Post))
    (λ j. are.0.0 j ++ (origin_is (R E) start vss.1.0 are.1.0 j ++ (are.1.1.0.0 j ++ (given.1 j ++ [])))) refl $
    enter ! C Λ fn (vptr at.0 at.1 ∷ word start.pointer ∷ vint w64 i ∷ v ∷ []) Post $
    alloc_all ! (λ l. pass_all ! refl ((tt, tt), (word-Good [] start.pointer, ((tt, record { fits = are.1.1.0.1 }), (good, tt)))) $
    let En : Env 𝓤 𝓛.H = env fn.locals l in
    opens ! tt Self {h = p} at.0 at.1 (λ us. move ! (1 ∷ []) $ fsplit ! $ move ! (1 ∷ []) $
    in_a_block ! p.origin (λ r. block_owns (R E) r p.count p.items) (id⊢ 𝓤 (never 𝓤)) (λ b o e. fsplit ! $ flt_l ! (λ small.
    let tiny : s < 2 ^ 64 = omega (arith, one_below p.count s (2 ^ 63) (omega arith) small) in
    let far : i * s < 2 ^ 64 = omega (arith, times_below i p.count s (2 ^ 63) (omega arith) small) in
    take_at ! 2 $ rewrite ! 0 (λ (r : Ptr). ‵ (fat full_share (layout (origin.the_row (R E))) (l 2) 0 (word r))) (same ∙ e) refl $ give_at ! 2 $
    first ! $ blocks ! $
    sets ! (bin ! (get ! refl) (size_lit ! (record { fits = tiny })) (record { fits = far })) refl (tt, record { fits = far }) $
    sets ! (bin ! (get_in ! (fld ! refl (stop !)) (sub ! 0 refl (whole !))) (get ! refl) tt) refl (tt, tt) $
    use1 𝓛 (‵ (froom (elτ E) b (place s o i)) ⊛ ‵ (besides E b o p.count i p.items)) (taken E 𝓛 b o p.count i p.items inside.0 inside.1) $ split ! $
    rewrite ! 0 (λ (k : ℕ). ‵ (froom (elτ E) b k)) (place_is s o i) refl $
    -- [the room; the other places; the mark; its cell; the open borrow, in three entries; what the item owns; the other tokens]
    sets ! (of_opd ! (get ! refl)) refl good $ assigns_last ! (of_opd ! (get ! refl)) (through ! refl (stop !)) (init ! 0 refl good) $
    exec ! C Λ En (after 1 fn.body) (at_ret En Post) $ sets ! (of_opd ! (unit_lit !)) refl (tt, tt) $
    move ! (0 ∷ 7 ∷ []) $ use2 𝓛 (‵ (part_at (R E) full_share item b (i * s + o))) (part_in 𝓛 (R E) refl full_share item b (i * s + o) v) $
    rewrite ! 0 (λ (k : ℕ). ‵ (part_at (R E) full_share item b k)) (sym (place_is s o i)) refl $
    use2 𝓛 (‵ (filled (R E) b o p.count new.items)) (put E 𝓛 b o p.count i p.items item inside.0 inside.1) $
    flt_i ! (p.count * s) (2 ^ 63) small $ fjoin ! $ rewrite ! 0 (λ (r : Ptr). ‵ (block_owns (R E) r p.count new.items)) (sym e) refl $
    move ! (1 ∷ 0 ∷ []) $ fjoin ! $ move ! (1 ∷ 0 ∷ []) $ closes ! tt Self new us at.0 at.1 $
    returns ! (look_at ! 0 refl) $ free_all ! refl $
    -- [what `self` is seen at; its borrow; the token; the other tokens]
    feq_i ! (List Val) vss.0 (vptr at.0 at.1 ∷ []) are.0.0 $ fjoin3 ! $ nothing ! $ nothing ! $ fjoin ! $ nothing ! $ fjoin ! $ nothing ! $ fjoin ! $ move !
    (1 ∷ 0 ∷ []) $ fjoin ! $
    move ! (1 ∷ 2 ∷ []) $ join ! $ feq_i ! (List Val) (vunit ∷ []) (vunit ∷ []) refl $
    use0 𝓛 (raw (fact 𝓤 (new.items ≡ put_at i item p.items))) (fact_i 𝓤 (new.items ≡ put_at i item p.items) (emp 𝓤) refl) $
    use0 𝓛 (raw (fact 𝓤 ((new.origin ≡ p.origin) × (new.count ≡ p.count)))) (fact_i 𝓤 ((new.origin ≡ p.origin) × (new.count ≡ p.count)) (emp 𝓤) (refl, refl)) $
    join ! $ move ! (2 ∷ 3 ∷ 1 ∷ 0 ∷ []) $
    by ! (leaves 𝓛 S stays c z vunit tt (new, (tt, (tt, (tt, tt)))) (tt, (tt, (tt, (tt, tt))))))))))))
