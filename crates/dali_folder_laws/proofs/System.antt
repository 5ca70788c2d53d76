use Rattle.std.proofs.Common.{◌≡◌, ℕ, inl, inr, Bool, true, false, List, [], ◌∷◌, Option, Some, None, refl, ap, subst, sym, ◌∙◌}
use Rattle.std.specs.Prelude.{◌≢◌, IsSome, is_some, if◌then◌else◌}
use Rattle.dali_folder.specs.Events.{Event, Likens, SyncsFolder, AreBegun}
use Rattle.dali_folder.specs.Folder.{Names, Folders, put, moving, moved, AreSame, IsEither, IsSettled, IsPending, IsLeft, Happens, Happen}
use Rattle.dali_folder.proofs.Begun.{IsWhole, begun_one}
use Rattle.dali_folder.proofs.Names.{put_here, put_other}
use Rattle.dali_folder.proofs.Settled.{waits, settles}
use Rattle.dali_folder.proofs.Writing as texts
use Rattle.dali_folder.proofs.Moving as moves
use Rattle.dali_commission_stores.specs.Calls.{Call, Wrote, Renamed, Likened, Removed, Synced, Opened, Closed}
use Rattle.dali_folder_laws.specs.Folder.{IsSame, IsAfter, Leaves}
use Rattle.dali_folder_laws.specs.System.{but_for, asked_by, AreFit, IsThere}

-- in whose folder a call does something
abbrev pub place_of : Call → List ℕ
place_of (Wrote name text) = name
place_of (Renamed from to) = to
place_of (Likened name to) = name
place_of (Removed name) = name
place_of (Synced name) = name
place_of (Opened name) = name
place_of (Closed name) = name

module _ (passing : List ℕ → Bool) where
  seen : (names : Names) (at : List ℕ) → passing at ≡ false → but_for passing names at ≡ names at
  seen names at out = rw out refl

  pub each : (f g : Names) (at : List ℕ) → (passing at ≡ false → g at ≡ f at) → but_for passing g at ≡ but_for passing f at
  each f g at same = go (passing at) refl
    where
      go : (b : Bool) → passing at ≡ b → (if b then None else g at) ≡ (if b then None else f at)
      go true e = refl
      go false e = same e

  pub same : (f g : Names) → AreSame passing g f → IsSame (but_for passing f) (but_for passing g)
  same f g is at = each f g at (is at)

  -- A TEXT
  wrote : (name text : List ℕ) (f g : Names) → passing name ≡ false → AreSame passing g (put name (Some text) f)
      → IsAfter (Wrote name text) (but_for passing f) (but_for passing g)
  wrote name text f g out done = (
    seen g name out ∙ done name out ∙ put_here name (Some text) f,
    λ at other. each f g at (λ is. done at is ∙ put_other name (Some text) f at other),
  )

  -- A FILE THAT IS REMOVED
  removed : (name : List ℕ) (f g : Names) → passing name ≡ false → AreSame passing g (put name None f)
      → IsAfter (Removed name) (but_for passing f) (but_for passing g)
  removed name f g out done =
      (seen g name out ∙ done name out ∙ put_here name None f, λ at other. each f g at (λ is. done at is ∙ put_other name None f at other))

  -- ONE THAT IS RENAMED
  renamed : (from to file : List ℕ) (f g : Names) → passing from ≡ false → passing to ≡ false → from ≢ to → f from ≡ Some file
      → AreSame passing g (put to (Some file) (put from None f)) → IsAfter (Renamed from to) (but_for passing f) (but_for passing g)
  renamed from to file f g out also differ has done = (
    ap is_some (seen f from out ∙ has),
    seen g from out ∙ done from out ∙ put_other to (Some file) (put from None f) from differ ∙ put_here from None f,
    seen g to also ∙ done to also ∙ put_here to (Some file) (put from None f) ∙ sym has ∙ sym (seen f from out),
    λ at not_from not_to. each f g at (λ is. done at is
        ∙ put_other to (Some file) (put from None f) at not_to ∙ put_other from None f at not_from),
  )

  -- WHAT HAS ONE EVENT that leaves all on the disk
  module _ (was now : Folders) (calm : IsSettled passing was) where
    one : (event : Event) → IsWhole event
        → ((at : Folders) → Happens event was at → IsSettled passing at × AreSame passing at.holds was.holds)
        → (begun : List Event) → AreBegun begun (event ∷ []) → Happen begun was now
        → IsSettled passing now × AreSame passing now.holds was.holds
    one event whole keeps [] b e =
        subst (λ (f : Folders). IsSettled passing f × AreSame passing f.holds was.holds) e (calm, λ at out. refl)
    one event whole keeps (d ∷ []) b (t, h, e) =
        let both = begun_one event d [] [] whole b in
        subst (λ (f : Folders). IsSettled passing f × AreSame passing f.holds was.holds) e
        (keeps t (subst (λ (e : Event). Happens e was t) both.0 h))
    one event whole keeps (d ∷ f ∷ more) b h = absurd ((begun_one event d [] (f ∷ more) whole b).1)

    pub likened : (name to : List ℕ) (at : Folders) → Happens (Likens name to) was at
        → IsSettled passing at × AreSame passing at.holds was.holds
    likened name to at h = (
      record {
        bytes = λ other out. ap (λ (f : List ℕ → Bool). f other) h.bytes ∙ calm.bytes other out;
        names = λ other out. ap (λ (f : List ℕ → Bool). f other) h.names ∙ calm.names other out;
        disk = λ other out. h.disk other ∙ calm.disk other out ∙ sym (ap (λ (f : Names). f other) h.holds);
      },
      λ other out. ap (λ (f : Names). f other) h.holds,
    )

    pub synced : (name : List ℕ) (at : Folders) → Happens (SyncsFolder name) was at
        → IsSettled passing at × AreSame passing at.holds was.holds
    synced name at h = settles passing name was at h name refl (waits passing name was calm)

    -- A STOP WITHIN A CALL
    abbrev pub IsStopped : Call → Type 0
    IsStopped call =
        IsPending passing (place_of call) now × Leaves call (but_for passing was.holds) (but_for passing now.holds)
        × Leaves call (but_for passing was.holds) (but_for passing now.disk)

    either : (call : Call) (after : Names) → ((g : Names) → AreSame passing g after → Leaves call (but_for passing was.holds) (but_for passing g))
        → IsLeft passing (place_of call) was.holds after now → IsStopped call
    either call after done left = (left.pending, so now.holds left.holds, so now.disk left.disk)
      where
        so : (g : Names) → IsEither passing g was.holds after → Leaves call (but_for passing was.holds) (but_for passing g)
        so g (inl is) = inl (same was.holds g is)
        so g (inr is) = done g is

    nothing : (call : Call) → IsSettled passing now × AreSame passing now.holds was.holds → IsStopped call
    nothing call (still, is) = (
      waits passing (place_of call) now still,
      inl (same was.holds now.holds is),
      inl (same was.holds now.disk (λ at out. still.disk at out ∙ is at out)),
    )

    away : (from to : List ℕ) (g : Names) → passing from ≡ false → passing to ≡ false → from ≢ to → AreSame passing g (moved from to was.holds)
        → Leaves (Renamed from to) (but_for passing was.holds) (but_for passing g)
    away from to g out also differ is = go (was.holds from) refl is
      where
        go : (o : Option (List ℕ)) → was.holds from ≡ o → AreSame passing g (moving o from to was.holds)
            → Leaves (Renamed from to) (but_for passing was.holds) (but_for passing g)
        go None has done = inl (same was.holds g done)
        go (Some file) has done = inr (renamed from to file was.holds g out also differ has done)

    pub stops : (part log : List ℕ → List ℕ) (call : Call) (begun : List Event) → AreFit passing part log call
        → AreBegun begun (asked_by part log call) → Happen begun was now → IsStopped call
    stops part log (Wrote name text) begun (out, hides) b h =
        either (Wrote name text) (put name (Some text) was.holds) (λ g is. inr (wrote name text was.holds g out is))
        (texts.stop passing (part name) name text hides was now begun b calm h)
    stops part log (Removed name) begun out b h =
        either (Removed name) (put name None was.holds) (λ g is. inr (removed name was.holds g out is)) (moves.stop passing name was now calm begun b h)
    stops part log (Opened name) begun fit b h = absurd fit
    stops part log (Closed name) begun fit b h = absurd fit
    stops part log (Likened name to) begun fit b h = nothing (Likened name to) (one (Likens name to) tt (likened name to) begun b h)
    stops part log (Synced name) begun fit b h = nothing (Synced name) (one (SyncsFolder name) tt (synced name) begun b h)
    stops part log (Renamed from to) begun (out, also, hides, differ, near) b h =
        either (Renamed from to) (moved from to was.holds) (λ g is. away from to g out also differ is)
        (moves.stop_renaming passing (log to) from to was now hides out near calm begun b h)

    -- A CALL THAT ENDS WELL
    pub ends : (part log : List ℕ → List ℕ) (call : Call) → AreFit passing part log call → IsThere call was.holds
        → Happen (asked_by part log call) was now → IsSettled passing now × IsAfter call (but_for passing was.holds) (but_for passing now.holds)
    ends part log (Wrote name text) (out, hides) there h =
        let end = texts.ended passing (part name) name text hides was now calm h in (end.0, wrote name text was.holds now.holds out end.1)
    ends part log (Removed name) out there h =
        let end = moves.ended passing name was now calm h in (end.0, removed name was.holds now.holds out end.1)
    ends part log (Opened name) fit there h = absurd fit
    ends part log (Closed name) fit there h = absurd fit
    ends part log (Likened name to) fit there (mid, h, done) =
        let end = likened name to mid h in
        subst (λ (f : Folders). IsSettled passing f × IsAfter (Likened name to) (but_for passing was.holds) (but_for passing f.holds)) done
        (end.0, same was.holds mid.holds end.1)
    ends part log (Synced name) fit there (mid, h, done) =
        let end = synced name mid h in
        subst (λ (f : Folders). IsSettled passing f × IsAfter (Synced name) (but_for passing was.holds) (but_for passing f.holds)) done
        (end.0, same was.holds mid.holds end.1)
    ends part log (Renamed from to) (out, also, hides, differ, near) there h = go (was.holds from) refl there end.1
      where
        end : IsSettled passing now × AreSame passing now.holds (moved from to was.holds)
        end = moves.ended_renaming passing (log to) from to was now hides out near calm h

        go : (o : Option (List ℕ)) → was.holds from ≡ o → IsSome (was.holds from) → AreSame passing now.holds (moving o from to was.holds)
            → IsSettled passing now × IsAfter (Renamed from to) (but_for passing was.holds) (but_for passing now.holds)
        go None has some is = let none = ap is_some has in absurd (cc)
        go (Some file) has some is = (end.0, renamed from to file was.holds now.holds out also differ has is)
