use Rattle.std.proofs.Common.{◌≡◌, refl, ap, List, [], ◌∷◌, ◌++◌, Bool, true, false, if◌then◌else◌}
use Rattle.dali_audit.specs.declared.comparing.Step.{Step}
use Rattle.dali_audit.specs.Frames.{is_frame_step, frames_of}

-- one step more is one frame more, if it is one
pub frames_more : (xs : List Step) (s : Step) → frames_of (xs ++ s ∷ []) ≡ frames_of xs ++ frames_of (s ∷ [])
frames_more [] s = refl
frames_more (x ∷ xs) s = go (is_frame_step x) (frames_more xs s) where
  go : (b : Bool) → frames_of (xs ++ s ∷ []) ≡ frames_of xs ++ frames_of (s ∷ [])
      → (if b then x ∷ frames_of (xs ++ s ∷ []) else frames_of (xs ++ s ∷ []))
      ≡ (if b then x ∷ frames_of xs else frames_of xs) ++ frames_of (s ∷ [])
  go true e = ap (λ ys. x ∷ ys) e
  go false e = e
