use Rattle.std.proofs.{Common.ℕ, Common.List, Common.Option, KnownBytes.Appends-kept}
use Rattle.std.specs.Io.KnownBytes.{Appends, Keeps}

-- what was appended stays there if known bytes stay as they were
pub appends_kept : (a b c : Option (List ℕ)) (bs : List ℕ) → Appends a b bs → Keeps b c
    → Appends a c bs
appends_kept = Appends-kept
