use Rattle.std.specs.Prelude.{◌≡◌, Some}
use Rattle.dali_search.specs.Ascending.{Ascent, IsAscent}
use Rattle.dali_c.specs.Codes.{bool_of}
use Rattle.dali_c.specs.Pairs.{random_of}
use Rattle.dali_c.specs.declared.ascents.PlainAscent.{PlainAscent}

-- its bytes are those of this ascent, and so of no other
pub record IsPlainAscent (p : PlainAscent) (a : Ascent) : Type 0 where
  pub ascent : IsAscent a
  pub low : a.low ≡ random_of p.low
  pub high : a.high ≡ random_of p.high
  pub top : a.top ≡ random_of p.top
  pub steps : a.steps ≡ p.steps
  pub anew : bool_of p.is_anew ≡ Some a.is_anew
  pub silent : a.silent ≡ p.silent
  pub found : a.found ≡ p.found
