use Rattle.dali_commissioning.proofs.Tried.{split, put_first, lost_first}
use Rattle.dali_commissioning.proofs.unaddressed.+put_all.Goals as goal

pub returns-in_ok-later-in-Some-clause-put : goal.returns-in_ok-later-in-Some-clause-put
returns-in_ok-later-in-Some-clause-put g t c =
    let (told, put, told_so) = c.in_ok-heard-in-len1-up.ensures.put in
    put_first _ _ c.putting-item.result told _ _ _ _ _ _ _ _ (split _ _ c.putting-item.is c.in-len1-up.len_at_least) put told_so c.in-Some.is c.is_yes.ensures
    c.in_ok-later-in-Some.ensures.put c.joined_yes.ensures

pub returns-in-None-clause-put : goal.returns-in-None-clause-put
returns-in-None-clause-put g t c =
    let (told, put, told_so) = c.in_ok-heard-in-len1-up.ensures.put in
    lost_first _ _ c.putting-item.result told _ _ _ (split _ _ c.putting-item.is c.in-len1-up.len_at_least) put told_so c.in-None.is
