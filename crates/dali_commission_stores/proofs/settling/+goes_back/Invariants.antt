use Rattle.dali_commission_stores.proofs.settling.+goes_back.Given as goal

abbrev pub decreases-goes_back : goal.decreases-goes_back
decreases-goes_back g l = l.from
