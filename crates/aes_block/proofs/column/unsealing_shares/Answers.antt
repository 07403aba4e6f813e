use Rattle.aes_block.proofs.column.unsealing_shares.Goals as goal

pub returns-clause-first : goal.returns-clause-first
returns-clause-first c = rw (← c.first.ensures.value) c.unsealing_first.ensures

pub returns-clause-second : goal.returns-clause-second
returns-clause-second c = rw (← c.second.ensures.value) c.unsealing_second.ensures

pub returns-clause-third : goal.returns-clause-third
returns-clause-third c = rw (← c.third.ensures.value) c.unsealing_third.ensures

pub returns-clause-fourth : goal.returns-clause-fourth
returns-clause-fourth c = rw (← c.fourth.ensures.value) c.unsealing_fourth.ensures
