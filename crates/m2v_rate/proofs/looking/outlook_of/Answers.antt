use Rattle.m2v_rate.proofs.Measures.{outlook_is}
use Rattle.m2v_rate.proofs.looking.outlook_of.Goals as goal

pub returns-clause-group : goal.returns-clause-group
returns-clause-group c =
    rw (
      c.kinds.ensures.value,
      c.activities.ensures.value,
      c.items.ensures.value,
      c.requires.incomes,
      c.last_measured.ensures.value,
      c.last_measured-2.ensures.value,
      c.last_measured-3.ensures.value,
      c.mean_before.ensures.value,
      c.low_before.ensures.value,
      c.held_first.ensures.value,
    )
    (outlook_is c.args.ledger.now c.args.p c.settings-steady.ensures.ledger c.requires.even c.requires.picture c.requires.known)
