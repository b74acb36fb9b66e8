use Rattle.btr_send.proofs.Committed.{sent_committed}
use Rattle.btr_send.proofs.Sent.{own_rules, sent_law}
use Rattle.btr_send.proofs.laws.sends_restored.Goals as goal

pub returns-clause-own : goal.returns-clause-own
returns-clause-own c = own_rules

pub returns-clause-sent : goal.returns-clause-sent
returns-clause-sent c = sent_law

pub returns-clause-committed : goal.returns-clause-committed
returns-clause-committed c = sent_committed
