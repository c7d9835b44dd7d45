use Rattle.merge_certificates.proofs.clear.are_agreeing.Goals as goal

pub returns-then-agree_plainly-clause-agree : goal.returns-then-agree_plainly-clause-agree
returns-then-agree_plainly-clause-agree g c = c.if-agree_plainly.ensures.agree c.args.e
