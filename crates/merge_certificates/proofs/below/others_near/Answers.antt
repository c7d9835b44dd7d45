use Rattle.merge_certificates.proofs.below.others_near.Goals as goal

pub returns-clause-rest : goal.returns-clause-rest
returns-clause-rest c indexed = c.in_ok-others.ensures.rest (c.in_ok-near.ensures indexed)
