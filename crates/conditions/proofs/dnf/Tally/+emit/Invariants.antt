use Rattle.conditions.proofs.dnf.Tally.+emit.Given as goal

abbrev pub decreases-emit : goal.decreases-emit
decreases-emit l = l.term.link
